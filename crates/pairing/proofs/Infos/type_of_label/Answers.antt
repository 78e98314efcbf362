-- The label, once it is written, is looked for as a name.
use native.Mathlib.Omega.{arith}
use Rattle.std.proofs.Common.{◌∙◌, ap, refl}
use Rattle.std.proofs.Math.Option.{some}
use Rattle.rules.specs.Lists.{find}
use Rattle.rules.specs.Pairing.{infos_in, has_name, type_by}
use Rattle.pairing.proofs.TypeLaws.{labelled}
use Rattle.pairing.proofs.Infos.type_of_label.Goals as goal

pub invariant_of-type_of_name : goal.invariant_of-type_of_name
invariant_of-type_of_name c = record {
  inside = (labelled c.args.number _ _ c.label_text-written.result (omega arith) refl c.label_text-written.ensures.value c.label_text-written.ensures.out_after).inside;
}

pub returns : goal.returns
returns c =
    let a = c.args in
    c.type_of_name.ensures
    ∙ ap (λ name. type_by a.own (find (has_name a.self.stream.now (some name)) (infos_in a.self.count a.self.rows.now)))
    (labelled a.number _ _ c.label_text-written.result (omega arith) refl c.label_text-written.ensures.value c.label_text-written.ensures.out_after).is-label
