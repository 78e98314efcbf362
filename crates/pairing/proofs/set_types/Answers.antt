-- The row of a turn, by the rows as they are.
use native.Mathlib.Omega.{arith}
use Rattle.std.proofs.Common.{◌*◌, ◌∙◌, sym, ap₂, subst, ℕ, List, set}
use Rattle.rules.specs.Rows.{control_width, row_at}
use Rattle.rules.specs.Pairing.{infos_in}
use Rattle.rules.proofs.PairingLaws.{fair, lent}
use Rattle.rows.specs.Get.{ControlOf}
use Rattle.pairing.proofs.TypeLaws.{types-none, types-next, next-ok, next-type}
use Rattle.pairing.proofs.set_types.Goals as goal

pub loop-k-init : goal.loop-k-init
loop-k-init c = sym (types-none c.args.s.now c.args.t.now c.args.controls.now (infos_in c.args.info_count c.args.infos.now))

pub paired_type-type_code-requires : goal.paired_type-type_code-requires
paired_type-type_code-requires c =
    let a = c.args in
    let judged = fair a.s.now a.controls.now a.control_count a.t.now a.infos.now a.info_count c.requires in
    record {
      row_value = next-ok a.s.now a.t.now a.controls.now (infos_in a.info_count a.infos.now) c.loop-k.k c.get_control-row.result
          (subst (λ words. ControlOf (row_at control_width c.loop-k.k words) c.get_control-row.result) c.loop-k.invariant c.get_control-row.ensures) a.control_count judged.controls-ok (omega arith);
      infos_value = judged.infos-ok;
    }

pub bounds-controls-k : goal.bounds-controls-k
bounds-controls-k c =
    let a = c.args in
    let judged = fair a.s.now a.controls.now a.control_count a.t.now a.infos.now a.info_count c.requires in
    omega (arith, lent a.s.now a.controls.now a.control_count a.t.now a.infos.now a.info_count judged)

pub loop-k-preserved : goal.loop-k-preserved
loop-k-preserved c =
    let a = c.args in
    let infos = infos_in a.info_count a.infos.now in
    ap₂ (λ (words : List ℕ) (type : ℕ). set words (c.loop-k.k * control_width) type) c.loop-k.invariant
    (c.paired_type-type_code.ensures ∙ next-type a.s.now a.t.now a.controls.now infos c.loop-k.k c.get_control-row.result
    (subst (λ words. ControlOf (row_at control_width c.loop-k.k words) c.get_control-row.result) c.loop-k.invariant c.get_control-row.ensures))
    ∙ sym (types-next a.s.now a.t.now a.controls.now infos c.loop-k.k)
