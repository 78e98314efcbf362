use native.Mathlib.Omega.{arith}
use mathlib.Core.Path.{sym, ap, ◌∙◌}
use mathlib.Core.List.{List}
use Prim.Native.Nat.{ℕ}
use Rattle.rules.specs.Names.{name_in_lem, names_for}
use Rattle.rules.specs.Csv.{or_id}
use Rattle.text.proofs.Chain.{wrote_as}
use Rattle.csvrecord.proofs.RecordLaws.{id-alone}
use Rattle.csvrecord.proofs.put_property.Goals as goal

pub returns-in_default : goal.returns-in_default
returns-in_default c =
    let a = c.args in
    wrote_as c.put_hex.ensures (sym (id-alone a.mark a.id (omega (arith, c.in_default.ensures))))

pub returns : goal.returns
returns c =
    wrote_as c.put_name_or_id.ensures (ap (λ (l : List ℕ). or_id l c.args.id) (c.value_name_near.ensures ∙ ap (name_in_lem (names_for c.args.mark)) c.in-Ok.ensures.1))
