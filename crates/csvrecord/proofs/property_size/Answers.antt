use native.Mathlib.Omega.{arith}
use mathlib.Core.Path.{sym, ap, ◌∙◌}
use lib.ListN.{length}
use Rattle.rules.specs.Names.{name_in_lem, names_for}
use Rattle.csvrecord.proofs.RecordLaws.{id-alone, no_name, a_name, four_digits_lem}
use Rattle.csvrecord.proofs.property_size.Goals as goal

pub returns-in_default : goal.returns-in_default
returns-in_default c =
    let a = c.args in
    sym (ap length (id-alone a.mark a.id (omega (arith, c.in_default.ensures))) ∙ four_digits_lem a.id)

pub returns-then-size-eq0 : goal.returns-then-size-eq0
returns-then-size-eq0 c =
    let a = c.args in
    let e = ap length (c.value_name_in-size.ensures ∙ ap (name_in_lem (names_for a.mark)) c.in-Ok.ensures.1) in
    sym (ap length (no_name (name_in_lem (names_for a.mark) a.id) a.id (sym e ∙ omega arith)) ∙ four_digits_lem a.id)

pub returns-else-size-eq0 : goal.returns-else-size-eq0
returns-else-size-eq0 c =
    let a = c.args in
    let e = ap length (c.value_name_in-size.ensures ∙ ap (name_in_lem (names_for a.mark)) c.in-Ok.ensures.1) in
    e ∙ sym (ap length (a_name (name_in_lem (names_for a.mark) a.id) a.id (λ z. omega (arith, e))))
