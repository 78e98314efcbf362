use native.Mathlib.Omega.{arith}
use mathlib.Core.Path.{ap, ◌∙◌}
use Rattle.rules.specs.Names.{name_in_lem, names_for}
use Rattle.rules.specs.Listing.{or_dash}
use Rattle.text.proofs.Chain.{wrote_as}
use Rattle.fields.proofs.Tables.{values, dash}
use Rattle.fields.proofs.put_value_name.Goals as goal

pub returns-in_default : goal.returns-in_default
returns-in_default c =
    let a = c.args in
    rw (dash (names_for a.mark) (values a.mark) a.id (omega (arith, c.in_default.ensures))) c.put_byte.ensures

pub returns : goal.returns
returns c =
    wrote_as c.put_name.ensures (ap or_dash (c.value_name_in.ensures ∙ ap (name_in_lem (names_for c.args.mark)) c.in-Ok.ensures.1))
