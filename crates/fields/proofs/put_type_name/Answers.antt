use native.Mathlib.Omega.{arith}
use mathlib.Core.Path.{ap, ◌∙◌}
use Rattle.rules.specs.NameTables.{control_type_names}
use Rattle.rules.specs.Names.{name_in_lem}
use Rattle.rules.specs.Listing.{or_dash}
use Rattle.text.proofs.Chain.{wrote_as}
use Rattle.fields.proofs.Tables.{control-types, dash}
use Rattle.fields.proofs.put_type_name.Goals as goal

pub returns-in_default : goal.returns-in_default
returns-in_default c =
    rw (dash control_type_names control-types c.args.code (omega (arith, c.in_default.ensures))) c.put_byte.ensures

pub returns : goal.returns
returns c =
    wrote_as c.put_name.ensures (ap or_dash (c.type_name_in.ensures ∙ ap (name_in_lem control_type_names) c.in-Ok.ensures.1))
