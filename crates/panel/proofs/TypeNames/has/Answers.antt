-- A type of more than 16 bits has no name; another has one where its name isn't empty.
use native.Mathlib.Omega.{arith}
use Rattle.std.proofs.Common.{◌∙◌, ap, not}
use Rattle.rules.specs.Names.{name_in_lem}
use Rattle.rules.specs.NameTables.{control_type_names}
use Rattle.panel.proofs.TypeLaws.{large_nameless, by_length}
use Rattle.panel.proofs.TypeNames.has.Goals as goal

pub returns-in_default : goal.returns-in_default
returns-in_default c = large_nameless c.args.type_code (omega (arith, c.in_default.ensures))

pub returns : goal.returns
returns c =
    ap not c.is_empty.ensures ∙ by_length c.args.type_code c.type_name_in.result.now (c.type_name_in.ensures ∙ ap (name_in_lem control_type_names) c.in-Ok.ensures.1)
