use mathlib.Core.Path.{ap, ◌∙◌}
use Rattle.rules.specs.NameTables.{Table, text_names, number_names, bytes_names, control_type_names}
use Rattle.rules.specs.Names.{name_in_lem}
use Rattle.nametables.specs.Directory.{all_names}
use Rattle.names.proofs.InOrder.{control-types}
use Rattle.names.proofs.type_name_in.Goals as goal

pub name_in-requires : goal.name_in-requires
unfolding all_names text_names number_names bytes_names control_type_names
name_in-requires c = record { lent = c.requires; stand = control-types.stand }

pub returns : goal.returns
unfolding all_names text_names number_names bytes_names control_type_names
returns c = c.name_in.ensures ∙ ap (λ (t : Table). name_in_lem t c.args.id) control-types.are
