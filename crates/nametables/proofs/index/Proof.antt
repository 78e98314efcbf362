use mathlib.Core.Path.{refl}
use Rattle.nametables.specs.Directory.{all_names}
use Rattle.rules.specs.NameTables.{text_names, number_names, bytes_names, control_type_names}
use Rattle.nametables.proofs.index.Statement.{statement}
use Rattle.nametables.proofs.index.Tie as tie

returns : tie.Need-returns
unfolding all_names text_names number_names bytes_names control_type_names
returns c = refl

pub index_spec : {M : Type 1} → statement M
index_spec = tie.close (tie.spec returns)
