use mathlib.Core.Path.{refl}
use Rattle.nametables.specs.Directory.{all_names}
use Rattle.rules.specs.NameTables.{text_names, number_names, bytes_names, control_type_names}
use Rattle.nametables.proofs.letters.Statement.{statement}
use Rattle.nametables.proofs.letters.Tie as tie

returns : tie.Need-returns
unfolding all_names text_names number_names bytes_names control_type_names
returns c = refl

pub letters_spec : {M : Type 1} → statement M
letters_spec = tie.close (tie.spec returns)
