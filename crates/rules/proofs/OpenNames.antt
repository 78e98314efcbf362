-- The name tables and their look-up.
use Prim.Native.Nat.{ℕ}
use Rattle.rules.specs.NameTables.{text_names, number_names, bytes_names, control_type_names}
use Rattle.rules.specs.Names.{name_in_lem, names_for}

unfoldable pub names_open : ℕ
unfolding text_names number_names bytes_names control_type_names name_in_lem names_for
names_open = 0
