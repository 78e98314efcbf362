-- The four tables in the directory: that each stands there in order is computed once, here.
use mathlib.Core.Path.{◌≡◌, refl, ◌∙◌}
use mathlib.Core.List.{[]}
use Prim.Native.Nat.{ℕ, ◌+◌}
use lib.Dec.{leb→le}
use lib.ListN.{length}
use Rattle.rules.specs.Lists.{ascends}
use Rattle.rules.specs.NameTables.{Table, text_names, number_names, bytes_names, control_type_names}
use Rattle.nametables.specs.Directory.{all_names}
use Rattle.names.specs.Lookup.{Rows}

-- ---- where each begins
abbrev numbers_from : ℕ
numbers_from = length text_names

abbrev bytes-from : ℕ
bytes-from = numbers_from + length number_names

abbrev types-from : ℕ
types-from = bytes-from + length bytes_names

pub texts : Rows 0 numbers_from text_names
unfolding all_names ascends text_names number_names bytes_names control_type_names
texts = record { stand = record { ordered = leb→le _ _ tt; inside = leb→le _ _ tt; ascending = tt }; are = refl }

pub numbers : Rows numbers_from bytes-from number_names
unfolding all_names ascends text_names number_names bytes_names control_type_names
numbers = record { stand = record { ordered = leb→le _ _ tt; inside = leb→le _ _ tt; ascending = tt }; are = refl }

pub bytes : Rows bytes-from types-from bytes_names
unfolding all_names ascends text_names number_names bytes_names control_type_names
bytes = record { stand = record { ordered = leb→le _ _ tt; inside = leb→le _ _ tt; ascending = tt }; are = refl }

pub control-types : Rows types-from (length all_names) control_type_names
unfolding all_names ascends text_names number_names bytes_names control_type_names
control-types = record { stand = record { ordered = leb→le _ _ tt; inside = leb→le _ _ tt; ascending = tt }; are = refl }

pub none : Rows 0 0 []
unfolding all_names ascends text_names number_names bytes_names control_type_names
none = record { stand = record { ordered = leb→le _ _ tt; inside = leb→le _ _ tt; ascending = tt }; are = refl }

pub rows_as : {from to : ℕ} {t u : Table} → Rows from to t → t ≡ u → Rows from to u
rows_as r e = record { stand = r.stand; are = r.are ∙ e }
