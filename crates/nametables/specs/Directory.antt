-- How the code has the four tables: their rows one after the other, the names end to end.
use Rattle.std.specs.Prelude.{ℕ, ◌+◌, List, [], ◌∷◌, ◌++◌, length}
use Rattle.rules.specs.Lists.{text}
use Rattle.rules.specs.NameTables.{Table, text_names, number_names, bytes_names, control_type_names}

unfoldable pub all_names : Table
all_names = text_names ++ (number_names ++ (bytes_names ++ control_type_names))

abbrev pub ids_of : Table → List ℕ
ids_of [] = []
ids_of (row ∷ table) = row.0 ∷ ids_of table

-- where each name starts, if the first does at `start`, and where the last one ends
abbrev pub starts_of : ℕ → Table → List ℕ
starts_of start [] = start ∷ []
starts_of start (row ∷ table) = start ∷ starts_of (start + length (text row.1)) table

abbrev pub index_of : Table → List ℕ
index_of table = ids_of table ++ starts_of 0 table

abbrev pub letters_of : Table → List ℕ
letters_of [] = []
letters_of (row ∷ table) = text row.1 ++ letters_of table
