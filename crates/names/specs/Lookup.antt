-- How a name is looked up in the directory of the four tables, which is lent.
use Rattle.std.specs.Prelude.{ℕ, suc, ◌-◌, ◌≤◌, ◌<◌, ◌≡◌, cond, List, [], ◌∷◌, T, eqb, length, take, drop, get_or}
use Rattle.rules.specs.Lists.{ascends, text}
use Rattle.rules.specs.NameTables.{Table}
use Rattle.nametables.specs.Directory.{all_names, ids_of, index_of, letters_of}

-- what is lent is the directory
pub record Lent (index letters : List ℕ) : Type 0 where
  pub index_is : index ≡ index_of all_names
  pub letters-are : letters ≡ letters_of all_names

-- its rows from `from` on, up to `to`
abbrev pub rows_in_lem : ℕ → ℕ → Table
rows_in_lem from to = take (to - from) (drop from all_names)

-- they are there, and their ids ascend
pub record Stand (from to : ℕ) : Type 0 where
  pub ordered : from ≤ to
  pub inside : to ≤ length all_names
  pub ascending : T (ascends 0 (ids_of (rows_in_lem from to)))

-- they are a table's
pub record Rows (from to : ℕ) (table : Table) : Type 0 where
  pub stand : Stand from to
  pub are : rows_in_lem from to ≡ table

-- what is lent, and a row of it
pub record LentRow (index letters : List ℕ) (row : ℕ) : Type 0 where
  pub lent : Lent index letters
  pub there : row < length all_names

-- what is lent, and a table's rows in it
pub record LentRows (index letters : List ℕ) (from to : ℕ) : Type 0 where
  pub lent : Lent index letters
  pub stand : Stand from to

-- the name of a table's row
abbrev pub name_at : Table → ℕ → List ℕ
name_at table k = text (get_or table k (0, "")).1

-- the first place of an id, or the length where it has none
unfoldable pub place_in : List ℕ → ℕ → ℕ
place_in [] id = 0
place_in (x ∷ ids) id = cond (eqb x id) 0 (suc (place_in ids id))

-- how many hints are kept, as the code's HINTS says
abbrev pub slots : ℕ
slots = 4096

-- a length of 32 bits
abbrev pub longest_name : ℕ
longest_name = 4294967295
