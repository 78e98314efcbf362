-- Rows of numbers of 32 bits, put into lent slices.
use Rattle.std.specs.Prelude.{ℕ, zero, suc, ◌+◌, ◌*◌, ◌/◌, List, [], ◌∷◌, length, take, drop}
use Rattle.std.proofs.lemmas.List.Edits.{sets}
use Rattle.rules.specs.Lists.{concat}

-- how many words a row has. Wish 1 of document 02: "widen the control row to eight words"; document 01: "Property, six words"; wish 6: "a fifth word in the
-- TypeInfo row"
abbrev pub control_width : ℕ
control_width = 8

abbrev pub property_width : ℕ
property_width = 6

abbrev pub type_info_width : ℕ
type_info_width = 5

-- a field of comma-separated text; wish 7: "a start and length for each"
abbrev pub field_width : ℕ
field_width = 2

-- a difference, ten words
abbrev pub difference_width : ℕ
difference_width = 10

-- "Row room is the lent length divided by the row's words, rounded down."
abbrev pub room : ℕ → List ℕ → ℕ
room width lent = length lent / width

-- a lent slice at exit: the rows' words set from its start on. "rows beyond the count keep their old words"
abbrev pub written : List (List ℕ) → List ℕ → List ℕ
written rows old = sets old 0 (concat rows)

-- row i of a slice
abbrev pub row_at : ℕ → ℕ → List ℕ → List ℕ
row_at width i words = take width (drop (i * width) words)

-- row i of a slice and those after it, n of them
unfoldable pub rows_from : ℕ → ℕ → ℕ → List ℕ → List (List ℕ)
rows_from width i zero words = []
rows_from width i (suc n) words = row_at width i words ∷ rows_from width (i + 1) n words
