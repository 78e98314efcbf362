-- Wish 2 of document 02: controls paired with TypeInfo. "a part that takes the control rows of a later Blob with its stream, and TypeInfo rows with theirs,
-- and how many of each, and sets each control's type to that of the first TypeInfo row with the same name; without one it stays."
use Rattle.std.specs.Prelude.{ℕ, zero, suc, ◌+◌, ◌*◌, Bool, false, cond, ◌&&◌, ◌||◌, List, [], ◌∷◌, map, ltb, leb, eqb, length, set}
use Rattle.std.proofs.Math.Option.{Option, none, some}
use Rattle.rules.specs.Lists.{◌>>=◌, all, find, same}
use Rattle.rules.specs.Bytes.{part}
use Rattle.rules.specs.Answer.{answer, refusal, bad_rows}
use Rattle.rules.specs.Texts.{label}
use Rattle.rules.specs.Rows.{control_width, type_info_width, room, row_at, rows_from}
use Rattle.rules.specs.Listing.{word}
use Rattle.rules.specs.declared.Answer.{Answer}

-- ---- rows by their words
-- "the rows counted"
abbrev pub controls_in : ℕ → List ℕ → List (List ℕ)
controls_in n controls = rows_from control_width 0 n controls

abbrev pub infos_in : ℕ → List ℕ → List (List ℕ)
infos_in n infos = rows_from type_info_width 0 n infos

-- "Control ..: type code; name mark ..; name start; name length"; "TypeInfo ..: type code, index, name start, name length"
abbrev pub type_of : List ℕ → ℕ
type_of row = word row 0

abbrev pub mark_of : List ℕ → ℕ
mark_of row = word row 1

abbrev pub start_of : List ℕ → ℕ
start_of row = word row 2

abbrev pub size_of : List ℕ → ℕ
size_of row = word row 3

-- wish 6: "a fifth word in the TypeInfo row", whether the name was cut
abbrev pub cut_of : List ℕ → ℕ
cut_of info = word info 4

-- ---- names
abbrev pub named_bytes : List ℕ → List ℕ → List ℕ
named_bytes s row = part s (start_of row) (size_of row)

-- the units of UTF-16 text, two bytes each, the low byte first; "names of odd length match none"
unfoldable pub units_in : List ℕ → Option (List ℕ)
units_in [] = some []
units_in (a ∷ []) = none
units_in (a ∷ b ∷ s) = do
  units ← units_in s
  some ((a + 256 * b) ∷ units)

-- "Mark 2 names are compared by their bytes; mark 0 names of odd length match none; numbered names take part by their label"
unfoldable pub control_name_lem : List ℕ → List ℕ → Option (List ℕ)
control_name_lem s row =
    cond (eqb (mark_of row) 0) (units_in (named_bytes s row))
    (cond (eqb (mark_of row) 1) (some (label (start_of row)))
    (some (named_bytes s row)))

abbrev pub is_ascii_lem : ℕ → Bool
is_ascii_lem u = ltb u 128

-- "folding A to Z"
abbrev pub folded : ℕ → ℕ
folded u = cond (leb 0x41 u && leb u 0x5A) (u + 32) u

-- "Names match when both are wholly ASCII and equal after folding A to Z."
unfoldable pub names_match : List ℕ → List ℕ → Bool
names_match a b = all is_ascii_lem a && all is_ascii_lem b && same (map folded a) (map folded b)

abbrev pub name_matches : Option (List ℕ) → List ℕ → Bool
name_matches none b = false
name_matches (some a) b = names_match a b

-- a TypeInfo row with this name, in its stream t. Wish 6: "Wish 2's pairing skips rows where it isn't 0."
unfoldable pub has_name : List ℕ → Option (List ℕ) → List ℕ → Bool
has_name t name info = eqb (cut_of info) 0 && name_matches name (named_bytes t info)

-- ---- types
abbrev pub type_by : ℕ → Option (List ℕ) → ℕ
type_by type none = type
type_by type (some info) = type_of info

-- "that of the first TypeInfo row with the same name; without one it stays"
unfoldable pub paired_type : List ℕ → List ℕ → List (List ℕ) → List ℕ → ℕ
paired_type s t infos row = type_by (type_of row) (find (has_name t (control_name_lem s row)) infos)

-- "sets each control's type": of the first n rows, whose first words stand control_width apart. "All other words stay."
unfoldable pub types_set : List ℕ → List ℕ → List (List ℕ) → ℕ → List ℕ → List ℕ
types_set s t infos zero controls = controls
types_set s t infos (suc n) controls = set (types_set s t infos n controls) (n * control_width) (paired_type s t infos (row_at control_width n controls))

-- ---- what is judged before anything is written
abbrev pub is_named : List ℕ → List ℕ → Bool
is_named s row = leb (start_of row + size_of row) (length s)

-- neither "a mark is above 2" nor "a row but a numbered one names bytes outside its stream"
abbrev pub control_ok : List ℕ → List ℕ → Bool
control_ok s row = leb (mark_of row) 2 && (eqb (mark_of row) 1 || is_named s row)

-- "11 where a number of rows exceeds those lent or, among the rows counted, .."
unfoldable pub may_pair : List ℕ → List ℕ → ℕ → List ℕ → List ℕ → ℕ → Bool
may_pair s controls n t infos m =
    leb n (room control_width controls) && leb m (room type_info_width infos)
    && all (control_ok s) (controls_in n controls) && all (is_named t) (infos_in m infos)

-- ---- all that a caller sees
pub record PairExit : Type 0 where
  pub answer : Answer
  pub controls : List ℕ

-- n control rows of the stream s, and m TypeInfo rows of the stream t. "a call answering 0 with no counts named for it returns 0, 0, 0"
unfoldable pub pair_exit : List ℕ → List ℕ → ℕ → List ℕ → List ℕ → ℕ → PairExit
pair_exit s controls n t infos m =
    cond (may_pair s controls n t infos m)
    (record { answer = answer 0 0 0 0; controls = types_set s t (infos_in m infos) n controls })
    (record { answer = refusal bad_rows; controls = controls })
