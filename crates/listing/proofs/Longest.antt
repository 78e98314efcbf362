-- The longest lines, and the listing that they make up.
use mathlib.Core.Path.{◌≡◌, refl}
use mathlib.Core.Bool.{Bool, true, false, cond, ◌||◌}
use mathlib.Core.List.{List, [], ◌∷◌}
use mathlib.Core.Option.{Option, some}
use Prim.Native.Nat.{ℕ, zero, suc, ◌+◌, ◌*◌, ◌-◌, ◌/◌, ◌≤◌, ◌<◌, max}
use Prim.Native.String.{String}
use native.Mathlib.Nat.{le-max_left, le-max_right, suc-mul}
use native.Mathlib.Omega.{arith}
use borrow.Author.Tests.{ltb-true, ltb-false, eqb-true, eqb-false}
use lib.Dec.{ltb, leb, eqb}
use lib.ListN.{length, length-append}
use Rattle.rules.specs.Lists.{find, text}
use Rattle.rules.specs.Digits.{decimal, hex}
use Rattle.rules.specs.Texts.{label}
use Rattle.rules.specs.NameTables.{Table, text_names, number_names, bytes_names, control_type_names}
use Rattle.rules.specs.Names.{has_id, name_text, name_in_lem, names_for}
use Rattle.rules.specs.Rows.{control_width, row_at}
use Rattle.rules.specs.Tree.{no_parent}
use Rattle.rules.specs.Bytes.{part}
use Rattle.rules.specs.Scalars.{scalars}
use Rattle.rules.specs.Listing.{or_dash, answer_line, word, characters, name_column, parent_column, control_line, mark_word, yes_or_no, number32, value_column, property_line}
use Rattle.rules.specs.declared.Answer.{Answer}
use Rattle.text.proofs.Digits.{longest-label}
use Rattle.text.proofs.Written.{guid-length}
use Rattle.values.proofs.Parts.{part-few}
use Rattle.values.proofs.Marks.{is-no, is-yes, low_half, high_half}
use Rattle.fields.proofs.Fields.{numbered, loose, with-name, top, inside}
use Rattle.listing.specs.Shown.{lines_to}
use Rattle.listing.specs.Bound.{longest_in, longest_type, longest_name, longest_answer, longest_control, longest_property}

-- a number of 32 bits
abbrev pub Word32 : ℕ → Type 0
Word32 n = n < 4294967296

-- ---- names
some_place : (t : Table) → 1 ≤ longest_in t
unfolding longest_in
some_place [] = omega arith
some_place (r ∷ t) = omega (arith, some_place t, le-max_right (length (text r.1)) (longest_in t))

name_by : (r : ℕ × String) (o : Option (ℕ × String)) (rest : ℕ) → length (name_text o) ≤ rest → (b : Bool) → length (name_text (cond b (some r) o)) ≤ max (length (text r.1)) rest
name_by r o rest h true = le-max_left (length (text r.1)) rest
name_by r o rest h false = omega (arith, le-max_right (length (text r.1)) rest)

name_in : (t : Table) (x : ℕ) → length (name_text (find (has_id x) t)) ≤ longest_in t
unfolding find longest_in
name_in [] x = omega arith
name_in (r ∷ t) x = name_by r (find (has_id x) t) (longest_in t) (name_in t x) (eqb r.0 x)

or_dash_lem : (s : List ℕ) (most : ℕ) → 1 ≤ most → length s ≤ most → length (or_dash s) ≤ most
unfolding or_dash
or_dash_lem [] most o h = o
or_dash_lem (b ∷ s) most o h = h

name-short : (t : Table) (x : ℕ) → length (or_dash (name_in_lem t x)) ≤ longest_in t
unfolding name_in_lem
name-short t x = or_dash_lem (name_in_lem t x) (longest_in t) (some_place t) (name_in t x)

pub type-short : (x : ℕ) → length (or_dash (name_in_lem control_type_names x)) ≤ longest_type
unfolding longest_type
type-short x = name-short control_type_names x

table-by : (b : Bool) (t u : Table) (most : ℕ) → longest_in t ≤ most → longest_in u ≤ most → longest_in (cond b t u) ≤ most
table-by true t u most h k = h
table-by false t u most h k = k

-- the table that a mark names
value-names : (m : ℕ) → longest_in (names_for m) ≤ longest_name
unfolding names_for longest_in longest_name
value-names m =
    let x = longest_in text_names in
    let n = longest_in number_names in
    let b = longest_in bytes_names in
    let p = le-max_left x (max n b) in
    let q = le-max_right x (max n b) in
    let u = le-max_left n b in
    let v = le-max_right n b in
    table-by (leb m 4) _ _ _ (omega arith)
    (table-by (eqb m 6 || eqb m 8) _ _ _ (omega arith)
    (table-by (eqb m 5 || eqb m 7) _ _ _ (omega arith) (omega (arith, some_place text_names))))

pub value-name-short : (m x : ℕ) → length (or_dash (name_in_lem (names_for m) x)) ≤ longest_name
value-name-short m x = omega (arith, name-short (names_for m) x, value-names m)

-- ---- fields
pub decimal-short : (n : ℕ) → Word32 n → length (decimal n) ≤ 10
unfolding label
decimal-short n h = omega (arith, longest-label n h)

pub hex-length : (k n : ℕ) → length (hex k n) ≡ k
unfolding hex
hex-length zero n = refl
hex-length (suc k) n = let e : length (hex k (n / 16)) ≡ k = hex-length k (n / 16) in simp length-append (omega arith)

characters-short : (s : List ℕ) (start size : ℕ) → Word32 size → length (characters (part s start size)) ≤ 10
characters-short s start size h = decimal-short (length (scalars (part s start size))) (omega (arith, part-few s start size))

chars_by : (m : ℕ) (s : List ℕ) (start size : ℕ) → Word32 size → (t u : Bool) → eqb m 1 ≡ t → eqb m 2 ≡ u → length (name_column m size (part s start size)) ≤ 11
chars_by m s start size h true u e f = rw (numbered m size (part s start size) (eqb-true m 1 e)) (omega arith)
chars_by m s start size h false true e f = rw (loose m size (part s start size) (eqb-true m 2 f)) (simp length-append (omega (arith, decimal-short size h)))
chars_by m s start size h false false e f =
    rw (with-name m size (part s start size) (eqb-false m 1 e) (eqb-false m 2 f)) (omega (arith, characters-short s start size h))

parent_by : (up : ℕ) → Word32 up → (t : Bool) → eqb up no_parent ≡ t → length (parent_column up) ≤ 10
parent_by up h true e = rw (top up (eqb-true up no_parent e)) (omega arith)
parent_by up h false e = rw (inside up (eqb-false up no_parent e)) (decimal-short up h)

pub word-short : (m : ℕ) → length (mark_word m) ≤ 10
unfolding mark_word
word-short zero = omega arith
word-short (suc zero) = omega arith
word-short (suc (suc zero)) = omega arith
word-short (suc (suc (suc zero))) = omega arith
word-short (suc (suc (suc (suc zero)))) = omega arith
word-short (suc (suc (suc (suc (suc zero))))) = omega arith
word-short (suc (suc (suc (suc (suc (suc zero)))))) = omega arith
word-short (suc (suc (suc (suc (suc (suc (suc zero))))))) = omega arith
word-short (suc (suc (suc (suc (suc (suc (suc (suc m)))))))) = omega arith

yes-by : (n : ℕ) → (t : Bool) → eqb n 0 ≡ t → length (yes_or_no n) ≤ 3
yes-by n true e = rw (is-no n (eqb-true n 0 e)) (omega arith)
yes-by n false e = rw (is-yes n (eqb-false n 0 e)) (omega arith)

signed_by : (n : ℕ) (t : Bool) → ltb n 2147483648 ≡ t → length (number32 n) ≤ 11
signed_by n true e =
    let g : n < 2147483648 = ltb-true n 2147483648 e in
    rw (low_half n g) (omega (arith, decimal-short n (omega arith)))
signed_by n false e =
    let g : 2147483648 ≤ n = ltb-false n 2147483648 e in
    rw (high_half n g) (omega (arith, decimal-short (4294967295 - n + 1) (omega arith)))

module _ (low high : ℕ) (s : List ℕ) (start size : ℕ) (hs : Word32 size) where
  pub value-short : (m : ℕ) → length (value_column m low high size (part s start size)) ≤ 38
  unfolding value_column
  value-short zero = omega (arith, yes-by low (eqb low 0) refl)
  value-short (suc zero) = omega arith
  value-short (suc (suc zero)) = omega (arith, signed_by low (ltb low 2147483648) refl)
  value-short (suc (suc (suc zero))) = omega (arith, signed_by low (ltb low 2147483648) refl)
  value-short (suc (suc (suc (suc zero)))) = simp length-append (omega (arith, hex-length 8 high, hex-length 8 low))
  value-short (suc (suc (suc (suc (suc zero))))) = omega (arith, guid-length (part s start size))
  value-short (suc (suc (suc (suc (suc (suc zero)))))) = omega (arith, characters-short s start size hs)
  value-short (suc (suc (suc (suc (suc (suc (suc m))))))) = omega (arith, decimal-short size hs)

-- ---- lines
module _ (a : Answer) (h0 : Word32 a.number) (h1 : Word32 a.first) (h2 : Word32 a.second) (h3 : Word32 a.third) where
  pub answer-short : length (answer_line a) ≤ longest_answer
  unfolding answer_line
  answer-short =
      simp length-append
      (omega (arith, decimal-short a.number h0, decimal-short a.first h1, decimal-short a.second h2, decimal-short a.third h3))

module _ (stream : List ℕ) (n : ℕ) (row : List ℕ) (hn : Word32 n) where
  pub control-short : ((i : ℕ) → i < control_width → Word32 (word row i)) → length (control_line stream n row) ≤ longest_control
  unfolding control_line
  control-short h =
      simp length-append
      (omega (
        arith,
        decimal-short n hn,
        hex-length 4 (word row 0),
        type-short (word row 0),
        chars_by (word row 1) stream (word row 2) (word row 3) (h 3 (omega arith)) (eqb (word row 1) 1) (eqb (word row 1) 2) refl refl,
        decimal-short (word row 4) (h 4 (omega arith)),
        decimal-short (word row 5) (h 5 (omega arith)),
        decimal-short (word row 6) (h 6 (omega arith)),
        parent_by (word row 7) (h 7 (omega arith)) (eqb (word row 7) no_parent) refl,
      ))

  pub property-short : Word32 (word row 5) → length (property_line stream n row) ≤ longest_property
  unfolding property_line
  property-short h5 =
      simp length-append
      (omega (
        arith,
        decimal-short n hn,
        hex-length 4 (word row 0),
        value-name-short (word row 1) (word row 0),
        word-short (word row 1),
        value-short (word row 2) (word row 3) stream (word row 4) (word row 5) h5 (word row 1),
      ))

-- as many lines as there are rows
pub lines_short : (line_of : ℕ → List ℕ → List ℕ) (most w : ℕ) (words : List ℕ) (k : ℕ) → ((i : ℕ) → i < k → length (line_of i (row_at w i words)) ≤ most)
    → length (lines_to line_of w k words) ≤ k * most
unfolding lines_to
lines_short line_of most w words zero h = omega arith
lines_short line_of most w words (suc k) h =
    let one = h k (omega arith) in
    let rest = lines_short line_of most w words k (λ i l. h i (omega arith)) in
    let e = suc-mul k most in
    simp length-append (omega arith)
