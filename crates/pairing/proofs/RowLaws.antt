-- Rows from one place on, and rows by the names of their words.
use Prim.Native.Nat.{ℕ, zero, suc, ◌+◌, ◌-◌, ◌≤◌, ◌<◌}
use native.Mathlib.Omega.{arith}
use mathlib.Core.Path.{◌≡◌, refl, sym, ap, ◌∙◌}
use mathlib.Core.Bool.{Bool, true, false, ◌&&◌}
use mathlib.Core.List.{List, [], ◌∷◌}
use mathlib.Core.Option.{Option, none, some}
use borrow.Author.Tests.{le-leb, lt-leb, ne_eqb}
use lib.Dec.{leb}
use Rattle.std.specs.List.{list_all, range_with_len}
use lib.ListN.{length}
use Rattle.rules.specs.Lists.{all, find}
use Rattle.rules.specs.Rows.{row_at, rows_from}
use Rattle.rules.specs.Pairing.{control_name_lem, type_by, has_name, paired_type, is_named, control_ok}
use Rattle.rules.proofs.PairingLaws.{all-rows, same_name}
use Rattle.rows.specs.Put.{control_words, info_words}
use Rattle.rows.specs.Get.{ControlOf, InfoOf}
use Rattle.rows.specs.declared.ControlRow.{ControlRow}
use Rattle.rows.specs.declared.InfoRow.{InfoRow}

-- ---- a loop over m rows
module _ (w m : ℕ) (l : List ℕ) where
  -- those from row j on
  abbrev pub rest : ℕ → List (List ℕ)
  rest j = rows_from w j (m - j) l

  next_row : (j : ℕ) → j < m → rest j ≡ row_at w j l ∷ rest (j + 1)
  unfolding rows_from
  next_row j h = let n : m - j ≡ suc (m - (j + 1)) = omega arith in rw n

  no_row : (j : ℕ) → m ≤ j → rest j ≡ []
  unfolding rows_from
  no_row j h = let n : m - j ≡ 0 = omega arith in rw n

-- what f says by the test p of the rows from j on, it says of all
pub record Deciding {A : Type 0} (w m : ℕ) (l : List ℕ) (f : (List ℕ → Bool) → List (List ℕ) → A) (p : List ℕ → Bool) (j : ℕ) : Type 0 where
  pub within : j ≤ m
  pub decides : f p (rows_from w 0 m l) ≡ f p (rest w m l j)

module _ {A : Type 0} {w m : ℕ} {l : List ℕ} {f : (List ℕ → Bool) → List (List ℕ) → A} {p : List ℕ → Bool} where
  pub all_decide : Deciding w m l f p 0
  all_decide = let n : m ≡ m - 0 = omega arith in record { within = omega arith; decides = ap (λ (k : ℕ). f p (rows_from w 0 k l)) n }

  module _ {j : ℕ} (d : Deciding w m l f p j) where
    first_decides : j < m → f p (rows_from w 0 m l) ≡ f p (row_at w j l ∷ rest w m l (j + 1))
    first_decides h = d.decides ∙ ap (f p) (next_row w m l j h)

    first_passed : j < m → f p (row_at w j l ∷ rest w m l (j + 1)) ≡ f p (rest w m l (j + 1)) → Deciding w m l f p (j + 1)
    first_passed h e = record { within = omega arith; decides = first_decides h ∙ e }

    none_left : m ≤ j → f p (rows_from w 0 m l) ≡ f p []
    none_left h = d.decides ∙ ap (f p) (no_row w m l j h)

-- n rows judged one by one
pub rows_all : (p : List ℕ → Bool) (w : ℕ) (l : List ℕ) (i n : ℕ) → list_all (λ k. p (row_at w k l)) (range_with_len i n) ≡ all p (rows_from w i n l)
unfolding all rows_from
rows_all p w l i zero = refl
rows_all p w l i (suc n) = ap (λ b. p (row_at w i l) && b) (rows_all p w l (i + 1) n)

-- the first of them that p tells
module _ {w m : ℕ} {l : List ℕ} {p : List ℕ → Bool} {j : ℕ} (d : Deciding w m l find p j) where
  pub found_nowhere : m ≤ j → find p (rows_from w 0 m l) ≡ none
  unfolding find
  found_nowhere h = none_left d h

  module _ (h : j < m) {b : Bool} (said : b ≡ p (row_at w j l)) where
    pub found_here : b ≡ true → find p (rows_from w 0 m l) ≡ some (row_at w j l)
    unfolding find
    found_here e = first_decides d h ∙ rw (sym said ∙ e)

    pub found-later : b ≡ false → Deciding w m l find p (j + 1)
    unfolding find
    found-later e = first_passed d h (rw (sym said ∙ e))

-- each of the rows that were judged
pub each_row : (p : List ℕ → Bool) (w n : ℕ) (l : List ℕ) → all p (rows_from w 0 n l) ≡ true → (k : ℕ) → k < n → p (row_at w k l) ≡ true
each_row p w n l e k u = let z : k ≡ 0 + k = omega arith in ap (λ (i : ℕ). p (row_at w i l)) z ∙ all-rows p w l 0 n e k u

-- ---- words by their names
module _ {row : List ℕ} {r : InfoRow} (i : InfoOf row r) where
  pub info_name : (t : List ℕ) (name : Option (List ℕ)) → has_name t name (info_words r) ≡ has_name t name row
  unfolding has_name
  info_name t name = rw (i.cut, i.start, i.size)

  pub info_named : (t : List ℕ) → is_named t (info_words r) ≡ is_named t row
  info_named t = rw (i.start, i.size)

-- a control row's words, judged
module _ (s : List ℕ) (r : ControlRow) where
  pub mark-above : 2 < r.mark → false ≡ control_ok s (control_words r)
  mark-above h = rw (lt-leb r.mark 2 h)

  pub numbered-ok : r.mark ≡ 1 → true ≡ control_ok s (control_words r)
  numbered-ok e = rw e

  pub other-ok : (b : Bool) → r.mark ≤ 2 → ¬ (r.mark ≡ 1) → b ≡ leb (r.start + r.size) (length s) → b ≡ control_ok s (control_words r)
  other-ok b h k e = rw (le-leb r.mark 2 h, ne_eqb r.mark 1 k) e

module _ {row : List ℕ} {r : ControlRow} (c : ControlOf row r) where
  pub control-ok : (s : List ℕ) → control_ok s (control_words r) ≡ control_ok s row
  control-ok s = rw (c.mark, c.start, c.size)

  pub control-type : (s t : List ℕ) (infos : List (List ℕ)) → paired_type s t infos (control_words r) ≡ paired_type s t infos row
  unfolding paired_type
  control-type s t infos =
      ap (λ name. type_by r.type_code (find (has_name t name) infos)) (same_name s (control_words r) row c.mark c.start c.size)
      ∙ ap (λ (type : ℕ). type_by type (find (has_name t (control_name_lem s row)) infos)) c.type-code
