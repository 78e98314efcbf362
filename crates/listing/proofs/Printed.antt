-- The listing is what the rows in the lent slices show, one line for each that the answer counts.
use mathlib.Core.Path.{◌≡◌, refl, sym, ap, ap₂, ◌∙◌}
use mathlib.Core.Bool.{Bool, true, false, cond, not}
use mathlib.Core.List.{List, [], ◌∷◌, ◌++◌, append_assoc, append-nil}
use mathlib.Core.Option.{Option, none, some}
use Prim.Native.Nat.{ℕ, suc, ◌+◌, ◌*◌, ◌≤◌, ◌<◌}
use native.Mathlib.Omega.{arith}
use native.Mathlib.Nat.{zero-add}
use native.Mathlib.Numerals.{add-one}
use borrow.Author.Tests.{lt-ltb, le-ltb, ltb-false, ne_eqb}
use lib.Dec.{ltb}
use lib.ListN.{length, get_or}
use Rattle.rules.specs.Answer.{refusal, too_long_lem, bad_table, longest}
use Rattle.rules.specs.Rows.{control_width, property_width, room, written, row_at}
use Rattle.rules.specs.CodeTable.{well_formed_lem}
use Rattle.rules.specs.Reading.{Reading, properties, control_rows, property_rows}
use Rattle.rules.specs.Blob.{Outcome, refused, read, fit, outcome, reading_of, counted, exit_by_lem, exit}
use Rattle.rules.specs.Listing.{answer_line, control_line, property_line, lines_from, printed, table_length, table_in, blob_in, listing}
use Rattle.rules.proofs.RowsLaws.{Wide, row_written}
use Rattle.rules.proofs.ReadingLaws.{controls_wide, properties_wide, controls-counted, properties-counted}
use Rattle.listing.specs.Shown.{lines_to, shown}

-- ---- rows put into a slice
module _ (line_of : ℕ → List ℕ → List ℕ) (w : ℕ) (words : List ℕ) where
  later : (n : ℕ) (r : List ℕ) (rows : List (List ℕ)) → ((i : ℕ) → i < length (r ∷ rows) → row_at w (n + i) words ≡ get_or (r ∷ rows) i [])
      → (i : ℕ) → i < length rows → row_at w (suc n + i) words ≡ get_or rows i []
  later n r rows h i l = let e : suc n + i ≡ n + suc i = omega arith in ap (λ (k : ℕ). row_at w k words) e ∙ h (suc i) (omega arith)

  lines_on : (n : ℕ) (rows : List (List ℕ)) → ((i : ℕ) → i < length rows → row_at w (n + i) words ≡ get_or rows i [])
      → lines_to line_of w n words ++ lines_from line_of n rows ≡ lines_to line_of w (n + length rows) words
  unfolding lines_to lines_from
  lines_on n [] h = let e : n ≡ n + 0 = omega arith in append-nil (lines_to line_of w n words) ∙ ap (λ (k : ℕ). lines_to line_of w k words) e
  lines_on n (r ∷ rows) h =
      let z : n ≡ n + 0 = omega arith in
      let q : suc n + length rows ≡ n + suc (length rows) = omega arith in
      let e : row_at w n words ≡ r = ap (λ (k : ℕ). row_at w k words) z ∙ h 0 (omega arith) in
      sym (append_assoc (lines_to line_of w n words) (line_of n r) (lines_from line_of (n + 1) rows))
      ∙ ap₂ (λ (x : List ℕ) (k : ℕ). (lines_to line_of w n words ++ line_of n x) ++ lines_from line_of k rows) (sym e) (add-one n)
      ∙ lines_on (suc n) rows (later n r rows h)
      ∙ ap (λ (k : ℕ). lines_to line_of w k words) q

-- one law for both kinds of row
pub lines_written : (line_of : ℕ → List ℕ → List ℕ) (w : ℕ) (rows : List (List ℕ)) → Wide w rows → (old : List ℕ) → length rows * w ≤ length old
    → lines_from line_of 0 rows ≡ lines_to line_of w (length rows) (written rows old)
unfolding lines_to
lines_written line_of w rows wide old fits =
    lines_on line_of w (written rows old) 0 rows (λ i l. ap (λ (k : ℕ). row_at w k (written rows old)) (zero-add i) ∙ row_written w rows wide old fits i l)
    ∙ ap (λ (k : ℕ). lines_to line_of w k (written rows old)) (zero-add (length rows))

-- ---- the rows of a reading
controls_width : (r : Reading) → Wide control_width (control_rows r)
unfolding control_rows
controls_width r = controls_wide 0 (length r.own) r.controls

properties_width : (r : Reading) → Wide property_width (property_rows r)
unfolding property_rows
properties_width r = properties_wide (properties r)

module _ (stream : List ℕ) (r : Reading) (old : List ℕ) where
  pub control_lines : length r.controls ≤ room control_width old
      → lines_from (control_line stream) 0 (control_rows r) ≡ lines_to (control_line stream) control_width (length r.controls) (written (control_rows r) old)
  control_lines h =
      let k : length (control_rows r) * control_width ≤ length old = omega (arith, controls-counted r) in
      lines_written (control_line stream) control_width (control_rows r) (controls_width r) old k
      ∙ ap (λ (n : ℕ). lines_to (control_line stream) control_width n (written (control_rows r) old)) (controls-counted r)

  pub property_lines : length (properties r) ≤ room property_width old
      → lines_from (property_line stream) 0 (property_rows r)
      ≡ lines_to (property_line stream) property_width (length (properties r)) (written (property_rows r) old)
  property_lines h =
      let k : length (property_rows r) * property_width ≤ length old = omega (arith, properties-counted r) in
      lines_written (property_line stream) property_width (property_rows r) (properties_width r) old k
      ∙ ap (λ (n : ℕ). lines_to (property_line stream) property_width n (written (property_rows r) old)) (properties-counted r)

-- ---- every outcome
-- a refusal has a number other than 0, and the rows of a reading have room
abbrev pub Stated : ℕ → ℕ → Outcome → Type 0
Stated c p (refused a) = a.number ≡ 0 → ⊥
Stated c p (read r) = (length r.controls ≤ c) × (length (properties r) ≤ p)

module _ (c p : ℕ) where
  pub stated_if : (b : Bool) (x y : Outcome) → Stated c p x → (b ≡ false → Stated c p y) → Stated c p (cond b x y)
  stated_if true x y h k = h
  stated_if false x y h k = k refl

  pub fit_stated : (o : Option Reading) → Stated c p (fit c p o)
  fit_stated none = λ e. omega arith
  fit_stated (some r) =
      stated_if (ltb c (length r.controls)) _ _ (λ e. omega arith)
      (λ d. stated_if (ltb p (length (properties r))) _ _ (λ e. omega arith)
      (λ f. (ltb-false c (length r.controls) d, ltb-false p (length (properties r)) f)))

  pub outcome_stated : (t s : List ℕ) → Stated c p (outcome t s c p)
  unfolding outcome
  outcome_stated t s =
      stated_if (ltb longest (length s)) _ _ (λ e. omega arith)
      (λ d. stated_if (not (well_formed_lem t)) _ _ (λ e. omega arith)
      (λ f. fit_stated (reading_of t s)))

shown_by : (s controls props : List ℕ) (o : Outcome) → Stated (room control_width controls) (room property_width props) o
    → printed s o ≡ shown s (exit_by_lem o controls props)
unfolding printed shown lines_from
shown_by s controls props (refused a) h = rw (ne_eqb a.number 0 h)
shown_by s controls props (read r) h =
    ap₂ (λ (x y : List ℕ). answer_line (counted 0 r) ++ (x ++ y)) (control_lines s r controls h.0) (property_lines s r props h.1)

-- what is printed follows from what a reader of the Blob hands back, whatever it was lent
pub printed-shown : (t s controls props : List ℕ)
    → printed s (outcome t s (room control_width controls) (room property_width props)) ≡ shown s (exit t s controls props)
unfolding exit
printed-shown t s controls props = shown_by s controls props (outcome t s (room control_width controls) (room property_width props)) (outcome_stated _ _ t s)

-- with room for 256 controls and 1,024 properties
pub rows-shown : (t s controls props : List ℕ) → room control_width controls ≡ 256 → room property_width props ≡ 1024
    → printed s (outcome t s 256 1024) ≡ shown s (exit t s controls props)
rows-shown t s controls props c p = ap₂ (λ (m n : ℕ). printed s (outcome t s m n)) (sym c) (sym p) ∙ printed-shown t s controls props

-- ---- the program, by the length of its input
module _ (input : List ℕ) where
  pub listing-long : 32768 < length input → listing input ≡ answer_line (refusal too_long_lem)
  unfolding listing
  listing-long h = rw (lt-ltb 32768 (length input) h)

  pub listing-short : length input < 4 → listing input ≡ answer_line (refusal bad_table)
  unfolding listing
  listing-short h = let g : length input ≤ 32768 = omega arith in rw (le-ltb 32768 (length input) g, lt-ltb (length input) 4 h)

  module _ (fits : length input ≤ 32768) (begins : 4 ≤ length input) where
    pub listing-cut : length input < 4 + table_length input → listing input ≡ answer_line (refusal bad_table)
    unfolding listing
    listing-cut h = rw (le-ltb 32768 (length input) fits, le-ltb (length input) 4 begins, lt-ltb (length input) (4 + table_length input) h)

    pub listing-blob : 4 + table_length input ≤ length input → listing input ≡ printed (blob_in input) (outcome (table_in input) (blob_in input) 256 1024)
    unfolding listing
    listing-blob h = rw (le-ltb 32768 (length input) fits, le-ltb (length input) 4 begins, le-ltb (length input) (4 + table_length input) h)
