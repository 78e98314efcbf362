-- The controls that rows show by their words: those of the reading; and rows that are the same show the same.
use Prim.Native.Nat.{ℕ, zero, suc, ◌+◌, ◌≤◌, ◌<◌}
use native.Mathlib.Omega.{arith}
use mathlib.Core.Path.{◌≡◌, refl, sym, ap, ap₂, ◌∙◌}
use mathlib.Core.Bool.{Bool, true, false, cond}
use mathlib.Core.List.{List, [], ◌∷◌}
use mathlib.Core.Option.{Option}
use borrow.Author.Tests.{eqb-true, eqb-false}
use lib.Dec.{eqb}
use lib.ListN.{length, get_or}
use Rattle.rules.specs.Bytes.{part}
use Rattle.rules.specs.Rows.{control_width, property_width, row_at}
use Rattle.rules.specs.Reading.{Control, Reading, properties, control_row, property_row}
use Rattle.rules.specs.Blob.{Exit}
use Rattle.rules.specs.Panel.{has_type_name, is_text_name, name_bytes, is_new_name, is_filled, is_placed, is_shallow, kept, first_broken, row_or, broken_from, broken}
use Rattle.rules.specs.declared.Property.{Property}
use Rattle.rules.specs.declared.Name.{Name}
use Rattle.rules.specs.declared.Name.TheVariants.{Text, Numbered, Loose}
use Rattle.claims.specs.RowChecks.{name_mark, name_start, name_length, first_row, property_count}
use Rattle.claims.specs.Panels.{shown_property, shown_properties, shown_name, shown_control, shown_controls, SameRows}
use Rattle.claims.proofs.RowsSeen.{no-control, no-property, words_of, Rows, first_of, control_of, first-is, count-is, own_row, total_below, reading-many}

-- ---- a reading's rows show its controls
-- rows that show the properties one by one show them all
properties-shown : (seen : Exit) (first : ℕ) (l : List Property)
    → ((k : ℕ) → k < length l → row_at property_width (first + k) seen.properties ≡ property_row (get_or l k no-property)) → shown_properties seen first (length l) ≡ l
unfolding shown_properties
properties-shown seen first [] h = refl
properties-shown seen first (p ∷ l) h =
    let z : first + 0 ≡ first = omega arith in
    let one : row_at property_width first seen.properties ≡ property_row p = ap (λ (n : ℕ). row_at property_width n seen.properties) (sym z) ∙ h 0 (omega arith) in
    ap₂ ◌∷◌ (ap (λ row. by-words row) one) (properties-shown seen (first + 1) l (λ k u.
    let e : first + 1 + k ≡ first + suc k = omega arith in ap (λ (n : ℕ). row_at property_width n seen.properties) e ∙ h (suc k) (omega arith)))
  where
    by-words : List ℕ → Property
    by-words row = record { id = get_or row 0 0; value = record { mark = get_or row 1 0; low = get_or row 2 0; high = get_or row 3 0 }; start = get_or row 4 0; size = get_or row 5 0 }

controls-shown : (seen : Exit) (i : ℕ) (l : List Control) → ((k : ℕ) → k < length l → shown_control seen (i + k) ≡ get_or l k no-control) → shown_controls seen i (length l) ≡ l
unfolding shown_controls
controls-shown seen i [] h = refl
controls-shown seen i (c ∷ l) h =
    let z : i + 0 ≡ i = omega arith in
    ap₂ ◌∷◌ (ap (shown_control seen) (sym z) ∙ h 0 (omega arith)) (controls-shown seen (i + 1) l (λ k u.
    let e : i + 1 + k ≡ i + suc k = omega arith in ap (shown_control seen) e ∙ h (suc k) (omega arith)))

-- a row's words, as a control with these properties
abbrev by_words : List ℕ → List Property → Control
by_words row ps = record { type = get_or row 0 0; name = shown_name (get_or row 1 0) (get_or row 2 0) (get_or row 3 0); properties = ps; level = get_or row 6 0; parent = get_or row 7 0 }

row_shows : (n first : ℕ) (c : Control) → by_words (control_row n first c) c.properties ≡ c
unfolding control_row
row_shows n first c = go c.name refl
  where
    go : (m : Name) → c.name ≡ m → by_words (words_of n first c m) c.properties ≡ record { type = c.type; name = m; properties = c.properties; level = c.level; parent = c.parent }
    go (Text a b) q = refl
    go Numbered q = refl
    go (Loose a b) q = refl

module _ (r : Reading) (seen : Exit) (rows : Rows r seen) where
  its-properties : (i : ℕ) → i < length r.controls → shown_properties seen (first_row seen i) (property_count seen i) ≡ (control_of r i).properties
  its-properties i u =
      ap₂ (shown_properties seen) (first-is rows i u) (count-is rows i u)
      ∙ properties-shown seen (first_of r i) (control_of r i).properties (λ k v. own_row rows i k u v)

  control-shown : (i : ℕ) → i < length r.controls → shown_control seen i ≡ control_of r i
  unfolding shown_control
  control-shown i u =
      ap (by_words (row_at control_width i seen.controls)) (its-properties i u)
      ∙ ap (λ row. by_words row (control_of r i).properties) (rows.control-row i u)
      ∙ row_shows i (first_of r i) (control_of r i)

  pub reading-shown : shown_controls seen 0 (length r.controls) ≡ r.controls
  reading-shown = controls-shown seen 0 r.controls λ k u. let z : 0 + k ≡ k = omega arith in ap (shown_control seen) z ∙ control-shown k u

  -- a control's property rows are among all
  pub rows-within : (i : ℕ) → i < length r.controls → first_row seen i + property_count seen i ≤ length (properties r)
  rows-within i u = omega (arith, first-is rows i u, count-is rows i u, total_below r.controls i u, reading-many r)

-- ---- the same rows
module _ (seen seen' : Exit) where
  same-properties : (j n : ℕ) → ((k : ℕ) → j ≤ k → k < j + n → row_at property_width k seen.properties ≡ row_at property_width k seen'.properties)
      → shown_properties seen j n ≡ shown_properties seen' j n
  unfolding shown_properties
  same-properties j zero h = refl
  same-properties j (suc n) h =
      ap₂ ◌∷◌ (ap by-words (h j (omega arith) (omega arith))) (same-properties (j + 1) n (λ k a b. h k (omega arith) (omega arith)))
    where
      by-words : List ℕ → Property
      by-words row = record { id = get_or row 0 0; value = record { mark = get_or row 1 0; low = get_or row 2 0; high = get_or row 3 0 }; start = get_or row 4 0; size = get_or row 5 0 }

  same-control : (i : ℕ) → row_at control_width i seen.controls ≡ row_at control_width i seen'.controls
      → ((k : ℕ) → first_row seen i ≤ k → k < first_row seen i + property_count seen i → row_at property_width k seen.properties ≡ row_at property_width k seen'.properties)
      → shown_control seen i ≡ shown_control seen' i
  unfolding shown_control
  same-control i e h =
      ap (by_words (row_at control_width i seen.controls)) (same-properties (first_row seen i) (property_count seen i) h)
      ∙ ap (λ row. by_words row (shown_properties seen' (get_or row 4 0) (get_or row 5 0))) e

  same-controls : (i n : ℕ) → ((k : ℕ) → i ≤ k → k < i + n → shown_control seen k ≡ shown_control seen' k) → shown_controls seen i n ≡ shown_controls seen' i n
  unfolding shown_controls
  same-controls i zero h = refl
  same-controls i (suc n) h = ap₂ ◌∷◌ (h i (omega arith) (omega arith)) (same-controls (i + 1) n (λ k a b. h k (omega arith) (omega arith)))

-- ---- and the same names
-- the bytes of a name by its words
by_part : (s s' : List ℕ) (n mark start size : ℕ) → (¬ (mark ≡ 1) → part s start size ≡ part s' start size)
    → name_bytes s n (shown_name mark start size) ≡ name_bytes s' n (shown_name mark start size)
unfolding name_bytes
by_part s s' n mark start size e = go (eqb mark 0) (eqb mark 1) refl refl
  where
    go : (a b : Bool) → eqb mark 0 ≡ a → eqb mark 1 ≡ b
        → name_bytes s n (cond a (Text start size) (cond b Numbered (Loose start size))) ≡ name_bytes s' n (cond a (Text start size) (cond b Numbered (Loose start size)))
    go true b h k = e (λ z. let y : mark ≡ 0 = eqb-true mark 0 h in omega arith)
    go false true h k = refl
    go false false h k = e (eqb-false mark 1 k)

-- the first rule that a control with a name of these bytes breaks
abbrev tried : List (List ℕ) → Control → List ℕ → Option ℕ
tried earlier c name = first_broken 1 (has_type_name c.type ∷ is_text_name c.name ∷ is_new_name earlier name ∷ is_filled c.type c.properties ∷ is_placed c.properties ∷ is_shallow c.level ∷ [])

module _ (s s' : List ℕ) (seen : Exit) where
  same_from : (i n : ℕ) (earlier : List (List ℕ)) → ((k : ℕ) → i ≤ k → k < i + n → ¬ (name_mark seen k ≡ 1) → part s (name_start seen k) (name_length seen k) ≡ part s' (name_start seen k) (name_length seen k))
      → broken_from s i earlier (shown_controls seen i n) ≡ broken_from s' i earlier (shown_controls seen i n)
  unfolding shown_controls broken_from kept shown_control
  same_from i zero earlier h = refl
  same_from i (suc n) earlier h =
      let e = by_part s s' i (name_mark seen i) (name_start seen i) (name_length seen i) (h i (omega arith) (omega arith)) in
      ap (λ name. row_or i (tried earlier (shown_control seen i) name) (broken_from s (i + 1) (name ∷ earlier) (shown_controls seen (i + 1) n))) e
      ∙ ap (row_or i (tried earlier (shown_control seen i) (name_bytes s' i (shown_control seen i).name))) (same_from (i + 1) n (name_bytes s' i (shown_control seen i).name ∷ earlier) (λ k a b. h k (omega arith) (omega arith)))

  pub same-broken : (n : ℕ) → ((k : ℕ) → k < n → ¬ (name_mark seen k ≡ 1) → part s (name_start seen k) (name_length seen k) ≡ part s' (name_start seen k) (name_length seen k))
      → broken s (shown_controls seen 0 n) ≡ broken s' (shown_controls seen 0 n)
  unfolding broken
  same-broken n h = same_from 0 n [] (λ k a b. h k (omega arith))

pub same-shown : (s s' : List ℕ) (seen seen' : Exit) → SameRows s s' seen seen'
    → ((i : ℕ) → i < seen.answer.first → first_row seen i + property_count seen i ≤ seen.answer.second)
    → broken s (shown_controls seen 0 seen.answer.first) ≡ broken s' (shown_controls seen' 0 seen'.answer.first)
same-shown s s' seen seen' same within =
    same-broken s s' seen seen.answer.first same.names
    ∙ ap (broken s') (same-controls seen seen' 0 seen.answer.first λ k a b.
    same-control seen seen' k (same.controls k (omega arith)) (λ j c d. same.properties j (omega (arith, within k (omega arith)))))
    ∙ ap (λ (n : ℕ). broken s' (shown_controls seen' 0 n)) (ap (λ a. a.first) same.answer)
