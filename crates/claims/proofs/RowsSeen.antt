-- A reading's rows, as a caller sees them.
use Prim.Native.Nat.{ℕ, zero, suc, ◌+◌, ◌≤◌, ◌<◌}
use native.Mathlib.Omega.{arith}
use mathlib.Core.Path.{◌≡◌, refl, ap, ap₂, ◌∙◌}
use mathlib.Core.Bool.{true}
use mathlib.Core.List.{List, [], ◌∷◌, ◌++◌, map}
use mathlib.Core.Option.{some}
use lib.ListN.{length, get_or, take, get_or-append, length-append}
use lib.Seq.{get_or-append-add}
use borrow.Author.Tests.{le-ltb}
use Rattle.rules.specs.Lists.{concat}
use Rattle.rules.specs.Value.{value}
use Rattle.rules.specs.Rows.{control_width, property_width, room, row_at}
use Rattle.rules.specs.Reading.{Control, Reading, properties, properties_of, name_words, control_row, control_rows_from, control_rows, property_row, property_rows}
use Rattle.rules.specs.Answer.{longest}
use Rattle.rules.specs.CodeTable.{well_formed_lem}
use Rattle.rules.specs.Blob.{Exit, read, reading_of, answer_of, outcome, exit_by_lem, exit}
use Rattle.rules.specs.declared.Answer.{Answer}
use Rattle.rules.specs.declared.Property.{Property}
use Rattle.rules.specs.declared.Name.{Name}
use Rattle.rules.specs.declared.Name.TheVariants.{Text, Numbered, Loose}
use Rattle.rules.proofs.ListLaws.{get_d_map}
use Rattle.rules.proofs.RowsLaws.{row_written}
use Rattle.claims.specs.Answers.{BlobAnswer}
use Rattle.claims.proofs.Answers.{blob-told}
use Rattle.rules.proofs.ReadingLaws.{total, controls_wide, properties_wide, controls-counted, properties-counted}
use Rattle.claims.specs.RowChecks.{first_row, property_count, level, parent_row}

-- only asked for where there is one
abbrev pub no-control : Control
no-control = record { type = 0; name = Numbered; properties = []; level = 0; parent = 0 }

abbrev pub no-property : Property
no-property = record { id = 0; value = value 0 0 0; start = 0; size = 0 }

-- ---- a reading's rows
control-at : (n first : ℕ) (cs : List Control) (i : ℕ) → i < length cs
    → get_or (control_rows_from n first cs) i [] ≡ control_row (n + i) (first + total (take i cs)) (get_or cs i no-control)
unfolding control_rows_from total
control-at n first [] i l = absurd (omega arith)
control-at n first (c ∷ cs) zero l = ap₂ (λ a b. control_row a b c) (omega arith) (omega arith)
control-at n first (c ∷ cs) (suc i) l =
    control-at (n + 1) (first + length c.properties) cs i (omega arith) ∙ ap₂ (λ a b. control_row a b (get_or cs i no-control)) (omega arith) (omega arith)

pub total_next : (cs : List Control) (i : ℕ) → i < length cs → total (take (suc i) cs) ≡ total (take i cs) + length (get_or cs i no-control).properties
unfolding total
total_next [] i l = absurd (omega arith)
total_next (c ∷ cs) zero l = omega arith
total_next (c ∷ cs) (suc i) l = let rest = total_next cs i (omega arith) in omega arith

total_many : (cs : List Control) → total cs ≡ length (concat (map properties_of cs))
unfolding total concat
total_many [] = refl
total_many (c ∷ cs) = omega (arith, total_many cs, length-append c.properties (concat (map properties_of cs)))

-- the words of a control's row
abbrev pub words_of : ℕ → ℕ → Control → Name → List ℕ
words_of n first c m = c.type ∷ name_words n m ++ (first ∷ length c.properties ∷ c.level ∷ c.parent ∷ [])

-- those after the name
record Words (first : ℕ) (c : Control) (row : List ℕ) : Type 0 where
  its-first : get_or row 4 0 ≡ first
  its-count : get_or row 5 0 ≡ length c.properties
  its-level : get_or row 6 0 ≡ c.level
  its-parent : get_or row 7 0 ≡ c.parent

row_words : (n first : ℕ) (c : Control) → Words first c (control_row n first c)
unfolding control_row
row_words n first c = go c.name
  where
    go : (m : Name) → Words first c (words_of n first c m)
    go (Text a b) = record { its-first = refl; its-count = refl; its-level = refl; its-parent = refl }
    go Numbered = record { its-first = refl; its-count = refl; its-level = refl; its-parent = refl }
    go (Loose a b) = record { its-first = refl; its-count = refl; its-level = refl; its-parent = refl }

-- the k-th property of control i among all
in_controls : (cs : List Control) (i k : ℕ) → i < length cs → k < length (get_or cs i no-control).properties
    → get_or (concat (map properties_of cs)) (total (take i cs) + k) no-property ≡ get_or (get_or cs i no-control).properties k no-property
unfolding concat total
in_controls [] i k l h = absurd (omega arith)
in_controls (c ∷ cs) zero k l h =
    let e : 0 + k ≡ k = omega arith in
    rw e (get_or-append c.properties (concat (map properties_of cs)) no-property k h)
in_controls (c ∷ cs) (suc i) k l h =
    let e : length c.properties + total (take i cs) + k ≡ length c.properties + (total (take i cs) + k) = omega arith in
    rw e (get_or-append-add c.properties (concat (map properties_of cs)) (total (take i cs) + k) no-property ∙ in_controls cs i k (omega arith) h)

in_reading : (r : Reading) (i k : ℕ) → i < length r.controls → k < length (get_or r.controls i no-control).properties
    → get_or (properties r) (length r.own + total (take i r.controls) + k) no-property ≡ get_or (get_or r.controls i no-control).properties k no-property
unfolding properties
in_reading r i k l h =
    let e : length r.own + total (take i r.controls) + k ≡ length r.own + (total (take i r.controls) + k) = omega arith in
    rw e (get_or-append-add r.own (concat (map properties_of r.controls)) (total (take i r.controls) + k) no-property ∙ in_controls r.controls i k l h)

pub reading-many : (r : Reading) → length (properties r) ≡ length r.own + total r.controls
unfolding properties
reading-many r = omega (arith, length-append r.own (concat (map properties_of r.controls)), total_many r.controls)

-- the controls up to one are some of all
pub total_below : (cs : List Control) (i : ℕ) → i < length cs → total (take i cs) + length (get_or cs i no-control).properties ≤ total cs
unfolding total
total_below [] i l = absurd (omega arith)
total_below (c ∷ cs) zero l = omega arith
total_below (c ∷ cs) (suc i) l = let rest = total_below cs i (omega arith) in omega arith

-- ---- in the lent slices
-- where the first property of control i stands among all
abbrev pub first_of : Reading → ℕ → ℕ
first_of r i = length r.own + total (take i r.controls)

abbrev pub control_of : Reading → ℕ → Control
control_of r i = get_or r.controls i no-control

-- the slices hold the rows of r
pub record Rows (r : Reading) (seen : Exit) : Type 0 where
  pub control-row : (i : ℕ) → i < length r.controls → row_at control_width i seen.controls ≡ control_row i (first_of r i) (control_of r i)
  pub property-row : (j : ℕ) → j < length (properties r) → row_at property_width j seen.properties ≡ property_row (get_or (properties r) j no-property)

pub rows_seen : (cs ps : List ℕ) (r : Reading) → length r.controls ≤ room control_width cs → length (properties r) ≤ room property_width ps → Rows r (exit_by_lem (read r) cs ps)
unfolding control_rows property_rows
rows_seen cs ps r room_c room_p = record {
  control-row = λ i l.
      row_written control_width (control_rows r) (controls_wide 0 (length r.own) r.controls) cs (omega (arith, controls-counted r)) i (omega (arith, controls-counted r))
      ∙ control-at 0 (length r.own) r.controls i l
      ∙ ap (λ n. control_row n (first_of r i) (control_of r i)) (omega arith);
  property-row = λ j l.
      row_written property_width (property_rows r) (properties_wide (properties r)) ps (omega (arith, properties-counted r)) j (omega (arith, properties-counted r))
      ∙ get_d_map property_row (properties r) j no-property [] l;
}

module _ {r : Reading} {seen : Exit} (rows : Rows r seen) where
  pub first-is : (i : ℕ) → i < length r.controls → first_row seen i ≡ first_of r i
  first-is i l = ap (λ w. get_or w 4 0) (rows.control-row i l) ∙ (row_words i (first_of r i) (control_of r i)).its-first

  pub count-is : (i : ℕ) → i < length r.controls → property_count seen i ≡ length (control_of r i).properties
  count-is i l = ap (λ w. get_or w 5 0) (rows.control-row i l) ∙ (row_words i (first_of r i) (control_of r i)).its-count

  pub level-is : (i : ℕ) → i < length r.controls → level seen i ≡ (control_of r i).level
  level-is i l = ap (λ w. get_or w 6 0) (rows.control-row i l) ∙ (row_words i (first_of r i) (control_of r i)).its-level

  pub parent_is : (i : ℕ) → i < length r.controls → parent_row seen i ≡ (control_of r i).parent
  parent_is i l = ap (λ w. get_or w 7 0) (rows.control-row i l) ∙ (row_words i (first_of r i) (control_of r i)).its-parent

  -- the row of the k-th property of control i
  pub own_row : (i k : ℕ) → i < length r.controls → k < length (control_of r i).properties
      → row_at property_width (first_of r i + k) seen.properties ≡ property_row (get_or (control_of r i).properties k no-property)
  own_row i k l h = rows.property-row (first_of r i + k) (omega (arith, reading-many r, total_below r.controls i l)) ∙ ap property_row (in_reading r i k l h)

-- ---- on answer 0 there is a reading, and a caller sees its rows
pub record Zero (t s cs ps : List ℕ) : Type 0 where
  pub formed : well_formed_lem t ≡ true
  pub reading : Reading
  pub is_read : reading_of t s ≡ some reading
  pub met : outcome t s (room control_width cs) (room property_width ps) ≡ read reading
  pub controls-fit : length reading.controls ≤ room control_width cs
  pub properties-fit : length (properties reading) ≤ room property_width ps
  pub is_seen : exit t s cs ps ≡ exit_by_lem (read reading) cs ps
  pub rows : Rows reading (exit_by_lem (read reading) cs ps)

pub zero-read : (t s cs ps : List ℕ) → (exit t s cs ps).answer.number ≡ 0 → Zero t s cs ps
unfolding exit outcome
zero-read t s cs ps e = go (answer_of (outcome t s (room control_width cs) (room property_width ps))) (blob-told t s cs ps) e
  where
    go : (a : Answer) → BlobAnswer t s cs ps a → a.number ≡ 0 → Zero t s cs ps
    go _ (BlobAnswer.five h) e = absurd (omega arith)
    go _ (BlobAnswer.eight h w) e = absurd (omega arith)
    go _ (BlobAnswer.four j o w) e = absurd (omega arith)
    go _ (BlobAnswer.six j w h) e = absurd (omega arith)
    go _ (BlobAnswer.seven j w h k) e = absurd (omega arith)
    go _ (BlobAnswer.zero j {r} w h k) e = record {
      formed = j.formed;
      reading = r;
      is_read = w;
      met = rw (le-ltb longest (length s) j.not_long, j.formed, w, le-ltb (room control_width cs) (length r.controls) h, le-ltb (room property_width ps) (length (properties r)) k);
      controls-fit = h;
      properties-fit = k;
      is_seen = rw (le-ltb longest (length s) j.not_long, j.formed, w, le-ltb (room control_width cs) (length r.controls) h, le-ltb (room property_width ps) (length (properties r)) k);
      rows = rows_seen cs ps r h k;
    }
