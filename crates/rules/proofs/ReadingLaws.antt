-- The rows of a reading: how many there are, how wide, and how they come in two parts.
use Prim.Native.Nat.{ℕ, ◌+◌}
use native.Mathlib.Omega.{arith}
use mathlib.Core.Path.{◌≡◌, refl, ap, ap₂, ◌∙◌}
use mathlib.Core.List.{List, [], ◌∷◌, ◌++◌, map}
use lib.ListN.{length, length-append, length-map}
use Rattle.rules.specs.Rows.{control_width, property_width}
use Rattle.rules.specs.Reading.{Control, Reading, properties, name_words, control_row, control_rows_from, control_rows, property_row, property_rows}
use Rattle.rules.specs.declared.Property.{Property}
use Rattle.rules.specs.declared.Name.{Name}
use Rattle.rules.specs.declared.Name.TheVariants.{Text, Numbered, Loose}
use Rattle.rules.proofs.RowsLaws.{Wide}

-- how many properties controls have together
unfoldable pub total : List Control → ℕ
total [] = 0
total (c ∷ cs) = length c.properties + total cs

-- ---- widths and counts
name-words : (n : ℕ) (m : Name) → length (name_words n m) ≡ 3
name-words n (Text a b) = refl
name-words n Numbered = refl
name-words n (Loose a b) = refl

row_words : (n first : ℕ) (c : Control) → length (control_row n first c) ≡ control_width
unfolding control_row
row_words n first c = simp (length-append, name-words)

pub controls_wide : (n first : ℕ) (cs : List Control) → Wide control_width (control_rows_from n first cs)
unfolding control_rows_from
controls_wide n first [] = tt
controls_wide n first (c ∷ cs) = (row_words n first c, controls_wide (n + 1) (first + length c.properties) cs)

pub properties_wide : (ps : List Property) → Wide property_width (map property_row ps)
properties_wide [] = tt
properties_wide (p ∷ ps) = (refl, properties_wide ps)

pub control-rows-many : (n first : ℕ) (cs : List Control) → length (control_rows_from n first cs) ≡ length cs
unfolding control_rows_from
control-rows-many n first [] = refl
control-rows-many n first (c ∷ cs) = omega (arith, control-rows-many (n + 1) (first + length c.properties) cs)

-- a reading has a row for each control and for each property
pub controls-counted : (r : Reading) → length (control_rows r) ≡ length r.controls
unfolding control_rows
controls-counted r = control-rows-many 0 (length r.own) r.controls

pub properties-counted : (r : Reading) → length (property_rows r) ≡ length (properties r)
unfolding property_rows
properties-counted r = simp length-map

-- ---- in two parts
pub rows_append : (n first : ℕ) (a b : List Control)
    → control_rows_from n first (a ++ b) ≡ control_rows_from n first a ++ control_rows_from (n + length a) (first + total a) b
unfolding control_rows_from total
rows_append n first [] b = ap₂ (λ i j. control_rows_from i j b) (omega arith) (omega arith)
rows_append n first (c ∷ a) b =
    ap (λ l. control_row n first c ∷ l)
    (rows_append (n + 1) (first + length c.properties) a b
    ∙ ap₂ (λ i j. control_rows_from (n + 1) (first + length c.properties) a ++ control_rows_from i j b) (omega arith) (omega arith))
