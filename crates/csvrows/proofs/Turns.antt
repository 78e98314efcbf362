-- Rows and controls written one at a time, whatever text each of them has.
use Prim.Native.Nat.{ℕ, suc, ◌+◌, ◌-◌, ◌<◌, ◌≤◌}
use native.Mathlib.Omega.{arith}
use mathlib.Core.Path.{◌≡◌, sym, ap, subst, ◌∙◌}
use mathlib.Core.List.{List, [], ◌++◌}
use Rattle.rules.specs.Rows.{property_width, row_at}
use Rattle.rules.specs.Reading.{property_row}
use Rattle.rules.specs.Listing.{word}
use Rattle.rules.specs.declared.Property.{Property}
use Rattle.rows.specs.Get.{PropertyOf, ControlOf}
use Rattle.rows.specs.declared.ControlRow.{ControlRow}
use Rattle.text.specs.Writer.{Wrote}
use Rattle.text.proofs.Chain.{wrote_as}
use Rattle.text.proofs.Remains.{Remains, all_remains, on, done}
use Rattle.csvrows.specs.Rows.{most, lines_from, control_at, many_from, parts_from}

-- ---- property rows
-- what a line says of a row it takes from the row's words
abbrev pub ByWords : (List ℕ → List ℕ) → Type 0
ByWords line = (row : List ℕ) (q : Property) → PropertyOf row q → line (property_row q) ≡ line row

-- the lines of the rows from row i on are still to be written
pub record RowsLeft (line : List ℕ → List ℕ) (rows : List ℕ) (first count : ℕ) (old : List ℕ) (at : ℕ) (now : List ℕ) (p i left : ℕ) : Type 0 where
  pub few : i + left ≤ most
  pub rest : Remains old at (lines_from line rows first count) now p (lines_from line rows i left)

module _ (line : List ℕ → List ℕ) (rows : List ℕ) (i left : ℕ) where
  lines_step : 0 < left → lines_from line rows i left ≡ line (row_at property_width i rows) ++ lines_from line rows (i + 1) (left - 1)
  unfolding lines_from
  lines_step h = let e : left ≡ suc (left - 1) = omega arith in ap (lines_from line rows i) e

  lines_end : left ≤ 0 → lines_from line rows i left ≡ []
  unfolding lines_from
  lines_end h = let e : left ≡ 0 = omega arith in ap (lines_from line rows i) e

pub rows_start : {line : List ℕ → List ℕ} {rows : List ℕ} {first count : ℕ} {old : List ℕ} {at : ℕ} → first + count ≤ most → RowsLeft line rows first count old at old at first count
rows_start h = record { few = h; rest = all_remains }

module _ {line : List ℕ → List ℕ} {rows : List ℕ} {first count : ℕ} {old : List ℕ} {at : ℕ} {now : List ℕ} {p i left : ℕ} (g : RowsLeft line rows first count old at now p i left) where
  pub rows_more : ByWords line → 0 < left → {q : Property} → PropertyOf (row_at property_width i rows) q → {next : List ℕ} {e : ℕ} → Wrote now p (line (property_row q)) next e
      → RowsLeft line rows first count old at next e (i + 1) (left - 1)
  rows_more same h {q} w v = record { few = omega (arith, g.few); rest = on g.rest (lines_step line rows i left h) (wrote_as v (same (row_at property_width i rows) q w)) }

  pub rows-done : left ≤ 0 → Wrote old at (lines_from line rows first count) now p
  rows-done h = done g.rest (lines_end line rows i left h)

  -- as many said otherwise
  pub rows_as : {many : ℕ} → left ≡ many → RowsLeft line rows first count old at now p i many
  rows_as e = subst (λ (k : ℕ). RowsLeft line rows first count old at now p i k) e g

-- ---- controls
pub record ControlsLeft (part : ℕ → List ℕ → ℕ → List ℕ) (controls : List ℕ) (count first : ℕ) (old : List ℕ) (at : ℕ) (now : List ℕ) (p n left next : ℕ) : Type 0 where
  pub some_left : n + left ≤ most
  pub few : next + many_from controls n left ≤ most
  pub rest : Remains old at (parts_from part controls 0 count first) now p (parts_from part controls n left next)

many-step : (controls : List ℕ) (n left : ℕ) → 0 < left → many_from controls n left ≡ word (control_at controls n) 5 + many_from controls (n + 1) (left - 1)
unfolding many_from
many-step controls n left h = let e : left ≡ suc (left - 1) = omega arith in ap (many_from controls n) e

module _ (part : ℕ → List ℕ → ℕ → List ℕ) (controls : List ℕ) (n left next : ℕ) where
  parts_step : 0 < left → parts_from part controls n left next ≡ part n (control_at controls n) next ++ parts_from part controls (n + 1) (left - 1) (next + word (control_at controls n) 5)
  unfolding parts_from
  parts_step h = let e : left ≡ suc (left - 1) = omega arith in ap (λ (k : ℕ). parts_from part controls n k next) e

  parts_end : left ≤ 0 → parts_from part controls n left next ≡ []
  unfolding parts_from
  parts_end h = let e : left ≡ 0 = omega arith in ap (λ (k : ℕ). parts_from part controls n k next) e

pub controls-start : {part : ℕ → List ℕ → ℕ → List ℕ} {controls : List ℕ} {count first : ℕ} {old : List ℕ} {at : ℕ}
    → count ≤ most → first + many_from controls 0 count ≤ most → ControlsLeft part controls count first old at old at 0 count first
controls-start h k = record { some_left = omega arith; few = k; rest = all_remains }

module _ {part : ℕ → List ℕ → ℕ → List ℕ} {controls : List ℕ} {count first : ℕ} {old : List ℕ} {at : ℕ} {now : List ℕ} {p n left next : ℕ}
    (g : ControlsLeft part controls count first old at now p n left next) where
  module _ (h : 0 < left) {c : ControlRow} (w : ControlOf (control_at controls n) c) where
    pub controls-few : next + c.count ≤ most
    controls-few = omega (arith, g.few, many-step controls n left h, w.count)

    pub controls-more : {text new : List ℕ} {e : ℕ} → Wrote now p text new e → text ≡ part n (control_at controls n) next
        → ControlsLeft part controls count first old at new e (n + 1) (left - 1) (next + c.count)
    controls-more v same = record {
      some_left = omega (arith, g.some_left);
      few = omega (arith, g.few, many-step controls n left h, w.count);
      rest = on g.rest
          (parts_step part controls n left next h ∙ ap (λ (m : ℕ). part n (control_at controls n) next ++ parts_from part controls (n + 1) (left - 1) (next + m)) (sym w.count))
          (wrote_as v same);
    }

  pub controls_as : {many : ℕ} → left ≡ many → ControlsLeft part controls count first old at now p n many next
  controls_as e = subst (λ (k : ℕ). ControlsLeft part controls count first old at now p n k next) e g

  pub controls-done : left ≤ 0 → Wrote old at (parts_from part controls 0 count first) now p
  controls-done h = done g.rest (parts_end part controls n left next h)
