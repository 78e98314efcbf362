-- Rows as they are read, and how many have the mark of an unmapped code.
use Prim.Native.Nat.{ℕ, suc, ◌+◌, ◌-◌, ◌<◌, ◌≤◌}
use native.Mathlib.Omega.{arith}
use mathlib.Core.Path.{◌≡◌, ap, ◌∙◌}
use mathlib.Core.Bool.{Bool, true, false, cond}
use mathlib.Core.List.{List, ◌++◌}
use lib.Dec.{leb}
use Rattle.rules.specs.Rows.{property_width, row_at}
use Rattle.rules.specs.Listing.{word}
use Rattle.rows.specs.Get.{ControlOf}
use Rattle.rows.specs.Put.{control_words}
use Rattle.rows.specs.declared.ControlRow.{ControlRow}
use Rattle.csvrows.specs.Rows.{most}
use Rattle.csvrows.proofs.Turns.{ByWords}
use Rattle.showlines.specs.Lines.{control_owner, property_line, control_line}
use Rattle.showlines.specs.Rows.{rows_text, control_text, one_if_unmapped, unmapped_from}
use Rattle.showlines.specs.declared.Reading.{Reading}
use Rattle.showlines.specs.declared.Owner.{Owner}

-- ---- rows as they are read
pub line-by-words : (stream : List ℕ) (o : Owner) → ByWords (property_line stream o)
unfolding property_line
line-by-words stream o row q h = rw (h.id, h.mark, h.low, h.high, h.start, h.size)

module _ {control : List ℕ} {c : ControlRow} (w : ControlOf control c) where
  same_line : (stream : List ℕ) (n : ℕ) → control_line stream n (control_words c) ≡ control_line stream n control
  unfolding control_line
  same_line stream n = rw (w.type-code, w.mark, w.start, w.size, w.level)

  same-owner : (t : List ℕ) (reading : Reading) → control_owner t reading (control_words c) ≡ control_owner t reading control
  same-owner t reading = rw (w.type-code, w.level)

  pub part_as : (t stream : List ℕ) (kind : Reading) (rows : List ℕ) (n next : ℕ) {o : Owner} → o ≡ control_owner t kind (control_words c)
      → control_line stream n (control_words c) ++ rows_text stream o rows next c.count ≡ control_text t stream kind rows n control next
  part_as t stream kind rows n next e = let whose = e ∙ same-owner t kind in λ i. same_line stream n i ++ rows_text stream (whose i) rows next (w.count i)

-- ---- unmapped codes
one_at_most : (id : ℕ) → one_if_unmapped id ≤ 1
unfolding one_if_unmapped
one_at_most id = go (leb 0x8000 id)
  where
    go : (b : Bool) → cond b 1 0 ≤ 1
    go true = omega arith
    go false = omega arith

pub record MarkedLeft (rows : List ℕ) (count found i left : ℕ) : Type 0 where
  pub few : i + left ≤ most
  pub fewer : found ≤ i
  pub rest : found + unmapped_from rows i left ≡ unmapped_from rows 0 count

marked_step : (rows : List ℕ) (i left : ℕ) → 0 < left → unmapped_from rows i left ≡ one_if_unmapped (word (row_at property_width i rows) 0) + unmapped_from rows (i + 1) (left - 1)
unfolding unmapped_from
marked_step rows i left h = let e : left ≡ suc (left - 1) = omega arith in ap (unmapped_from rows i) e

marked-end : (rows : List ℕ) (i left : ℕ) → left ≤ 0 → unmapped_from rows i left ≡ 0
unfolding unmapped_from
marked-end rows i left h = let e : left ≡ 0 = omega arith in ap (unmapped_from rows i) e

pub marked_start : (rows : List ℕ) (count : ℕ) → count ≤ most → MarkedLeft rows count 0 0 count
marked_start rows count h = record { few = omega arith; fewer = omega arith; rest = omega arith }

module _ {rows : List ℕ} {count found i left : ℕ} (g : MarkedLeft rows count found i left) where
  module _ (h : 0 < left) {id one : ℕ} (ie : id ≡ word (row_at property_width i rows) 0) (oe : one ≡ one_if_unmapped id) where
    pub marked-few : found + one ≤ most
    marked-few = omega (arith, g.few, g.fewer, oe, one_at_most id)

    pub marked_more : MarkedLeft rows count (found + one) (i + 1) (left - 1)
    marked_more = record {
      few = omega (arith, g.few);
      fewer = omega (arith, g.fewer, oe, one_at_most id);
      rest = omega (arith, g.rest, marked_step rows i left h, oe ∙ ap one_if_unmapped ie);
    }

  pub marked-done : left ≤ 0 → found ≡ unmapped_from rows 0 count
  marked-done h = omega (arith, g.rest, marked-end rows i left h)
