-- A row as it is read, and an owner's fields in the room for them.
use Prim.Native.Nat.{ℕ, zero, suc, ◌+◌, ◌*◌, ◌≤◌}
use native.Mathlib.Omega.{arith}
use native.Mathlib.Nat.{zero-add}
use mathlib.Core.Path.{◌≡◌, refl, sym, ap, ap₂, ◌∙◌}
use mathlib.Core.List.{List, ◌++◌}
use lib.ListN.{length, get_or, take, drop}
use lib.Seq.{take-append_seam}
use Rattle.rules.specs.Rows.{property_width, row_at}
use Rattle.rules.specs.declared.Property.{Property}
use Rattle.rows.specs.Get.{PropertyOf, ControlOf}
use Rattle.rows.specs.declared.ControlRow.{ControlRow}
use Rattle.rows.proofs.GetLaws.{word_in}
use Rattle.text.specs.Writer.{Wrote}
use Rattle.text.proofs.Digits.{longest-label}
use Rattle.text.proofs.Written as placed
use Rattle.csvrecord.specs.Parts.{owner_text, tail_text, value_field}
use Rattle.csvrecord.specs.declared.Owner.{Owner}
use Rattle.csvrecord.proofs.RecordLaws.{record_parts, label-size, owner-is}
use Rattle.csvrows.specs.Rows.{most, lines_from, rows_text, tails_text, control_text}
use Rattle.csvrows.proofs.Turns.{ByWords}

-- ---- property rows
-- a row whose six words are there
pub row-there : (rows : List ℕ) (i at : ℕ) {p : Property} → at ≡ i * property_width → p.id ≡ get_or rows at 0 → p.value.mark ≡ get_or rows (at + 1) 0 → p.value.low ≡ get_or rows (at + 2) 0
    → p.value.high ≡ get_or rows (at + 3) 0 → p.start ≡ get_or rows (at + 4) 0 → p.size ≡ get_or rows (at + 5) 0 → PropertyOf (row_at property_width i rows) p
row-there rows i at e a b c d f g =
    let z : at ≡ i * property_width + 0 = omega arith in
    record {
      id = a ∙ ap (λ (n : ℕ). get_or rows n 0) z ∙ sym (word_in property_width i 0 rows (omega arith));
      mark = b ∙ ap (λ (n : ℕ). get_or rows (n + 1) 0) e ∙ sym (word_in property_width i 1 rows (omega arith));
      low = c ∙ ap (λ (n : ℕ). get_or rows (n + 2) 0) e ∙ sym (word_in property_width i 2 rows (omega arith));
      high = d ∙ ap (λ (n : ℕ). get_or rows (n + 3) 0) e ∙ sym (word_in property_width i 3 rows (omega arith));
      start = f ∙ ap (λ (n : ℕ). get_or rows (n + 4) 0) e ∙ sym (word_in property_width i 4 rows (omega arith));
      size = g ∙ ap (λ (n : ℕ). get_or rows (n + 5) 0) e ∙ sym (word_in property_width i 5 rows (omega arith));
    }

pub tail_by-words : (stream owner : List ℕ) → ByWords (λ row. owner ++ tail_text stream row)
unfolding tail_text value_field
tail_by-words stream owner row q h = rw (h.id, h.mark, h.low, h.high, h.start, h.size)

-- ---- one owner's
pub tails_are : (stream : List ℕ) (o : Owner) (rows : List ℕ) (k first : ℕ) → tails_text stream (owner_text o) rows first k ≡ rows_text stream o rows first k
unfolding lines_from
tails_are stream o rows zero first = refl
tails_are stream o rows (suc k) first = ap₂ ◌++◌ (sym (record_parts stream o (row_at property_width first rows))) (tails_are stream o rows k (first + 1))

-- the fields that tell it, in the room for them
module _ {o new : List ℕ} {e : ℕ} {x : List ℕ} (long : length o ≡ 16) (short : length x ≤ 16) (w : Wrote o 0 x new e) where
  fits : 0 + length x ≤ length o
  fits = omega arith

  size_is : e ≡ length x
  size_is = placed.next w fits ∙ zero-add (length x)

  pub fields-inside : e ≤ 16
  fields-inside = omega (arith, size_is)

  pub fields-are : take e new ≡ x
  fields-are =
      ap (λ (n : ℕ). take n new) size_is
      ∙ ap (λ (l : List ℕ). take (length x) l) (placed.all w fits)
      ∙ take-append_seam x (drop (0 + length x) o)

pub control-short : (n type : ℕ) → n ≤ most → length (owner_text (Owner.Control n type)) ≤ 16
control-short n type h = omega (arith, owner-is {o = Owner.Control n type} refl, label-size n, longest-label n (omega arith))

pub object_short : length (owner_text Owner.Object) ≤ 16
unfolding owner_text
object_short = omega arith

-- ---- controls
-- by its row as it is read
pub part_as : {control : List ℕ} {c : ControlRow} → ControlOf control c → (stream rows : List ℕ) (n next : ℕ)
    → rows_text stream (Owner.Control n c.type_code) rows next c.count ≡ control_text stream rows n control next
part_as w stream rows n next = λ i. rows_text stream (Owner.Control n (w.type-code i)) rows next (w.count i)
