-- The lines, field by field as the code writes them.
use mathlib.Core.Path.{◌≡◌, refl}
use mathlib.Core.List.{List, [], ◌∷◌, ◌++◌, append_assoc}
use Prim.Native.Nat.{ℕ}
use Rattle.rules.specs.Lists.{text}
use Rattle.rules.specs.Bytes.{part}
use Rattle.rules.specs.Digits.{decimal, hex}
use Rattle.rules.specs.NameTables.{control_type_names}
use Rattle.rules.specs.Names.{name_in_lem, names_for}
use Rattle.rules.specs.Reading.{property_row}
use Rattle.rules.specs.Listing.{answer_line, or_dash, word, name_column, parent_column, control_line, property_line}
use Rattle.rules.specs.declared.Answer.{Answer}
use Rattle.rules.specs.declared.Property.{Property}
use Rattle.text.specs.Writer.{Wrote}
use Rattle.text.proofs.Chain.{◌⨟◌}
use Rattle.rows.specs.Get.{ControlOf, PropertyOf}
use Rattle.rows.specs.declared.ControlRow.{ControlRow}
use Rattle.fields.specs.Parts.{fields, shown_fields}
use Rattle.listing.specs.Numbers.{numbers_line}

pub control-text : (stream : List ℕ) (n : ℕ) (row : List ℕ) → control_line stream n row
    ≡ fields (text "C" ∷ decimal n ∷ hex 4 (word row 0) ∷ [])
    ++ (or_dash (name_in_lem control_type_names (word row 0))
    ++ (text " " ++ (name_column (word row 1) (word row 3) (part stream (word row 2) (word row 3))
    ++ (text " " ++ (decimal (word row 4)
    ++ (text " " ++ (decimal (word row 5)
    ++ (text " " ++ ((decimal (word row 6) ++ (text " " ++ parent_column (word row 7)))
    ++ text "\n")))))))))
unfolding control_line
control-text stream n row = simp append_assoc

pub property-text : (stream : List ℕ) (n : ℕ) (row : List ℕ) → property_line stream n row
    ≡ fields (text "P" ∷ decimal n ∷ hex 4 (word row 0) ∷ [])
    ++ (or_dash (name_in_lem (names_for (word row 1)) (word row 0))
    ++ (text " " ++ (shown_fields stream row
    ++ text "\n")))
unfolding property_line shown_fields
property-text stream n row = simp append_assoc

-- ---- a line written, by the writers of its fields
pub numbers_wrote : (word : List ℕ) (a b c d : ℕ) {o b1 b2 b3 b4 b5 b6 b7 b8 b9 new : List ℕ} {at p1 p2 p3 p4 p5 p6 p7 p8 p9 e : ℕ}
    → Wrote o at word b1 p1
    → Wrote b1 p1 (text " ") b2 p2 → Wrote b2 p2 (decimal a) b3 p3
    → Wrote b3 p3 (text " ") b4 p4 → Wrote b4 p4 (decimal b) b5 p5
    → Wrote b5 p5 (text " ") b6 p6 → Wrote b6 p6 (decimal c) b7 p7
    → Wrote b7 p7 (text " ") b8 p8 → Wrote b8 p8 (decimal d) b9 p9
    → Wrote b9 p9 (text "\n") new e
    → Wrote o at (numbers_line word a b c d) new e
unfolding numbers_line
numbers_wrote word a b c d w1 w2 w3 w4 w5 w6 w7 w8 w9 w10 = w1 ⨟ w2 ⨟ w3 ⨟ w4 ⨟ w5 ⨟ w6 ⨟ w7 ⨟ w8 ⨟ w9 ⨟ w10

pub answer-is : (a : Answer) → numbers_line (text "answer") a.number a.first a.second a.third ≡ answer_line a
unfolding numbers_line answer_line
answer-is a = refl

module _ (n : ℕ) (row : List ℕ) where
  pub control-wrote : (stream : List ℕ) {o b1 b2 b3 b4 b5 b6 b7 b8 b9 b10 new : List ℕ} {at p1 p2 p3 p4 p5 p6 p7 p8 p9 p10 e : ℕ} {r : ControlRow}
      → ControlOf row r
      → Wrote o at (fields (text "C" ∷ decimal n ∷ hex 4 r.type_code ∷ [])) b1 p1
      → Wrote b1 p1 (or_dash (name_in_lem control_type_names r.type_code)) b2 p2
      → Wrote b2 p2 (text " ") b3 p3 → Wrote b3 p3 (name_column r.mark r.size (part stream r.start r.size)) b4 p4
      → Wrote b4 p4 (text " ") b5 p5 → Wrote b5 p5 (decimal r.first) b6 p6
      → Wrote b6 p6 (text " ") b7 p7 → Wrote b7 p7 (decimal r.count) b8 p8
      → Wrote b8 p8 (text " ") b9 p9 → Wrote b9 p9 (decimal r.level ++ (text " " ++ parent_column r.parent)) b10 p10
      → Wrote b10 p10 (text "\n") new e
      → Wrote o at (control_line stream n row) new e
  control-wrote stream h w1 w2 w3 w4 w5 w6 w7 w8 w9 w10 w11 =
      rw (control-text stream n row)
      (rw (h.type-code, h.mark, h.start, h.size, h.first, h.count, h.level, h.parent) at (w1 ⨟ w2 ⨟ w3 ⨟ w4 ⨟ w5 ⨟ w6 ⨟ w7 ⨟ w8 ⨟ w9 ⨟ w10 ⨟ w11))

  shown_of : (stream : List ℕ) {p : Property} → PropertyOf row p → shown_fields stream (property_row p) ≡ shown_fields stream row
  unfolding shown_fields
  shown_of stream h = rw (h.mark, h.low, h.high, h.start, h.size)

  pub property-wrote : (stream : List ℕ) {o b1 b2 b3 b4 new : List ℕ} {at p1 p2 p3 p4 e : ℕ} {p : Property}
      → PropertyOf row p
      → Wrote o at (fields (text "P" ∷ decimal n ∷ hex 4 p.id ∷ [])) b1 p1
      → Wrote b1 p1 (or_dash (name_in_lem (names_for p.value.mark) p.id)) b2 p2
      → Wrote b2 p2 (text " ") b3 p3 → Wrote b3 p3 (shown_fields stream (property_row p)) b4 p4
      → Wrote b4 p4 (text "\n") new e
      → Wrote o at (property_line stream n row) new e
  property-wrote stream h w1 w2 w3 w4 w5 =
      rw (property-text stream n row) (rw (shown_of stream h, h.id, h.mark) at (w1 ⨟ w2 ⨟ w3 ⨟ w4 ⨟ w5))
