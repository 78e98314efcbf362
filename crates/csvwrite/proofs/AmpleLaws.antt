-- How long the text of a reading is at most, by its number of rows and the stream's length: values stand in stream order, so they are no longer than it.
use Prim.Native.Nat.{ℕ, ◌+◌, ◌*◌, ◌/◌, ◌%◌, ◌≤◌, ◌<◌}
use native.Mathlib.Omega.{arith}
use native.Mathlib.Nat.{min-le_left}
use mathlib.Core.Path.{◌≡◌, refl}
use mathlib.Core.Bool.{Bool, true, false, cond}
use mathlib.Core.List.{List, [], ◌∷◌, ◌++◌, map}
use lib.Dec.{ltb, eqb}
use lib.ListN.{length, drop, length-append, length-take}
use borrow.Author.Tests.{ltb-true, ltb-false, eqb-true, eqb-false}
use Rattle.rules.specs.Lists.{all, concat}
use Rattle.rules.specs.Bytes.{part}
use Rattle.rules.specs.NameTables.{text_names, number_names, bytes_names}
use Rattle.rules.specs.Names.{name_in_lem, names_for}
use Rattle.rules.specs.Listing.{or_dash}
use Rattle.rules.specs.Utf16.{is_high}
use Rattle.rules.specs.Scalars.{scalar, scalars_from, scalars}
use Rattle.rules.specs.Utf8.{utf8_of, utf8}
use Rattle.rules.specs.Reading.{Control, Reading, properties, properties_of, property_row}
use Rattle.rules.specs.Csv.{quote, is_data, doubled, field_text, or_id}
use Rattle.rules.specs.declared.Property.{Property}
use Rattle.csvlaws.proofs.CsvLaws.{doubled-append}
use Rattle.csvlaws.proofs.Utf8Laws.{utf8-doubled}
use Rattle.claims.proofs.Order.{Ordered}
use Rattle.claims.proofs.RowChecks.{row_place}
use Rattle.listing.specs.Bound.{longest_in, longest_name}
use Rattle.listing.proofs.Longest.{word-short, value-short, value-name-short}
use Rattle.csvtext.proofs.UnitLaws.{field_plain, field-quoted, length-hexes}
use Rattle.csvrecord.specs.Parts.{value_field, tail_text}
use Rattle.csvrecord.proofs.RecordLaws.{four_digits_lem, field-text, field_column, field-hexes, tail_size}
use Rattle.csvrows.proofs.Steps.{control-short, object_short}
use Rattle.csvwalk.specs.Needs.{needs, object_need, control_need, controls_need, sheet_need}

-- ---- text: two bytes of UTF-16 are four bytes at most, a quote doubled
utf8-most : (c : ℕ) → length (utf8_of c) ≤ 4
unfolding utf8_of
utf8-most c = go (ltb c 0x80) (ltb c 0x800) (ltb c 0x10000)
  where
    go : (x y z : Bool)
        → length (cond x (c ∷ [])
        (cond y ((0xC0 + c / 64) ∷ (0x80 + c % 64) ∷ [])
        (cond z ((0xE0 + c / 4096) ∷ (0x80 + c / 64 % 64) ∷ (0x80 + c % 64) ∷ [])
        ((0xF0 + c / 262144) ∷ (0x80 + c / 4096 % 64) ∷ (0x80 + c / 64 % 64) ∷ (0x80 + c % 64) ∷ [])))) ≤ 4
    go true y z = omega arith
    go false true z = omega arith
    go false false true = omega arith
    go false false false = omega arith

character-most : (c : ℕ) → length (doubled (utf8_of c)) ≤ 4
character-most c = rw (utf8-doubled c) (go (eqb c quote))
  where
    go : (q : Bool) → length (cond q (quote ∷ quote ∷ []) (utf8_of c)) ≤ 4
    go true = omega arith
    go false = utf8-most c

from-most : (high : ℕ) (s : List ℕ) → length (doubled (concat (map utf8_of (scalars_from high s)))) ≤ 2 * length s
unfolding scalars_from concat doubled
from-most high [] = omega arith
from-most high (a ∷ []) = omega arith
from-most high (a ∷ b ∷ s) = go (is_high (a + 256 * b)) (from-most (a + 256 * b) s) (from-most 0 s)
  where
    u : ℕ
    u = a + 256 * b

    go : (t : Bool) → length (doubled (concat (map utf8_of (scalars_from u s)))) ≤ 2 * length s → length (doubled (concat (map utf8_of (scalars_from 0 s)))) ≤ 2 * length s
        → length (doubled (concat (map utf8_of (cond t (scalars_from u s) (scalar high u ∷ scalars_from 0 s))))) ≤ 2 * length (a ∷ b ∷ s)
    go true x y = omega arith
    go false x y =
        rw (doubled-append (utf8_of (scalar high u)) (concat (map utf8_of (scalars_from 0 s))))
        (simp length-append (omega (arith, character-most (scalar high u))))

text-most : (b : List ℕ) → length (field_text (utf8 b)) ≤ 2 + 2 * length b
unfolding utf8 scalars
text-most b = go (all is_data (utf8 b)) refl
  where
    most : length (doubled (utf8 b)) ≤ 2 * length b
    most = from-most 0 b

    go : (t : Bool) → all is_data (utf8 b) ≡ t → length (field_text (utf8 b)) ≤ 2 + 2 * length b
    go true e = rw (field_plain (utf8 b) e) (omega (arith, most))
    go false e = rw (field-quoted (utf8 b) e) (simp length-append (omega (arith, most)))

-- ---- a record
part-most : (s : List ℕ) (start size : ℕ) → length (part s start size) ≤ size
part-most s start size = rw (length-take size (drop start s)) (min-le_left size (length (drop start s)))

longest-is : longest_name ≡ 26
unfolding longest_name longest_in text_names number_names bytes_names
longest-is = refl

name_by : (name : List ℕ) (id : ℕ) → length (or_dash name) ≤ 26 → length (or_id name id) ≤ 26
unfolding or_id or_dash
name_by [] id h = omega (arith, four_digits_lem id)
name_by (b ∷ s) id h = h

name-most : (mark id : ℕ) → length (or_id (name_in_lem (names_for mark) id) id) ≤ 26
name-most mark id = name_by (name_in_lem (names_for mark) id) id (omega (arith, value-name-short mark id, longest-is))

module _ (stream : List ℕ) (p : Property) (small : p.size < 4294967296) where
  abbrev bytes : List ℕ
  bytes = part stream p.start p.size

  few : length bytes ≤ p.size
  few = part-most stream p.start p.size

  value-most : length (value_field stream (property_row p)) ≤ 38 + 2 * p.size
  value-most = go (ltb p.value.mark 6) (eqb p.value.mark 6) refl refl
    where
      go : (x y : Bool) → ltb p.value.mark 6 ≡ x → eqb p.value.mark 6 ≡ y → length (value_field stream (property_row p)) ≤ 38 + 2 * p.size
      go true y e f =
          rw (field_column stream p (ltb-true p.value.mark 6 e)) (omega (arith, value-short p.value.low p.value.high stream p.start p.size small p.value.mark))
      go false true e f = rw (field-text stream p (eqb-true p.value.mark 6 f)) (omega (arith, text-most bytes, few))
      go false false e f =
          let l = ltb-false p.value.mark 6 e in
          let n = eqb-false p.value.mark 6 f in
          rw (field-hexes stream p (omega arith)) (omega (arith, length-hexes bytes, few))

  tail_most : length (tail_text stream (property_row p)) ≤ 78 + 2 * p.size
  tail_most = omega (arith, tail_size stream (property_row p), name-most p.value.mark p.id, word-short p.value.mark, value-most)

-- ---- records, by the bytes of their values
abbrev volume : List Property → ℕ
volume [] = 0
volume (p ∷ ps) = p.size + volume ps

volume_append : (a b : List Property) → volume (a ++ b) ≡ volume a + volume b
volume_append [] b = omega arith
volume_append (p ∷ a) b = omega (arith, volume_append a b)

volume_fits : (ps : List Property) (p e : ℕ) → Ordered p (map row_place ps) e → p + volume ps ≤ e
volume_fits [] p e h = omega (arith, h)
volume_fits (q ∷ ps) p e h = omega (arith, h.0, volume_fits ps (q.start + q.size) e h.1)

needs-most : (stream : List ℕ) (owner : ℕ) (ps : List Property) → owner ≤ 16 → volume ps < 4294967296 → needs stream owner ps ≤ 94 * length ps + 2 * volume ps
unfolding needs
needs-most stream owner [] o v = omega arith
needs-most stream owner (p ∷ ps) o v = omega (arith, tail_most stream p (omega arith), needs-most stream owner ps o (omega arith))

abbrev rows_of : List Control → List Property
rows_of cs = concat (map properties_of cs)

controls-most : (stream : List ℕ) (n : ℕ) (cs : List Control) → n + length cs ≤ 0xFFFFFFFF → volume (rows_of cs) < 4294967296
    → controls_need stream n cs ≤ 94 * length (rows_of cs) + 2 * volume (rows_of cs)
unfolding controls_need concat
controls-most stream n [] h v = omega arith
controls-most stream n (c ∷ cs) h v =
    let a = volume_append c.properties (rows_of cs) in
    let b = length-append c.properties (rows_of cs) in
    omega (
      arith,
      needs-most stream (control_need n c.type) c.properties (control-short n c.type (omega arith)) (omega arith),
      controls-most stream (n + 1) cs (omega arith) (omega arith),
    )

pub sheet-most : (s : List ℕ) (r : Reading) → length s < 4294967296 → length r.controls ≤ 0xFFFFFFFF → Ordered 0 (map row_place (properties r)) (length s)
    → sheet_need s r ≤ 94 * length (properties r) + 2 * length s
unfolding sheet_need properties
sheet-most s r l h o =
    let a = volume_append r.own (rows_of r.controls) in
    let b = length-append r.own (rows_of r.controls) in
    let v = volume_fits (r.own ++ rows_of r.controls) 0 (length s) o in
    omega (
      arith,
      needs-most s object_need r.own object_short (omega arith),
      controls-most s 0 r.controls (omega arith) (omega arith),
    )
