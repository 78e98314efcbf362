-- The text of a reading is as long as its records need.
use Prim.Native.Nat.{ℕ, ◌+◌}
use native.Mathlib.Omega.{arith}
use mathlib.Core.Path.{◌≡◌, refl, sym, ap, ◌∙◌}
use mathlib.Core.List.{List, [], ◌∷◌, ◌++◌, map}
use lib.ListN.{length, length-append}
use Rattle.rules.specs.Reading.{Control, Reading, property_row}
use Rattle.rules.specs.Csv.{Record, record_text, sheet_text, header, property_record, property_records, control_records, sheet_of, csv_of}
use Rattle.rules.specs.declared.Property.{Property}
use Rattle.csvlaws.proofs.CsvLaws.{sheet-append}
use Rattle.csvrecord.specs.Parts.{control_field, type_field, owned_record, owner_text, tail_text}
use Rattle.csvrecord.specs.declared.Owner.{Owner}
use Rattle.csvrecord.proofs.RecordLaws.{record_parts}
use Rattle.csvwalk.specs.Needs.{needs, object_need, control_need, controls_need, sheet_need}

record_need : (stream : List ℕ) (o : Owner) (p : Property) → length (record_text (owned_record stream o (property_row p))) ≡ length (owner_text o) + length (tail_text stream (property_row p))
record_need stream o p = ap length (record_parts stream o (property_row p)) ∙ length-append (owner_text o) (tail_text stream (property_row p))

owned_need : (stream : List ℕ) (o : Owner) (ps : List Property) → length (sheet_text (property_records stream (control_field o) (type_field o) ps)) ≡ needs stream (length (owner_text o)) ps
unfolding sheet_text property_records needs
owned_need stream o [] = refl
owned_need stream o (p ∷ ps) =
    length-append (record_text (owned_record stream o (property_row p))) (sheet_text (property_records stream (control_field o) (type_field o) ps))
    ∙ omega (arith, record_need stream o p, owned_need stream o ps)

controls_need_lem : (stream : List ℕ) (n : ℕ) (cs : List Control) → length (sheet_text (control_records stream n cs)) ≡ controls_need stream n cs
unfolding sheet_text control_records controls_need
controls_need_lem stream n [] = refl
controls_need_lem stream n (c ∷ cs) =
    let o : Owner = Owner.Control n c.type in
    let these = property_records stream (control_field o) (type_field o) c.properties in
    ap length (sheet-append these (control_records stream (n + 1) cs))
    ∙ length-append (sheet_text these) (sheet_text (control_records stream (n + 1) cs))
    ∙ omega (arith, owned_need stream o c.properties, controls_need_lem stream (n + 1) cs)

pub sheet_need_lem : (stream : List ℕ) (r : Reading) → length (csv_of stream r) ≡ length (record_text header) + sheet_need stream r
unfolding csv_of sheet_of sheet_text sheet_need
sheet_need_lem stream r =
    let own = property_records stream (control_field Owner.Object) (type_field Owner.Object) r.own in
    length-append (record_text header) (sheet_text (own ++ control_records stream 0 r.controls))
    ∙ ap (λ (n : ℕ). length (record_text header) + n)
    (ap length (sheet-append own (control_records stream 0 r.controls))
    ∙ length-append (sheet_text own) (sheet_text (control_records stream 0 r.controls))
    ∙ omega (arith, owned_need stream Owner.Object r.own, controls_need_lem stream 0 r.controls))

-- ---- in steps
module _ (stream : List ℕ) (owner : ℕ) where
  pub needs-none : needs stream owner [] ≡ 0
  unfolding needs
  needs-none = refl

  pub needs-more : (p : Property) (ps : List Property) → needs stream owner (p ∷ ps) ≡ owner + length (tail_text stream (property_row p)) + needs stream owner ps
  unfolding needs
  needs-more p ps = refl

pub controls-none : (stream : List ℕ) (n : ℕ) → controls_need stream n [] ≡ 0
unfolding controls_need
controls-none stream n = refl

pub controls-more : (stream : List ℕ) (n : ℕ) (c : Control) (cs : List Control)
    → controls_need stream n (c ∷ cs) ≡ needs stream (control_need n c.type) c.properties + controls_need stream (n + 1) cs
unfolding controls_need
controls-more stream n c cs = refl

pub whole_need : (stream : List ℕ) (r : Reading) → sheet_need stream r ≡ needs stream object_need r.own + controls_need stream 0 r.controls
unfolding sheet_need
whole_need stream r = refl
