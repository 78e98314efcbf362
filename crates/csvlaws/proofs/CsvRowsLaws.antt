-- The records of a reading by its rows: the property rows in turn, as many for each control as its row says.
use Prim.Native.Nat.{ℕ, ◌+◌}
use mathlib.Core.Path.{◌≡◌, refl, sym, ap, ◌∙◌}
use mathlib.Core.List.{List, [], ◌∷◌, ◌++◌, map}
use lib.ListN.{length, take, drop, length-map}
use lib.Seq.{take_at, drop_at}
use Rattle.rules.specs.Lists.{concat}
use Rattle.rules.specs.Digits.{decimal, hex}
use Rattle.rules.specs.Listing.{word}
use Rattle.rules.specs.Reading.{Control, Reading, properties_of, properties, name_words, control_row, control_rows_from, control_rows, property_row, property_rows}
use Rattle.rules.specs.Csv.{Record, property_record, property_records, control_records, header, sheet_of}
use Rattle.rules.specs.declared.Property.{Property}
use Rattle.rules.specs.declared.Name.{Name}
use Rattle.rules.specs.declared.Name.TheVariants.{Text, Numbered, Loose}
use Rattle.rules.proofs.ListLaws.{map-append}

-- ---- a control's row says its type and how many properties it has
row_type : (n first : ℕ) (c : Control) → word (control_row n first c) 0 ≡ c.type
unfolding control_row
row_type n first c = refl

count_by : (n first k level parent : ℕ) (m : Name) → word (name_words n m ++ (first ∷ k ∷ level ∷ parent ∷ [])) 4 ≡ k
count_by n first k level parent (Text a b) = refl
count_by n first k level parent Numbered = refl
count_by n first k level parent (Loose a b) = refl

pub row_count : (n first : ℕ) (c : Control) → word (control_row n first c) 5 ≡ length c.properties
unfolding control_row
row_count n first c = count_by n first (length c.properties) c.level c.parent c.name

-- ---- records by rows
abbrev pub row_records : List ℕ → List ℕ → List ℕ → List (List ℕ) → List Record
row_records stream control type rows = map (property_record stream control type) rows

unfoldable pub records_by : List ℕ → ℕ → List (List ℕ) → List (List ℕ) → List Record
records_by stream n [] rows = []
records_by stream n (c ∷ cs) rows =
    row_records stream (decimal n) (hex 4 (word c 0)) (take (word c 5) rows) ++ records_by stream (n + 1) cs (drop (word c 5) rows)

pub records_of_rows : (stream control type : List ℕ) (ps : List Property) → property_records stream control type ps ≡ row_records stream control type (map property_row ps)
unfolding property_records
records_of_rows stream control type [] = refl
records_of_rows stream control type (p ∷ ps) = ap (λ l. property_record stream control type (property_row p) ∷ l) (records_of_rows stream control type ps)

one-control : (stream : List ℕ) (n first : ℕ) (c : Control) (rows : List (List ℕ)) (rest : List Record)
    → property_records stream (decimal n) (hex 4 c.type) c.properties ++ rest
    ≡ row_records stream (decimal n) (hex 4 (word (control_row n first c) 0)) (take (word (control_row n first c) 5) (map property_row c.properties ++ rows)) ++ rest
one-control stream n first c rows rest =
    rw (
      row_type n first c,
      row_count n first c,
      take_at (map property_row c.properties) rows (length c.properties) (length-map c.properties property_row),
      records_of_rows stream (decimal n) (hex 4 c.type) c.properties,
    )

pub controls-by-rows : (stream : List ℕ) (n first : ℕ) (cs : List Control)
    → control_records stream n cs ≡ records_by stream n (control_rows_from n first cs) (map property_row (concat (map properties_of cs)))
unfolding control_records control_rows_from records_by concat
controls-by-rows stream n first [] = refl
controls-by-rows stream n first (c ∷ cs) =
    let rows = map property_row (concat (map properties_of cs)) in
    rw (map-append property_row c.properties (concat (map properties_of cs)))
    (one-control stream n first c rows (control_records stream (n + 1) cs)
    ∙ ap (λ l. row_records stream (decimal n) (hex 4 (word (control_row n first c) 0)) (take (word (control_row n first c) 5) (map property_row c.properties ++ rows)) ++ l)
    (controls-by-rows stream (n + 1) (first + length c.properties) cs
    ∙ ap (records_by stream (n + 1) (control_rows_from (n + 1) (first + length c.properties) cs))
    (sym (ap (λ k. drop k (map property_row c.properties ++ rows)) (row_count n first c)
    ∙ drop_at (map property_row c.properties) rows (length c.properties) (length-map c.properties property_row)))))

-- the whole: the header, the object's rows, then the controls' in turn
pub sheet-by-rows : (stream : List ℕ) (r : Reading)
    → sheet_of stream r
    ≡ header ∷ row_records stream [] [] (take (length r.own) (property_rows r)) ++ records_by stream 0 (control_rows r) (drop (length r.own) (property_rows r))
unfolding sheet_of property_rows properties control_rows
sheet-by-rows stream r =
    let own = map property_row r.own in
    let theirs = map property_row (concat (map properties_of r.controls)) in
    rw (
      map-append property_row r.own (concat (map properties_of r.controls)),
      take_at own theirs (length r.own) (length-map r.own property_row),
      drop_at own theirs (length r.own) (length-map r.own property_row),
      records_of_rows stream [] [] r.own,
      controls-by-rows stream 0 (length r.own) r.controls,
    )
