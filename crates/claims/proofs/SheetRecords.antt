-- The records of a reading by its rows, and how many there are.
use Prim.Native.Nat.{ℕ, suc, ◌+◌}
use native.Mathlib.Omega.{arith}
use mathlib.Core.Path.{◌≡◌, refl, ap, ◌∙◌}
use mathlib.Core.List.{List, [], ◌∷◌, ◌++◌, map}
use lib.ListN.{length, take, drop, length-append}
use Rattle.rules.specs.Lists.{concat}
use Rattle.rules.specs.Bytes.{part}
use Rattle.rules.specs.Digits.{decimal, hex}
use Rattle.rules.specs.Listing.{word}
use Rattle.rules.specs.Reading.{Control, Reading, properties_of, properties, control_rows, property_rows}
use Rattle.rules.specs.Utf8.{utf8}
use Rattle.rules.specs.Csv.{header, value_text, property_record, property_records, control_records, sheet_of}
use Rattle.rules.specs.declared.Property.{Property}
use Rattle.csvlaws.proofs.CsvRowsLaws.{row_records, records_by, sheet-by-rows}
use Rattle.claims.specs.Spreadsheet.{controls_by, Records}

same-records : (stream : List ℕ) (n : ℕ) (cs rows : List (List ℕ)) → records_by stream n cs rows ≡ controls_by stream n cs rows
unfolding records_by controls_by
same-records stream n [] rows = refl
same-records stream n (c ∷ cs) rows =
    ap (λ l. row_records stream (decimal n) (hex 4 (word c 0)) (take (word c 5) rows) ++ l) (same-records stream (n + 1) cs (drop (word c 5) rows))

by_rows : (stream : List ℕ) (r : Reading) → sheet_of stream r
    ≡ header ∷ map (property_record stream [] []) (take (length r.own) (property_rows r)) ++ controls_by stream 0 (control_rows r) (drop (length r.own) (property_rows r))
by_rows stream r =
    sheet-by-rows stream r
    ∙ ap (λ l. header ∷ row_records stream [] [] (take (length r.own) (property_rows r)) ++ l) (same-records stream 0 (control_rows r) (drop (length r.own) (property_rows r)))

-- ---- how many
each : (stream control type : List ℕ) (ps : List Property) → length (property_records stream control type ps) ≡ length ps
unfolding property_records
each stream control type [] = refl
each stream control type (p ∷ ps) = ap suc (each stream control type ps)

all : (stream : List ℕ) (n : ℕ) (cs : List Control) → length (control_records stream n cs) ≡ length (concat (map properties_of cs))
unfolding control_records concat
all stream n [] = refl
all stream n (c ∷ cs) = simp (length-append, each stream (decimal n) (hex 4 c.type) c.properties, all stream (n + 1) cs)

many : (stream : List ℕ) (r : Reading) → length (sheet_of stream r) ≡ 1 + length (properties r)
unfolding sheet_of properties
many stream r = simp (length-append, each stream [] [] r.own, all stream 0 r.controls) (omega arith)

text-value : (stream control type row : List ℕ) → word row 1 ≡ 6 → (property_record stream control type row).value ≡ utf8 (part stream (word row 4) (word row 5))
unfolding property_record value_text
text-value stream control type row e = rw e

pub records : Records
records = record { by_rows = by_rows; many = many; text-value = text-value }
