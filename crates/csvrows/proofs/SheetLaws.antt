-- The rows of a reading, once they are written, give its text.
use Prim.Native.Nat.{ℕ, zero, suc, ◌+◌, ◌*◌, ◌<◌, ◌≤◌}
use native.Mathlib.Omega.{arith}
use native.Mathlib.Numerals.{add-one}
use mathlib.Core.Path.{◌≡◌, refl, sym, ap, ap₂, ◌∙◌}
use mathlib.Core.List.{List, [], ◌∷◌, ◌++◌, map}
use lib.ListN.{length, get_or, take, drop, length-append, drop_of_length-le}
use lib.Seq.{drop-cons, drop-drop}
use Rattle.rules.specs.Lists.{concat}
use Rattle.rules.specs.Rows.{control_width, property_width, written, row_at}
use Rattle.rules.specs.Digits.{decimal, hex}
use Rattle.rules.specs.Listing.{word}
use Rattle.rules.specs.Reading.{Control, Reading, properties_of, properties, control_rows_from, control_rows, property_rows}
use Rattle.rules.specs.Csv.{record_text, sheet_text, header, csv_of}
use Rattle.rules.proofs.RowsLaws.{row_written}
use Rattle.rules.proofs.ReadingLaws.{controls_wide, properties_wide, controls-counted, properties-counted}
use Rattle.csvlaws.proofs.CsvLaws.{sheet-append}
use Rattle.csvlaws.proofs.CsvRowsLaws.{row_records, records_by, sheet-by-rows, row_count}
use Rattle.csvrecord.specs.Parts.{control_field, type_field, owned_record}
use Rattle.csvrecord.specs.declared.Owner.{Owner}
use Rattle.csvrows.specs.Rows.{lines_from, rows_text, many_from, parts_from, controls_text, slices_text}

-- row i of a slice is row i of a list, for each of them
abbrev Shows : ℕ → List ℕ → List (List ℕ) → Type 0
Shows w words rows = (i : ℕ) → i < length rows → row_at w i words ≡ get_or rows i []

-- ---- rows of one owner
rows_are : (stream : List ℕ) (o : Owner) (words : List ℕ) (rows : List (List ℕ)) → Shows property_width words rows → (k first : ℕ) → first + k ≤ length rows
    → rows_text stream o words first k ≡ sheet_text (row_records stream (control_field o) (type_field o) (take k (drop first rows)))
unfolding lines_from sheet_text
rows_are stream o words rows h zero first l = refl
rows_are stream o words rows h (suc k) first l =
    let g : first < length rows = omega arith in
    let e = drop-cons rows first [] g in
    let n : first + 1 + k ≤ length rows = omega arith in
    let rest = rows_are stream o words rows h k (first + 1) n ∙ ap (λ (m : ℕ). sheet_text (row_records stream (control_field o) (type_field o) (take k (drop m rows)))) (add-one first) in
    ap₂ (λ (row text : List ℕ). record_text (owned_record stream o row) ++ text) (h first g) rest
    ∙ sym (ap (λ (r : List (List ℕ)). sheet_text (row_records stream (control_field o) (type_field o) (take (suc k) r))) e)

-- ---- controls
unfoldable many_in : List (List ℕ) → ℕ
many_in [] = 0
many_in (c ∷ cs) = word c 5 + many_in cs

many-are : (words : List ℕ) (rows : List (List ℕ)) → Shows control_width words rows → (k n : ℕ) → n + k ≡ length rows → many_from words n k ≡ many_in (drop n rows)
unfolding many_from many_in
many-are words rows h zero n l =
    let g : length rows ≤ n = omega arith in
    sym (ap many_in (drop_of_length-le rows g))
many-are words rows h (suc k) n l =
    let g : n < length rows = omega arith in
    let m : n + 1 + k ≡ length rows = omega arith in
    let rest = many-are words rows h k (n + 1) m ∙ ap (λ (i : ℕ). many_in (drop i rows)) (add-one n) in
    ap₂ (λ (row : List ℕ) (i : ℕ). word row 5 + i) (h n g) rest ∙ sym (ap many_in (drop-cons rows n [] g))

module _ (stream : List ℕ) (cwords pwords : List ℕ) (crows prows : List (List ℕ)) (c : Shows control_width cwords crows) (p : Shows property_width pwords prows) where
  controls-are : (k n q : ℕ) → n + k ≡ length crows → q + many_in (drop n crows) ≤ length prows
      → controls_text stream cwords pwords n k q ≡ sheet_text (records_by stream n (drop n crows) (drop q prows))
  unfolding parts_from sheet_text records_by many_in
  controls-are zero n q l f =
      let g : length crows ≤ n = omega arith in
      sym (ap (λ (r : List (List ℕ)). sheet_text (records_by stream n r (drop q prows))) (drop_of_length-le crows g))
  controls-are (suc k) n q l f =
      let g : n < length crows = omega arith in
      let m : n + 1 + k ≡ length crows = omega arith in
      let row = get_or crows n [] in
      let e = drop-cons crows n [] g in
      let d : drop (n + 1) crows ≡ drop (suc n) crows = ap (λ (i : ℕ). drop i crows) (add-one n) in
      let all : q + (word row 5 + many_in (drop (suc n) crows)) ≤ length prows = rw e at f in
      let some : q + word row 5 ≤ length prows = omega (arith, all) in
      let later : q + word row 5 + many_in (drop (n + 1) crows) ≤ length prows = omega (arith, all, ap many_in d) in
      let these = rows_are stream (Owner.Control n (word row 0)) pwords prows p (word row 5) q some in
      let others = controls-are k (n + 1) (q + word row 5) m later
      ∙ ap₂ (λ (a b : List (List ℕ)). sheet_text (records_by stream (n + 1) a b)) d (sym (drop-drop (word row 5) q prows)) in
      ap (λ (r : List ℕ). rows_text stream (Owner.Control n (word r 0)) pwords q (word r 5) ++ controls_text stream cwords pwords (n + 1) k (q + word r 5)) (c n g)
      ∙ ap₂ (λ (a b : List ℕ). a ++ b) these others
      ∙ sym (sheet-append (row_records stream (decimal n) (hex 4 (word row 0)) (take (word row 5) (drop q prows))) (records_by stream (n + 1) (drop (suc n) crows) (drop (word row 5) (drop q prows))))
      ∙ sym (ap (λ (r : List (List ℕ)). sheet_text (records_by stream n r (drop q prows))) e)

-- ---- a reading
many-rows : (n first : ℕ) (cs : List Control) → many_in (control_rows_from n first cs) ≡ length (concat (map properties_of cs))
unfolding many_in control_rows_from concat
many-rows n first [] = refl
many-rows n first (c ∷ cs) =
    omega (arith, row_count n first c, many-rows (n + 1) (first + length c.properties) cs, length-append c.properties (concat (map properties_of cs)))

module _ (r : Reading) (cs ps : List ℕ) (fc : length r.controls * control_width ≤ length cs) (fp : length (properties r) * property_width ≤ length ps) where
  controls_show : Shows control_width (written (control_rows r) cs) (control_rows r)
  unfolding control_rows
  controls_show = row_written control_width (control_rows r) (controls_wide 0 (length r.own) r.controls) cs (omega (arith, controls-counted r, fc))

  properties_show : Shows property_width (written (property_rows r) ps) (property_rows r)
  unfolding property_rows
  properties_show = row_written property_width (property_rows r) (properties_wide (properties r)) ps (omega (arith, properties-counted r, fp))

  all-many : length r.own + many_in (drop 0 (control_rows r)) ≡ length (properties r)
  unfolding properties control_rows
  all-many = omega (arith, many-rows 0 (length r.own) r.controls, length-append r.own (concat (map properties_of r.controls)))

  pub rows-many : length r.own + many_from (written (control_rows r) cs) 0 (length r.controls) ≡ length (properties r)
  rows-many =
      let l : 0 + length r.controls ≡ length (control_rows r) = omega (arith, controls-counted r) in
      omega (arith, all-many, many-are (written (control_rows r) cs) (control_rows r) controls_show (length r.controls) 0 l)

  pub sheet-written : (stream : List ℕ) → slices_text stream (written (control_rows r) cs) (length r.controls) (written (property_rows r) ps) (length r.own) ≡ csv_of stream r
  unfolding slices_text csv_of sheet_text
  sheet-written stream =
      let n = length r.own in
      let own : 0 + n ≤ length (property_rows r) = omega (arith, properties-counted r, all-many) in
      let l : 0 + length r.controls ≡ length (control_rows r) = omega (arith, controls-counted r) in
      let f : n + many_in (drop 0 (control_rows r)) ≤ length (property_rows r) = omega (arith, all-many, properties-counted r) in
      let a = rows_are stream Owner.Object (written (property_rows r) ps) (property_rows r) properties_show n 0 own in
      let b = controls-are stream (written (control_rows r) cs) (written (property_rows r) ps) (control_rows r) (property_rows r) controls_show properties_show (length r.controls) 0 n l f in
      ap₂ (λ (x y : List ℕ). record_text header ++ (x ++ y)) a b
      ∙ ap (λ (x : List ℕ). record_text header ++ x) (sym (sheet-append (row_records stream [] [] (take n (property_rows r))) (records_by stream 0 (control_rows r) (drop n (property_rows r)))))
      ∙ sym (ap sheet_text (sheet-by-rows stream r))
