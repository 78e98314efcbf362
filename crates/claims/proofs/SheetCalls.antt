-- The answers of the writer and the reader of comma-separated text, and what they leave in the room lent.
use Prim.Native.Nat.{ℕ, ◌*◌, ◌≤◌, ◌<◌}
use native.Mathlib.Omega.{arith}
use native.Mathlib.Nat.{zero-add}
use mathlib.Core.Path.{◌≡◌, refl, sym, ap, ◌∙◌}
use mathlib.Core.Bool.{Bool, true, false, not, cond, ◌||◌}
use mathlib.Core.List.{List, [], ◌++◌}
use mathlib.Core.Logic.{◌⊎◌, inl, inr}
use mathlib.Core.Option.{Option, none, some}
use lib.Dec.{ltb}
use lib.ListN.{length, get_or, take, drop, length-append, length-drop}
use lib.Seq.{take-append_seam, length-sets}
use borrow.Author.Tests.{lt-ltb, le-ltb, ltb-true, ltb-false}
use Rattle.rules.specs.Lists.{concat}
use Rattle.rules.specs.Answer.{answer, refusal, longest}
use Rattle.rules.specs.CodeTable.{well_formed_lem}
use Rattle.rules.specs.Rows.{control_width, property_width, field_width, room, row_at}
use Rattle.rules.specs.Listing.{word}
use Rattle.rules.specs.Reading.{Reading, properties}
use Rattle.rules.specs.Blob.{Outcome, refused, read, reading_of, counted, fit, answer_of, outcome, exit_by_lem, exit}
use Rattle.rules.specs.Csv.{Record, all_fields, sheet_of, csv_of, countable, CsvExit, csv_by, csv_exit, Fields, fields_of, fields_by, fields_exit, spans_from}
use Rattle.rules.specs.declared.Answer.{Answer}
use Rattle.rules.proofs.ListLaws.{none_some}
use Rattle.rules.proofs.RowsLaws.{row_written, behind-written}
use Rattle.csvlaws.proofs.CsvLaws.{countable-room}
use Rattle.csvlaws.proofs.CsvReaderLaws.{spans_wide, spans_many, span_start, span_told, told}
use Rattle.claims.specs.Answers.{Judged, BlobAnswer}
use Rattle.claims.specs.Demand1.{Refused}
use Rattle.claims.specs.CsvGrammar.{◌spells◌}
use Rattle.claims.specs.Spreadsheet.{Taken, CsvAnswer, FieldsAnswer, Writes, Reads}
use Rattle.claims.proofs.Answers.{exactly, blob_right, blob-told}
use Rattle.claims.proofs.CsvComplete.{spelled-read}
use Rattle.claims.proofs.CsvSound.{read-spelled, no_spelling}
use Rattle.claims.proofs.CsvWritten.{blobs-back}

or-true : (b : Bool) → (b || true) ≡ true
or-true true = refl
or-true false = refl

-- ---- the writer
module _ (t s cs ps : List ℕ) where
  abbrev o : Outcome
  o = outcome t s (room control_width cs) (room property_width ps)

  taken-read : (r : Reading) → Taken t s cs ps r → o ≡ read r
  unfolding outcome
  taken-read r k =
      rw (
        le-ltb longest (length s) k.judged.not_long,
        k.judged.formed,
        k.reading,
        le-ltb (room control_width cs) (length r.controls) k.controls-fit,
        le-ltb (room property_width ps) (length (properties r)) k.properties-fit,
      )

  read-fit : Judged t s → (r : Reading) (x : Option Reading) → reading_of t s ≡ x → fit (room control_width cs) (room property_width ps) x ≡ read r → Taken t s cs ps r
  read-fit j r none e f = absurd (let z : ◌≡◌ {A = ℕ} 0 1 = cc in omega arith)
  read-fit j r (some q) e f = go (ltb (room control_width cs) (length q.controls)) (ltb (room property_width ps) (length (properties q))) refl refl f
    where
      go : (b d : Bool) → ltb (room control_width cs) (length q.controls) ≡ b → ltb (room property_width ps) (length (properties q)) ≡ d
          → cond b (refused (counted 6 q)) (cond d (refused (counted 7 q)) (read q)) ≡ read r → Taken t s cs ps r
      go true d x y f = absurd (let z : ◌≡◌ {A = ℕ} 0 1 = cc in omega arith)
      go false true x y f = absurd (let z : ◌≡◌ {A = ℕ} 0 1 = cc in omega arith)
      go false false x y f =
          let same : q ≡ r = cc in
          rw (← same) (record { judged = j; reading = e; controls-fit = ltb-false _ _ x; properties-fit = ltb-false _ _ y })

  read_taken : (r : Reading) → o ≡ read r → Taken t s cs ps r
  unfolding outcome
  read_taken r e = go (ltb longest (length s)) (well_formed_lem t) refl refl e
    where
      go : (b d : Bool) → ltb longest (length s) ≡ b → well_formed_lem t ≡ d
          → cond b (refused (refusal 5)) (cond (not d) (refused (refusal 8)) (fit (room control_width cs) (room property_width ps) (reading_of t s))) ≡ read r → Taken t s cs ps r
      go true d x y f = absurd (let z : ◌≡◌ {A = ℕ} 0 1 = cc in omega arith)
      go false false x y f = absurd (let z : ◌≡◌ {A = ℕ} 0 1 = cc in omega arith)
      go false true x y f = read-fit (record { not_long = ltb-false _ _ x; formed = y }) r (reading_of t s) refl f

  -- what is refused isn't answered 0
  is-refused : (a : Answer) → BlobAnswer t s cs ps a → o ≡ refused a → Refused a
  is-refused _ (BlobAnswer.five h) e = λ z. omega arith
  is-refused _ (BlobAnswer.eight h w) e = λ z. omega arith
  is-refused _ (BlobAnswer.four j k l) e = λ z. omega arith
  is-refused _ (BlobAnswer.six j k l) e = λ z. omega arith
  is-refused _ (BlobAnswer.seven j k l m) e = λ z. omega arith
  is-refused _ (BlobAnswer.zero j {r} k l m) e =
      let q = taken-read r (record { judged = j; reading = k; controls-fit = l; properties-fit = m }) in
      absurd (let z : ◌≡◌ {A = ℕ} 0 1 = cc in omega arith)

  refusal_is : (a : Answer) → o ≡ refused a → Refused a
  refusal_is a e = is-refused a (rw e at (blob-told t s cs ps)) e

module _ (t s cs ps out : List ℕ) where
  abbrev said : CsvExit
  said = csv_by s (o t s cs ps) cs ps out

  -- a text that doesn't fit, and one that does
  short : (r : Reading) → countable (length out) < length (csv_of s r) → (csv_by s (read r) cs ps out).answer ≡ refusal 13
  short r h = rw (lt-ltb (countable (length out)) (length (csv_of s r)) h)

  wrote : (r : Reading) → length (csv_of s r) ≤ countable (length out) → (csv_by s (read r) cs ps out).answer ≡ answer 0 (length (csv_of s r)) 0 0
  wrote r h = rw (le-ltb (countable (length out)) (length (csv_of s r)) h)

  right : (a : Answer) → CsvAnswer t s cs ps out a → a ≡ said.answer
  right a (CsvAnswer.blob h n) = go (o t s cs ps) (blob_right t s cs ps a h)
    where
      go : (x : Outcome) → a ≡ answer_of x → a ≡ (csv_by s x cs ps out).answer
      go (refused b) e = e
      go (read r) e = absurd (n (ap (λ (y : Answer). y.number) e))
  right _ (CsvAnswer.thirteen {r} k h) = sym (ap (λ x. (csv_by s x cs ps out).answer) (taken-read t s cs ps r k) ∙ short r h)
  right _ (CsvAnswer.zero {r} k h) = sym (ap (λ x. (csv_by s x cs ps out).answer) (taken-read t s cs ps r k) ∙ wrote r h)

  in_table : (x : Outcome) → o t s cs ps ≡ x → CsvAnswer t s cs ps out (csv_by s x cs ps out).answer
  in_table (refused a) e = CsvAnswer.blob (rw e at (blob-told t s cs ps)) (refusal_is t s cs ps a e)
  in_table (read r) e = go (ltb (countable (length out)) (length (csv_of s r))) refl
    where
      k : Taken t s cs ps r
      k = read_taken t s cs ps r e

      go : (b : Bool) → ltb (countable (length out)) (length (csv_of s r)) ≡ b → CsvAnswer t s cs ps out (csv_by s (read r) cs ps out).answer
      go true x = let h = ltb-true _ _ x in rw (short r h) (CsvAnswer.thirteen k h)
      go false x = let h = ltb-false _ _ x in rw (wrote r h) (CsvAnswer.zero k h)

  -- a refusal writes nothing
  abbrev unwritten : CsvExit → CsvExit
  unwritten e = record { answer = e.answer; controls = cs; properties = ps; out = out }

  -- the text fits, where the answer is 0
  fits : (r : Reading) → (csv_by s (read r) cs ps out).answer.number ≡ 0 → length (csv_of s r) ≤ countable (length out)
  fits r e = go (ltb (countable (length out)) (length (csv_of s r))) refl
    where
      go : (b : Bool) → ltb (countable (length out)) (length (csv_of s r)) ≡ b → length (csv_of s r) ≤ countable (length out)
      go true x = absurd (let z = ap (λ (y : Answer). y.number) (short r (ltb-true _ _ x)) in omega arith)
      go false x = ltb-false _ _ x

  stays : (x : Outcome) → Refused (csv_by s x cs ps out).answer → csv_by s x cs ps out ≡ unwritten (csv_by s x cs ps out)
  stays (refused a) n = refl
  stays (read r) n = go (ltb (countable (length out)) (length (csv_of s r))) refl
    where
      go : (b : Bool) → ltb (countable (length out)) (length (csv_of s r)) ≡ b → csv_by s (read r) cs ps out ≡ unwritten (csv_by s (read r) cs ps out)
      go true x = rw x
      go false x = absurd (n (ap (λ (y : Answer). y.number) (wrote r (ltb-false _ _ x))))

  -- else the rows are the Blob's
  same_rows : (x : Outcome) → o t s cs ps ≡ x → (csv_by s x cs ps out).answer.number ≡ 0
      → ((csv_by s x cs ps out).controls ≡ (exit_by_lem x cs ps).controls) × ((csv_by s x cs ps out).properties ≡ (exit_by_lem x cs ps).properties)
  same_rows (refused a) e z = absurd (refusal_is t s cs ps a e z)
  same_rows (read r) e z = let h = fits r z in (rw (le-ltb (countable (length out)) (length (csv_of s r)) h), rw (le-ltb (countable (length out)) (length (csv_of s r)) h))

  back : (x : Outcome) → o t s cs ps ≡ x → (csv_by s x cs ps out).answer.number ≡ 0
      → (r : Reading) × (reading_of t s ≡ some r)
      × (fields_of (take (csv_by s x cs ps out).answer.first (csv_by s x cs ps out).out) ≡ some (all_fields (sheet_of s r)))
  back (refused a) e z = absurd (refusal_is t s cs ps a e z)
  back (read r) e z =
      let h = fits r z in
      (r, (read_taken t s cs ps r e).reading, rw (le-ltb (countable (length out)) (length (csv_of s r)) h, take-append_seam (csv_of s r) (drop (length (csv_of s r)) out)) (blobs-back s r))

  stands : (x : Outcome) → o t s cs ps ≡ x → (csv_by s x cs ps out).answer.number ≡ 0
      → (r : Reading) × (reading_of t s ≡ some r) × ((csv_by s x cs ps out).answer.first ≡ length (csv_of s r))
      × ((csv_by s x cs ps out).out ≡ csv_of s r ++ drop (csv_by s x cs ps out).answer.first out)
  stands (refused a) e z = absurd (refusal_is t s cs ps a e z)
  stands (read r) e z =
      let h = fits r z in
      (r, (read_taken t s cs ps r e).reading, rw (le-ltb (countable (length out)) (length (csv_of s r)) h), rw (le-ltb (countable (length out)) (length (csv_of s r)) h))

pub writes : (t s cs ps out : List ℕ) → Writes t s cs ps out (csv_exit t s cs ps out)
unfolding csv_exit exit
writes t s cs ps out = record {
  exactly = exactly (right t s cs ps out) (in_table t s cs ps out (o t s cs ps) refl);
  refused = stays t s cs ps out (o t s cs ps);
  rows = same_rows t s cs ps out (o t s cs ps) refl;
  written = stands t s cs ps out (o t s cs ps) refl;
  read_back = back t s cs ps out (o t s cs ps) refl;
}

-- ---- the reader
module _ (s rows out : List ℕ) where
  abbrev full : Fields → Bool
  full fs = ltb (countable (length out)) (length (concat fs)) || ltb (countable (room field_width rows)) (length fs)

  full_then : (fs : Fields) → full fs ≡ true → (countable (length out) < length (concat fs)) ⊎ (countable (room field_width rows) < length fs)
  full_then fs e = go (ltb (countable (length out)) (length (concat fs))) (ltb (countable (room field_width rows)) (length fs)) refl refl e
    where
      go : (x y : Bool) → ltb (countable (length out)) (length (concat fs)) ≡ x → ltb (countable (room field_width rows)) (length fs) ≡ y → (x || y) ≡ true
          → (countable (length out) < length (concat fs)) ⊎ (countable (room field_width rows) < length fs)
      go true y p q e = inl (ltb-true _ _ p)
      go false true p q e = inr (ltb-true _ _ q)
      go false false p q e = absurd (let z : ◌≡◌ {A = ℕ} 0 1 = cc in omega arith)

  then_full : (fs : Fields) → (countable (length out) < length (concat fs)) ⊎ (countable (room field_width rows) < length fs) → full fs ≡ true
  then_full fs (inl h) = rw (lt-ltb (countable (length out)) (length (concat fs)) h)
  then_full fs (inr h) = rw (lt-ltb (countable (room field_width rows)) (length fs) h) (or-true (ltb (countable (length out)) (length (concat fs))))

  not_full : (fs : Fields) → full fs ≡ false → (length (concat fs) ≤ countable (length out)) × (length fs ≤ countable (room field_width rows))
  not_full fs e = go (ltb (countable (length out)) (length (concat fs))) (ltb (countable (room field_width rows)) (length fs)) refl refl e
    where
      go : (x y : Bool) → ltb (countable (length out)) (length (concat fs)) ≡ x → ltb (countable (room field_width rows)) (length fs) ≡ y → (x || y) ≡ false
          → (length (concat fs) ≤ countable (length out)) × (length fs ≤ countable (room field_width rows))
      go true y p q e = absurd (let z : ◌≡◌ {A = ℕ} 0 1 = cc in omega arith)
      go false true p q e = absurd (let z : ◌≡◌ {A = ℕ} 0 1 = cc in omega arith)
      go false false p q e = (ltb-false _ _ p, ltb-false _ _ q)

  then_not : (fs : Fields) → length (concat fs) ≤ countable (length out) → length fs ≤ countable (room field_width rows) → full fs ≡ false
  then_not fs h k = rw (le-ltb (countable (length out)) (length (concat fs)) h, le-ltb (countable (room field_width rows)) (length fs) k)

  fields_right : (a : Answer) → FieldsAnswer s rows out a → a ≡ (fields_by (fields_of s) rows out).answer
  fields_right _ (FieldsAnswer.fourteen n) = sym (ap (λ x. (fields_by x rows out).answer) (no_spelling s n))
  fields_right _ (FieldsAnswer.thirteen r k h) = sym (ap (λ x. (fields_by x rows out).answer) (spelled-read s r k) ∙ rw (then_full (all_fields r) h))
  fields_right _ (FieldsAnswer.zero r k h l) = sym (ap (λ x. (fields_by x rows out).answer) (spelled-read s r k) ∙ rw (then_not (all_fields r) h l))

  read_table : (r : List Record) → s spells r → FieldsAnswer s rows out (fields_by (some (all_fields r)) rows out).answer
  read_table r k = go (full (all_fields r)) refl
    where
      go : (b : Bool) → full (all_fields r) ≡ b → FieldsAnswer s rows out (fields_by (some (all_fields r)) rows out).answer
      go true x = rw x (FieldsAnswer.thirteen r k (full_then (all_fields r) x))
      go false x = rw x (FieldsAnswer.zero r k (not_full (all_fields r) x).0 (not_full (all_fields r) x).1)

  fields-table : (x : Option Fields) → fields_of s ≡ x → FieldsAnswer s rows out (fields_by x rows out).answer
  fields-table none e = FieldsAnswer.fourteen (λ r k. none_some (sym e ∙ spelled-read s r k))
  fields-table (some fs) e =
      let w = read-spelled s fs e in
      rw w.same (read_table w.records w.so)

  fields_stay : (x : Option Fields) → Refused (fields_by x rows out).answer → fields_by x rows out ≡ record { answer = (fields_by x rows out).answer; rows = rows; out = out }
  fields_stay none n = refl
  fields_stay (some fs) n = go (full fs) refl
    where
      go : (b : Bool) → full fs ≡ b → fields_by (some fs) rows out ≡ record { answer = (fields_by (some fs) rows out).answer; rows = rows; out = out }
      go true x = rw x
      go false x = absurd (n (rw x))

  -- where the answer is 0, each row tells its field
  room-is : (fs : Fields) → (fields_by (some fs) rows out).answer.number ≡ 0 → full fs ≡ false
  room-is fs e = go (full fs) refl
    where
      go : (b : Bool) → full fs ≡ b → full fs ≡ false
      go true x = absurd (let z : 13 ≡ 0 = sym (rw x) ∙ e in omega arith)
      go false x = x

  rows_told : (fs : Fields) → (fields_by (some fs) rows out).answer.number ≡ 0 → (i : ℕ) → i < length fs
      → told (fields_by (some fs) rows out).out (row_at field_width i (fields_by (some fs) rows out).rows) ≡ get_or fs i []
  rows_told fs e i h =
      let f = room-is fs e in
      let m = spans_many 0 fs in
      let l : length (spans_from 0 fs) * field_width ≤ length rows = omega (arith, (not_full fs f).1, countable-room (room field_width rows)) in
      rw (f, row_written field_width (spans_from 0 fs) (spans_wide 0 fs) rows l i (omega arith)) (span_told [] (drop (length (concat fs)) out) 0 fs refl i h)

  rows_start : (fs : Fields) → (fields_by (some fs) rows out).answer.number ≡ 0 → (i : ℕ) → i < length fs
      → word (row_at field_width i (fields_by (some fs) rows out).rows) 0 ≡ length (concat (take i fs))
  rows_start fs e i h =
      let f = room-is fs e in
      let m = spans_many 0 fs in
      let l : length (spans_from 0 fs) * field_width ≤ length rows = omega (arith, (not_full fs f).1, countable-room (room field_width rows)) in
      rw (f, row_written field_width (spans_from 0 fs) (spans_wide 0 fs) rows l i (omega arith)) (span_start 0 fs i h ∙ zero-add (length (concat (take i fs))))

  fields-start : (x : Option Fields) → (fields_by x rows out).answer.number ≡ 0 → (fs : Fields) → x ≡ some fs → (i : ℕ) → i < length fs
      → word (row_at field_width i (fields_by x rows out).rows) 0 ≡ length (concat (take i fs))
  fields-start none z fs e i h = absurd (none_some e)
  fields-start (some gs) z fs e i h = let same : gs ≡ fs = cc in rw (← same) (rows_start gs z i (rw same h))

  -- what stands after the rows stays
  beyond : (x : Option Fields) → (fields_by x rows out).answer.number ≡ 0
      → drop ((fields_by x rows out).answer.second * field_width) (fields_by x rows out).rows ≡ drop ((fields_by x rows out).answer.second * field_width) rows
  beyond none z = refl
  beyond (some fs) z =
      let f = room-is fs z in
      let m = spans_many 0 fs in
      let l : length (spans_from 0 fs) * field_width ≤ length rows = omega (arith, (not_full fs f).1, countable-room (room field_width rows)) in
      rw (f, ← m) (behind-written field_width (spans_from 0 fs) (spans_wide 0 fs) rows l)

  long : (x : Option Fields) → (length (fields_by x rows out).rows ≡ length rows) × (length (fields_by x rows out).out ≡ length out)
  long none = (refl, refl)
  long (some fs) = go (full fs) refl
    where
      go : (b : Bool) → full fs ≡ b → (length (fields_by (some fs) rows out).rows ≡ length rows) × (length (fields_by (some fs) rows out).out ≡ length out)
      go true x = (rw x, rw x)
      go false x =
          let l : length (concat fs) ≤ length out = omega (arith, (not_full fs x).0, countable-room (length out)) in
          (rw x (length-sets rows 0 (concat (spans_from 0 fs))), rw x (simp (length-append, length-drop) (omega arith)))

  fields-end : (x : Option Fields) → (fields_by x rows out).answer.number ≡ 0 → (fs : Fields) → x ≡ some fs
      → (fields_by x rows out).out ≡ concat fs ++ drop (length (concat fs)) out
  fields-end none z fs e = absurd (none_some e)
  fields-end (some gs) z fs e = let same : gs ≡ fs = cc in rw (← same) (rw (room-is gs z))

  fields_told : (x : Option Fields) → (fields_by x rows out).answer.number ≡ 0 → (fs : Fields) → x ≡ some fs → (i : ℕ) → i < length fs
      → told (fields_by x rows out).out (row_at field_width i (fields_by x rows out).rows) ≡ get_or fs i []
  fields_told none z fs e i h = absurd (none_some e)
  fields_told (some gs) z fs e i h = let same : gs ≡ fs = cc in rw (← same) (rows_told gs z i (rw same h))

pub reads : (s rows out : List ℕ) → Reads s rows out (fields_exit s rows out)
unfolding fields_exit
reads s rows out = record {
  exactly = exactly (fields_right s rows out) (fields-table s rows out (fields_of s) refl);
  refused = fields_stay s rows out (fields_of s);
  end_to_end = λ z t k. fields-end s rows out (fields_of s) z (all_fields t) (spelled-read s t k);
  starts = λ z t k. fields-start s rows out (fields_of s) z (all_fields t) (spelled-read s t k);
  rows-beyond = beyond s rows out (fields_of s);
  as_long = long s rows out (fields_of s);
  told = λ z t k. fields_told s rows out (fields_of s) z (all_fields t) (spelled-read s t k);
}
