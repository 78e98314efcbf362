-- The writing walk: what is written so far, and what is left to write, are together the whole.
use Prim.Native.Nat.{ℕ, suc, ◌+◌, ◌-◌, ◌*◌, ◌≤◌, ◌<◌, ◌^◌}
use native.Mathlib.Omega.{arith}
use native.Mathlib.Numerals.{add-one}
use mathlib.Core.Path.{◌≡◌, refl, sym, ap, ◌∙◌}
use mathlib.Core.Bool.{Bool, true, false, cond}
use mathlib.Core.List.{List, [], ◌∷◌}
use mathlib.Core.Option.{Option, none, some}
use lib.Dec.{eqb}
use lib.ListN.{length, drop, length-set}
use lib.Seq.{sets}
use Rattle.rules.specs.Lists.{concat}
use Rattle.rules.specs.Bytes.{byte}
use Rattle.rules.specs.Rows.{field_width, room}
use Rattle.rules.specs.Csv.{Fields, new_field, with_byte, after, read_from, at_end, spans_from}
use Rattle.rules.specs.declared.Mode.{Mode}
use Rattle.rules.specs.declared.Mode.TheVariants.{Start, Plain, Quoted, Closing, Returned}
use Rattle.rules.specs.declared.Step.{Step}
use Rattle.rules.specs.declared.Step.TheVariants.{Pass, Put, Close, Refuse}
use Rattle.rules.proofs.ListLaws.{none_some}
use Rattle.rows.specs.Put.{put}
use Rattle.rows.proofs.PutLaws.{put-length, put-none, put-append, written-put}
use Rattle.csvlaws.proofs.CsvLaws.{countable-room, countable-most, read_byte, read-end}
use Rattle.csvlaws.proofs.CsvReaderLaws.{counted, more, Full, full, Puts, puts, spans_in, spans_begin, spans_put, spans_close, bytes-put, bytes_close}
use Rattle.csvread.specs.declared.Place.{Place}
use Rattle.std.specs.Prelude as rust
use Rattle.std.specs.Prelude.{Some, None}
use Rattle.csvread.specs.Places.{begin, place_after, Room, Fits, step_rows, step_out, step_start, Wrote, rows_of, out_of}
use Rattle.csvread.proofs.CountLaws.{bytes-are, fields-are, Counting, count-begin, step_at, count-on}

-- ---- what is left to write
abbrev set_rows : List ℕ → ℕ → ℕ → ℕ → Option Fields → List ℕ
set_rows rows n start at none = rows
set_rows rows n start at (some fs) = put field_width rows n (spans_in start at fs)

abbrev set_out : List ℕ → ℕ → Option Fields → List ℕ
set_out out at none = out
set_out out at (some fs) = sets out at (concat fs)

-- the same, from the place that a step leads to
abbrev rows_left : List ℕ → ℕ → rust.Option Place → (Mode → ℕ → Option Fields) → List ℕ
rows_left rows start None rest = rows
rows_left rows start (Some p) rest = set_rows rows p.fields start p.bytes (rest p.mode p.field)

abbrev out_left : List ℕ → rust.Option Place → (Mode → ℕ → Option Fields) → List ℕ
out_left out None rest = out
out_left out (Some p) rest = set_out out p.bytes (rest p.mode p.field)

-- ---- a step
-- what can be counted is there
Known : ℕ → ℕ → Option Fields → ℕ × ℕ → Type 0
Known a n o x = more a n (counted o) ≡ some x

module _ (p : Place) (start b : ℕ) (s : List ℕ) (x : ℕ × ℕ) where
  abbrev rest : Mode → ℕ → Option Fields
  rest q j = read_from q j s

  row_put : (rows : List ℕ) (o : Option Fields) → Full o → set_rows rows p.fields start p.bytes (with_byte b o) ≡ set_rows rows p.fields start (p.bytes + 1) o
  row_put rows none h = refl
  row_put rows (some []) h = absurd h
  row_put rows (some (f ∷ fs)) h = ap (put field_width rows p.fields) (spans_put start p.bytes b f fs)

  abbrev span : List ℕ
  span = start ∷ (p.bytes - start) ∷ []

  row_close : (rows : List ℕ) (o : Option Fields) → Known p.bytes p.fields (new_field o) x
      → set_rows rows p.fields start p.bytes (new_field o) ≡ set_rows (put field_width rows p.fields (span ∷ [])) (p.fields + 1) p.bytes p.bytes o
  unfolding Known
  row_close rows none e = absurd (none_some e)
  row_close rows (some fs) e =
      ap (put field_width rows p.fields) (spans_close start p.bytes fs)
      ∙ put-append field_width rows p.fields (span ∷ []) (spans_in p.bytes p.bytes fs) (refl, tt)

  rows_step : (t : Step) (rows : List ℕ) → Puts t → Known p.bytes p.fields (after t b rest) x
      → set_rows rows p.fields start p.bytes (after t b rest) ≡ rows_left (step_rows rows p start t) (step_start p start t) (place_after p t) rest
  rows_step (Pass m k) rows h e = refl
  rows_step (Put m k) rows h e = row_put rows (read_from m k s) (full s m k h)
  rows_step (Close m k) rows h e = row_close rows (read_from m k s) e
  rows_step Refuse rows h e = refl

  byte_put : (out : List ℕ) (o : Option Fields) → Full o → Known p.bytes p.fields (with_byte b o) x
      → set_out out p.bytes (with_byte b o) ≡ set_out (lib.ListN.set out p.bytes b) (p.bytes + 1) o
  unfolding Known
  byte_put out none h e = absurd (none_some e)
  byte_put out (some []) h e = absurd h
  byte_put out (some (f ∷ fs)) h e = ap (sets out p.bytes) (bytes-put b f fs) ∙ rw (add-one p.bytes)

  byte_close : (out : List ℕ) (o : Option Fields) → set_out out p.bytes (new_field o) ≡ set_out out p.bytes o
  byte_close out none = refl
  byte_close out (some fs) = ap (sets out p.bytes) (bytes_close fs)

  out_step : (t : Step) (out : List ℕ) → Puts t → Known p.bytes p.fields (after t b rest) x
      → set_out out p.bytes (after t b rest) ≡ out_left (step_out out p t b) (place_after p t) rest
  out_step (Pass m k) out h e = refl
  out_step (Put m k) out h e = byte_put out (read_from m k s) (full s m k h) e
  out_step (Close m k) out h e = byte_close out (read_from m k s)
  out_step Refuse out h e = refl

rows-length : (p : Place) (start : ℕ) (t : Step) (rows : List ℕ) → length (step_rows rows p start t) ≡ length rows
rows-length p start (Pass m k) rows = refl
rows-length p start (Put m k) rows = refl
rows-length p start (Close m k) rows = put-length field_width rows p.fields _
rows-length p start Refuse rows = refl

out-length : (p : Place) (t : Step) (b : ℕ) (out : List ℕ) → length (step_out out p t b) ≡ length out
out-length p (Pass m k) b out = refl
out-length p (Put m k) b out = length-set out p.bytes b
out-length p (Close m k) b out = refl
out-length p Refuse b out = refl

start-on : (p : Place) (start : ℕ) (t : Step) (q : Place) → start ≤ p.bytes → place_after p t ≡ Some q → step_start p start t ≤ q.bytes
start-on p start (Pass m k) q h e = let x : p.bytes ≡ q.bytes = cc in omega arith
start-on p start (Put m k) q h e = let x : p.bytes + 1 ≡ q.bytes = cc in omega arith
start-on p start (Close m k) q h e = let x : p.bytes ≡ q.bytes = cc in omega arith
start-on p start Refuse q h e = absurd (let z : ◌≡◌ {A = ℕ} 0 1 = cc in omega arith)

-- ---- there is room for a step
fits_by : (p : Place) (start : ℕ) (t : Step) (b : ℕ) (s rows out : List ℕ) (bytes fields : ℕ) → Puts t → Known p.bytes p.fields (after t b (λ q j. read_from q j s)) (bytes, fields)
    → bytes ≤ length out → bytes < 2 ^ 32 → fields * field_width ≤ length rows → start ≤ p.bytes → Fits rows out p start t
unfolding Known
fits_by p start (Pass m k) b s rows out bytes fields h e l v r g = tt
fits_by p start (Put m k) b s rows out bytes fields h e l v r g = go (read_from m k s) (full s m k h) e
  where
    go : (o : Option Fields) → Full o → more p.bytes p.fields (counted (with_byte b o)) ≡ some (bytes, fields) → p.bytes < length out
    go none h e = absurd (none_some e)
    go (some []) h e = absurd h
    go (some (f ∷ fs)) h e =
        let x : p.bytes + length (concat ((b ∷ f) ∷ fs)) ≡ bytes = bytes-are e in
        let y = ap length (bytes-put b f fs) in
        omega arith
fits_by p start (Close m k) b s rows out bytes fields h e l v r g = go (read_from m k s) e
  where
    go : (o : Option Fields) → more p.bytes p.fields (counted (new_field o)) ≡ some (bytes, fields) → Fits rows out p start (Close m k)
    go none e = absurd (none_some e)
    go (some fs) e =
        let x : p.bytes + length (concat ([] ∷ fs)) ≡ bytes = bytes-are e in
        let y : p.fields + suc (length fs) ≡ fields = fields-are e in
        (omega arith, (g, omega arith))
fits_by p start Refuse b s rows out bytes fields h e l v r g = tt

-- ---- the walk
abbrev left_at : List ℕ → ℕ → Place → Option Fields
left_at s i p = read_from p.mode p.field (drop i s)

pub record Writing (s rows₀ out₀ : List ℕ) (fields i : ℕ) (p : Place) (start : ℕ) (rows out : List ℕ) : Type 0 where
  pub counting : Counting s i p
  pub given : Room s rows₀ out₀ fields
  pub begun : start ≤ p.bytes
  pub same_rows : length rows ≡ length rows₀
  pub same_out : length out ≡ length out₀
  pub spans : set_rows rows p.fields start p.bytes (left_at s i p) ≡ rows_of (read_from Start 0 s) rows₀
  pub bytes : set_out out p.bytes (left_at s i p) ≡ out_of (read_from Start 0 s) out₀

spans_whole : (o : Option Fields) (rows : List ℕ) → set_rows rows 0 0 0 o ≡ rows_of o rows
spans_whole none rows = refl
spans_whole (some fs) rows = ap (put field_width rows 0) (sym (spans_begin 0 fs)) ∙ written-put field_width rows (spans_from 0 fs)

bytes_whole : (o : Option Fields) (out : List ℕ) → set_out out 0 o ≡ out_of o out
bytes_whole none out = refl
bytes_whole (some fs) out = refl

pub write-begin : (s rows out : List ℕ) (fields : ℕ) → Room s rows out fields → Writing s rows out fields 0 begin 0 rows out
write-begin s rows out fields g = record {
  counting = count-begin s;
  given = g;
  begun = omega arith;
  same_rows = refl;
  same_out = refl;
  spans = spans_whole (read_from Start 0 s) rows;
  bytes = bytes_whole (read_from Start 0 s) out;
}

module _ {s rows₀ out₀ rows out : List ℕ} {fields i start : ℕ} {p : Place} (w : Writing s rows₀ out₀ fields i p start rows out) where
  abbrev all : ℕ × ℕ
  all = (w.given.bytes, fields)

  known : Known p.bytes p.fields (left_at s i p) all
  unfolding Known
  known = sym w.counting.so_far ∙ w.given.is

  abbrev next : Option Fields
  next = after (step_at s i p) (byte s i) (λ q j. read_from q j (drop (i + 1) s))

  known_next : i < length s → Known p.bytes p.fields next all
  unfolding Known
  known_next h = rw (read_byte p.mode p.field s i h) at known

  pub step_fits : i < length s → Fits rows out p start (step_at s i p)
  step_fits h =
      let a = countable-room (length out₀) in
      let b = countable-most (length out₀) in
      let c = countable-room (room field_width rows₀) in
      fits_by p start (step_at s i p) (byte s i) (drop (i + 1) s) rows out w.given.bytes fields (puts p.mode p.field (byte s i)) (known_next h)
      (omega (arith, w.given.bytes_fit, w.same_out)) (omega (arith, w.given.bytes_fit)) (omega (arith, w.given.fields_fit, w.same_rows)) w.begun

  pub write-on : {rows' out' : List ℕ} {start' : ℕ} (q : Place) → i < length s → Wrote rows out p start (step_at s i p) (byte s i) rows' out' start'
      → place_after p (step_at s i p) ≡ Some q → Writing s rows₀ out₀ fields (i + 1) q start' rows' out'
  write-on q h d e = record {
    counting = count-on w.counting q h e;
    given = w.given;
    begun = rw d.start_is (start-on p start (step_at s i p) q w.begun e);
    same_rows = rw d.in_rows (rows-length p start (step_at s i p) rows ∙ w.same_rows);
    same_out = rw d.in_out (out-length p (step_at s i p) (byte s i) out ∙ w.same_out);
    spans = rw (d.in_rows, d.start_is) (sym (
        ap (set_rows rows p.fields start p.bytes) (read_byte p.mode p.field s i h)
        ∙ rows_step p start (byte s i) (drop (i + 1) s) all (step_at s i p) rows (puts p.mode p.field (byte s i)) (known_next h)
        ∙ ap (λ n. rows_left (step_rows rows p start (step_at s i p)) (step_start p start (step_at s i p)) n (λ q j. read_from q j (drop (i + 1) s))) e)
        ∙ w.spans);
    bytes = rw d.in_out (sym (
        ap (set_out out p.bytes) (read_byte p.mode p.field s i h)
        ∙ out_step p start (byte s i) (drop (i + 1) s) all (step_at s i p) out (puts p.mode p.field (byte s i)) (known_next h)
        ∙ ap (λ n. out_left (step_out out p (step_at s i p) (byte s i)) n (λ q j. read_from q j (drop (i + 1) s))) e)
        ∙ w.bytes);
  }

  -- no byte is refused
  pub none-refused : i < length s → place_after p (step_at s i p) ≡ None → ⊥
  unfolding Known
  none-refused h e = go (step_at s i p) (known_next h) e
    where
      go : (t : Step) → more p.bytes p.fields (counted (after t (byte s i) (λ q j. read_from q j (drop (i + 1) s)))) ≡ some all → place_after p t ≡ None → ⊥
      go (Pass m k) h e = let z : ◌≡◌ {A = ℕ} 0 1 = cc in omega arith
      go (Put m k) h e = let z : ◌≡◌ {A = ℕ} 0 1 = cc in omega arith
      go (Close m k) h e = let z : ◌≡◌ {A = ℕ} 0 1 = cc in omega arith
      go Refuse h e = none_some h

-- ---- the text's end
data Ending : Option Fields → Type 0 where
  bad : Ending none
  closed : Ending (some [])
  unfinished : Ending (some ([] ∷ []))

ending_if : (t : Bool) → Ending (cond t (some ([] ∷ [])) none)
ending_if true = unfinished
ending_if false = bad

ending_or : (t u : Bool) → Ending (cond t (some []) (cond u (some ([] ∷ [])) none))
ending_or true u = closed
ending_or false u = ending_if u

ending : (m : Mode) (k : ℕ) → Ending (at_end m k)
unfolding at_end
ending Start k = ending_or (eqb k 0) (eqb k 4)
ending Plain k = ending_if (eqb k 4)
ending Quoted k = bad
ending Closing k = ending_if (eqb k 4)
ending Returned k = bad

module _ (rows out : List ℕ) (n start at b fields : ℕ) where
  last_open : (o : Option Fields) → Ending o → Known at n o (b, fields) → n < fields
      → set_rows rows n start at o ≡ put field_width rows n ((start ∷ (at - start) ∷ []) ∷ [])
  unfolding Known
  last_open _ bad e h = absurd (none_some e)
  last_open _ closed e h = let x : n + 0 ≡ fields = fields-are e in absurd (omega arith)
  last_open _ unfinished e h = ap (put field_width rows n) (spans_close start at [])

  last_closed : (o : Option Fields) → Ending o → Known at n o (b, fields) → fields ≤ n → set_rows rows n start at o ≡ rows
  unfolding Known
  last_closed _ bad e h = refl
  last_closed _ closed e h = put-none field_width rows n
  last_closed _ unfinished e h = let x : n + 1 ≡ fields = fields-are e in absurd (omega arith)

  last-bytes : (o : Option Fields) → Ending o → set_out out at o ≡ out
  unfolding concat
  last-bytes _ bad = refl
  last-bytes _ closed = refl
  last-bytes _ unfinished = refl

  last-room : (o : Option Fields) → Known at n o (b, fields) → at ≤ b
  unfolding Known
  last-room none e = absurd (none_some e)
  last-room (some fs) e = let x : at + length (concat fs) ≡ b = bytes-are e in omega arith

module _ {s rows₀ out₀ rows out : List ℕ} {fields i start : ℕ} {p : Place} (w : Writing s rows₀ out₀ fields i p start rows out) (h : length s ≤ i) where
  abbrev end : Option Fields
  end = at_end p.mode p.field

  known-end : Known p.bytes p.fields end (w.given.bytes, fields)
  unfolding Known
  known-end = rw (read-end p.mode p.field s i h) at (known w)

  pub end-out : out ≡ out_of (read_from Start 0 s) out₀
  end-out = sym (last-bytes rows out p.fields start p.bytes 0 fields end (ending p.mode p.field))
      ∙ ap (set_out out p.bytes) (sym (read-end p.mode p.field s i h)) ∙ w.bytes

  end-rows : set_rows rows p.fields start p.bytes end ≡ rows_of (read_from Start 0 s) rows₀
  end-rows = ap (set_rows rows p.fields start p.bytes) (sym (read-end p.mode p.field s i h)) ∙ w.spans

  pub end_closed : fields ≤ p.fields → rows ≡ rows_of (read_from Start 0 s) rows₀
  end_closed l = sym (last_closed rows out p.fields start p.bytes w.given.bytes fields end (ending p.mode p.field) known-end l) ∙ end-rows

  pub end_open : p.fields < fields → put field_width rows p.fields ((start ∷ (p.bytes - start) ∷ []) ∷ []) ≡ rows_of (read_from Start 0 s) rows₀
  end_open l = sym (last_open rows out p.fields start p.bytes w.given.bytes fields end (ending p.mode p.field) known-end l) ∙ end-rows

  pub end_fits : p.fields < fields → Fits rows out p start (Close Start 0)
  end_fits l =
      let a = last-room rows out p.fields start p.bytes w.given.bytes fields end known-end in
      let b = countable-most (length out₀) in
      let c = countable-room (room field_width rows₀) in
      (omega (arith, w.given.fields_fit, w.same_rows), (w.begun, omega (arith, w.given.bytes_fit)))
