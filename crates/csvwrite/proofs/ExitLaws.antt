-- What a caller sees, by how the call went.
use Prim.Native.Nat.{ℕ, ◌+◌, ◌-◌, ◌*◌, ◌/◌, ◌≤◌}
use native.Mathlib.Omega.{arith}
use native.Mathlib.Nat.{zero-add}
use mathlib.Core.Path.{◌≡◌, refl, sym, ap, subst, ◌∙◌}
use mathlib.Core.Bool.{Bool, true, false, cond, not}
use mathlib.Core.List.{List, [], ◌++◌}
use mathlib.Core.Option.{Option, none, some}
use lib.Dec.{leb, ltb}
use lib.ListN.{length, drop}
use borrow.Author.Tests.{leb-true, leb-false, lt-ltb, le-ltb, ltb-true, ltb-false, lt-leb, le-leb}
use Rattle.rules.specs.Lists.{concat}
use Rattle.rules.specs.Answer.{answer, refusal, too_long_lem, bad_table, more_controls, more_properties, no_room_for_sheet, longest}
use Rattle.rules.specs.CodeTable.{well_formed_lem}
use Rattle.rules.specs.Rows.{control_width, property_width, room, written}
use Rattle.rules.specs.Access2000.{stream_of}
use Rattle.rules.specs.Reading.{Reading, properties, control_rows, property_rows}
use Rattle.rules.specs.Read2000.{read2000}
use Rattle.rules.specs.ReadLater.{read_later_lem}
use Rattle.rules.specs.Blob.{Outcome, refused, read, counted, fit, is2000, read_by, reading_of, outcome, answer_of, exit_by_lem, exit, Exit}
use Rattle.rules.specs.Csv.{record_text, header, csv_of, countable, csv_by, csv_exit}
use Rattle.rules.specs.declared.Answer.{Answer}
use Rattle.rows.specs.Acts.{Held}
use Rattle.names.specs.Lookup.{Lent}
use Rattle.text.specs.Writer.{Wrote}
use Rattle.text.proofs.Written as placed
use Rattle.blob.specs.Exit.{exited}
use Rattle.csvlaws.proofs.CsvLaws.{countable-room, countable-most}
use Rattle.csvrecord.proofs.RecordLaws.{header-text}
use Rattle.csvwalk.specs.Needs.{sheet_need}
use Rattle.csvwalk.proofs.NeedLaws.{sheet_need_lem}
use Rattle.csv2000.specs.Room as old
use Rattle.csvlater.specs.Room as new
use Rattle.csvrows.specs.Rows.{many_from, slices_text, ControlsReady}
use Rattle.csvrows.proofs.SheetLaws.{rows-many, sheet-written}
use Rattle.claims.proofs.RowChecks.{reading-ordered}
use Rattle.csvwrite.specs.Sheet.{is_enough, csv_left, ample, Readable, Measured, Fits, Roomy, Ready}
use Rattle.csvwrite.proofs.AmpleLaws.{sheet-most}
use Rattle.csvwrite.proofs.RoomLaws.{is_reading, enough-is, Known, known, Counted}

no : {X : Type 0} → false ≡ true → X
no e = let z : ◌≡◌ {A = ℕ} 0 1 = cc in absurd (omega arith)

-- ---- the answer without room
pub needed_is : (t s nc np : List ℕ) → length nc ≡ 1 → length np ≡ 1 → {a : Answer} {x y : List ℕ} → exited a x y ≡ exit t s nc np → a ≡ answer_of (outcome t s 0 0)
unfolding exit
needed_is t s nc np c p e = ap (λ (z : Exit). z.answer) e ∙ (λ i. answer_of (outcome t s (c i / control_width) (p i / property_width)))

-- ---- by the layout
module _ {t s index letters : List ℕ} (h : Readable t s index letters) {b : Bool} (be : b ≡ is2000 t s) where
  reading-by : (x : Bool) → b ≡ x → reading_of t s ≡ cond x (read_by t s (stream_of s)) (some (read_later_lem s))
  unfolding reading_of
  reading-by x e = ap (λ (y : Bool). cond y (read_by t s (stream_of s)) (some (read_later_lem s))) (sym be ∙ e)

  held-stream : (o : Option _) → Held (λ _. Unit {0}) (read_by t s o) → Held (λ _. Unit {0}) o
  held-stream none k = k
  held-stream (some x) k = tt

  pub old-ready : b ≡ true → old.StreamReady t s index letters
  old-ready e = record { formed = h.formed; small = h.small; there = held-stream (stream_of s) (rw (reading-by true e) at h.there); lent = h.lent }

  pub new_ready : new.StreamReady s index letters
  new_ready = record { small = h.small; lent = h.lent }

  old-by : (all r : ℕ) (o : Option _) → Held (λ x. r ≡ all - sheet_need s (read2000 t s x)) o → Held (λ x. r ≡ all - sheet_need s x) (read_by t s o)
  old-by all r none k = k
  old-by all r (some x) k = k

  pub old-done : b ≡ true → {all r : ℕ} → old.StreamDone t s all r → Measured t s all r
  old-done e {all} {r} d = record { is = rw (reading-by true e) (old-by all r (stream_of s) d.is) }

  pub new_done : b ≡ false → (all r : ℕ) → new.BlobDone s all r → Measured t s all r
  new_done e all r d = record { is = rw (reading-by false e) d }

-- ---- whether the text fits
header-length : length (record_text header) ≡ 34
header-length = ap length header-text

fits_by : (s : List ℕ) (lent all left : ℕ) (x : Reading) → all ≡ countable lent + 1 - 34 → left ≡ all - sheet_need s x → ltb 0 left ≡ leb (length (csv_of s x)) (countable lent)
fits_by s lent all left x ae le = go (ltb 0 left) refl
  where
    go : (b : Bool) → ltb 0 left ≡ b → b ≡ leb (length (csv_of s x)) (countable lent)
    go true e = sym (le-leb (length (csv_of s x)) (countable lent) (omega (arith, ltb-true 0 left e, ae, le, sheet_need_lem s x, header-length)))
    go false e = sym (lt-leb (length (csv_of s x)) (countable lent) (omega (arith, ltb-false 0 left e, ae, le, sheet_need_lem s x, header-length)))

pub fits-done : {t s : List ℕ} {all left : ℕ} (lent : ℕ) → all ≡ countable lent + 1 - 34 → Measured t s all left → Fits t s lent (ltb 0 left)
fits-done {t = t} {s = s} {all = all} {left = left} lent ae m = record { is = go (reading_of t s) m.is }
  where
    go : (o : Option Reading) → Held (λ x. left ≡ all - sheet_need s x) o → Held (λ x. ltb 0 left ≡ leb (length (csv_of s x)) (countable lent)) o
    go none k = k
    go (some x) k = fits_by s lent all left x ae k

-- ---- refused as the reader refuses it
written_none : (old : List ℕ) → written [] old ≡ old
unfolding concat
written_none old = refl

module _ (t s cs ps : List ℕ) {needed : Answer} (ne : needed ≡ answer_of (outcome t s 0 0)) where
  abbrev c : ℕ
  c = room control_width cs

  abbrev p : ℕ
  p = room property_width ps

  tells : {b : Bool} → b ≡ is_enough needed c p → b ≡ is_reading (outcome t s c p)
  tells e = e ∙ ap (λ (a : Answer). is_enough a c p) ne ∙ enough-is c p t s

  pub refused-exit : {b : Bool} → b ≡ is_enough needed c p → b ≡ false → (out : List ℕ) {a : Answer} {cs' ps' : List ℕ} → exited a cs' ps' ≡ exit t s cs ps
      → csv_left a cs' ps' out ≡ csv_exit t s cs ps out
  unfolding exit csv_exit
  refused-exit e f out {a} {cs'} {ps'} x = go (outcome t s c p) (sym f ∙ tells e) x
    where
      go : (o : Outcome) → false ≡ is_reading o → exited a cs' ps' ≡ exit_by_lem o cs ps → csv_left a cs' ps' out ≡ csv_by s o cs ps out
      go (refused b) k x =
          let y = ap (λ (z : Exit). csv_left z.answer z.controls z.properties out) x in
          y ∙ (λ i. csv_left b (written_none cs i) (written_none ps i) out)
      go (read r) k x = no k

  -- enough: there is a reading
  module _ {b : Bool} (e : b ≡ is_enough needed c p) (f : b ≡ true) where
    pub its : (r : Reading) × (outcome t s c p ≡ read r)
    its = go (outcome t s c p) refl (sym f ∙ tells e)
      where
        go : (o : Outcome) → outcome t s c p ≡ o → true ≡ is_reading o → (r : Reading) × (outcome t s c p ≡ read r)
        go (refused a) q k = no (sym k)
        go (read r) q k = (r, q)

    facts : Known t s c p its.0
    facts = known t s c p its.0 its.1

    pub readable : {index letters : List ℕ} → Lent index letters → Readable t s index letters
    readable l = record { formed = facts.formed; small = facts.small; there = rw facts.reads tt; lent = l }

    pub no-room-exit : {out : List ℕ} {g : Bool} → Fits t s (length out) g → g ≡ false → {a : Answer} → a ≡ refusal no_room_for_sheet → csv_left a cs ps out ≡ csv_exit t s cs ps out
    unfolding csv_exit
    no-room-exit {out} {g} w k {a} ae =
        let z : g ≡ leb (length (csv_of s its.0)) (countable (length out)) = rw facts.reads at w.is in
        let l = leb-false (length (csv_of s its.0)) (countable (length out)) (sym z ∙ k) in
        rw (its.1, lt-ltb (countable (length out)) (length (csv_of s its.0)) l, ae)

-- ---- the text has room
module _ {t s cs ps out : List ℕ} where
  pub fits_roomy : {g : Bool} → Fits t s (length out) g → g ≡ true → Roomy t s cs ps out
  fits_roomy {g = g} w k = record {
    fits = λ r e few.
        let h = known t s (room control_width cs) (room property_width ps) r e in
        let z : g ≡ leb (length (csv_of s r)) (countable (length out)) = rw h.reads at w.is in
        leb-true (length (csv_of s r)) (countable (length out)) (sym z ∙ k);
  }

  pub ample_roomy : ample (length ps / property_width) (length s) ≤ countable (length out) → Roomy t s cs ps out
  unfolding ample
  ample_roomy l = record {
    fits = λ r e few.
        let h = known t s (room control_width cs) (room property_width ps) r e in
        let m = sheet-most s r (omega (arith, h.small)) few (reading-ordered t s r h.reads) in
        omega (arith, sheet_need_lem s r, header-length, m, h.properties-fit, l);
  }

-- ---- an answer of the reader's
zero-fit : (c p : ℕ) (o : Option Reading) → (answer_of (fit c p o)).number ≡ 0 → (r : Reading) × (fit c p o ≡ read r)
zero-fit c p none e = absurd (omega (arith, e))
zero-fit c p (some q) e = go (ltb c (length q.controls)) (ltb p (length (properties q))) e
  where
    go : (x y : Bool) → (answer_of (cond x (refused (counted more_controls q)) (cond y (refused (counted more_properties q)) (read q)))).number ≡ 0
        → (r : Reading) × (cond x (refused (counted more_controls q)) (cond y (refused (counted more_properties q)) (read q)) ≡ read r)
    go true y e = absurd (omega (arith, e))
    go false true e = absurd (omega (arith, e))
    go false false e = (q, refl)

zero-read : (t s : List ℕ) (c p : ℕ) → (answer_of (outcome t s c p)).number ≡ 0 → (r : Reading) × (outcome t s c p ≡ read r)
unfolding outcome
zero-read t s c p e = go (ltb longest (length s)) (well_formed_lem t) e
  where
    go : (x y : Bool) → (answer_of (cond x (refused (refusal too_long_lem)) (cond (not y) (refused (refusal bad_table)) (fit c p (reading_of t s))))).number ≡ 0
        → (r : Reading) × (cond x (refused (refusal too_long_lem)) (cond (not y) (refused (refusal bad_table)) (fit c p (reading_of t s))) ≡ read r)
    go true y e = absurd (omega (arith, e))
    go false false e = absurd (omega (arith, e))
    go false true e = zero-fit c p (reading_of t s) e

read-counts : (r : Reading) → Counted (answer_of (read r)) r
read-counts r = record { first = refl; second = refl; third = refl }

module _ {t s cs ps out : List ℕ} (h : Roomy t s cs ps out) {a : Answer} {cs' ps' : List ℕ} (x : exited a cs' ps' ≡ exit t s cs ps) where
  pub refused_all : (a.number ≡ 0 → ⊥) → csv_left a cs' ps' out ≡ csv_exit t s cs ps out
  unfolding exit csv_exit
  refused_all n = go (outcome t s (room control_width cs) (room property_width ps)) x
    where
      go : (o : Outcome) → exited a cs' ps' ≡ exit_by_lem o cs ps → csv_left a cs' ps' out ≡ csv_by s o cs ps out
      go (refused b) x =
          let y = ap (λ (z : Exit). csv_left z.answer z.controls z.properties out) x in
          y ∙ (λ i. csv_left b (written_none cs i) (written_none ps i) out)
      go (read r) x = absurd (n (ap (λ (z : Exit). z.answer.number) x))

  answer-is : a ≡ answer_of (outcome t s (room control_width cs) (room property_width ps))
  unfolding exit
  answer-is = ap (λ (z : Exit). z.answer) x

  pub all-ready : {index letters : List ℕ} → a.number ≡ 0 → a.first ≤ 0xFFFFFFFF → Lent index letters → Ready t s cs ps index letters a out
  all-ready e f l =
      let z = zero-read t s (room control_width cs) (room property_width ps) (sym (ap (λ (b : Answer). b.number) answer-is) ∙ e) in
      let n : Counted a z.0 = subst (λ (b : Answer). Counted b z.0) (sym (answer-is ∙ ap answer_of z.1)) (read-counts z.0) in
      record {
        reading = z.0;
        is = z.1;
        first = n.first;
        second = n.second;
        third = n.third;
        fits = h.fits z.0 z.1 (omega (arith, n.first, f));
        lent = l;
      }

-- ---- written
module _ {t s cs ps index letters : List ℕ} {needed : Answer} {out : List ℕ} (h : Ready t s cs ps index letters needed out) where
  abbrev r : Reading
  r = h.reading

  read_facts : Known t s (room control_width cs) (room property_width ps) r
  read_facts = known t s (room control_width cs) (room property_width ps) r h.is

  module _ {a : Answer} {cs' ps' : List ℕ} (x : exited a cs' ps' ≡ exit t s cs ps) where
    exits : exited a cs' ps' ≡ exit_by_lem (read r) cs ps
    unfolding exit
    exits = x ∙ ap (λ (o : Outcome). exit_by_lem o cs ps) h.is

    controls-are : cs' ≡ written (control_rows r) cs
    controls-are = ap (λ (z : Exit). z.controls) exits

    properties-are : ps' ≡ written (property_rows r) ps
    properties-are = ap (λ (z : Exit). z.properties) exits

    fc : length r.controls * control_width ≤ length cs
    fc = omega (arith, read_facts.controls)

    fp : length (properties r) * property_width ≤ length ps
    fp = omega (arith, read_facts.properties-fit)

    pub sheet-ready : needed.first ≤ 0xFFFFFFFF → needed.second ≤ 0xFFFFFFFF → ControlsReady index letters cs' needed.first needed.third
    sheet-ready l m =
        let e : many_from cs' 0 needed.first ≡ many_from (written (control_rows r) cs) 0 (length r.controls) = λ i. many_from (controls-are i) 0 (h.first i) in
        record { lent = h.lent; some_left = l; few = omega (arith, e, rows-many r cs ps fc fp, m, h.second, h.third) }

    text-is : slices_text s cs' needed.first ps' needed.third ≡ csv_of s r
    text-is = (λ i. slices_text s (controls-are i) (h.first i) (properties-are i) (h.third i)) ∙ sheet-written r cs ps fc fp s

    module _ {o : List ℕ} {e : ℕ} (w : Wrote out 0 (slices_text s cs' needed.first ps' needed.third) o e) where
      whole : Wrote out 0 (csv_of s r) o e
      whole = rw text-is at w

      room-there : 0 + length (csv_of s r) ≤ length out
      room-there = omega (arith, h.fits, countable-room (length out))

      size_is : e ≡ length (csv_of s r)
      size_is = omega (arith, placed.next whole room-there)

      pub size_small : e ≤ 0xFFFFFFFF
      size_small = omega (arith, size_is, h.fits, countable-most (length out))

      pub written-exit : {b : Answer} → b ≡ answer 0 e 0 0 → csv_left b cs' ps' o ≡ csv_exit t s cs ps out
      unfolding csv_exit
      written-exit {b} be =
          let d : o ≡ csv_of s r ++ drop (length (csv_of s r)) out = placed.all whole room-there ∙ rw (zero-add (length (csv_of s r))) in
          let n : b ≡ answer 0 (length (csv_of s r)) 0 0 = be ∙ ap (λ (m : ℕ). answer 0 m 0 0) size_is in
          rw (h.is, le-ltb (countable (length out)) (length (csv_of s r)) h.fits) (λ i. csv_left (n i) (controls-are i) (properties-are i) (d i))
