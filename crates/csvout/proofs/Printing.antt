-- What is printed is what is said of all that standard input had.
use Prim.Native.Nat.{ℕ, ◌+◌, ◌-◌, ◌*◌, ◌≤◌, ◌<◌}
use native.Mathlib.Nat.{min-eq_left}
use native.Mathlib.Omega.{arith}
use mathlib.Core.Path.{◌≡◌, refl, sym, ap, ◌∙◌}
use mathlib.Core.Bool.{Bool, true, false}
use mathlib.Core.List.{List, [], ◌++◌, append-nil}
use borrow.Author.Tests.{lt-ltb, le-ltb, ne_eqb}
use lib.Dec.{ltb}
use lib.ListN.{length, take, drop, length-append, length-drop}
use lib.Seq.{take_at, take_all}
use Rattle.rules.specs.Answer.{answer, refusal, too_long_lem, bad_table, no_room_for_sheet}
use Rattle.rules.specs.Rows.{control_width, property_width, room}
use Rattle.rules.specs.Blob.{Outcome, refused, read, outcome}
use Rattle.rules.specs.Reading.{Reading}
use Rattle.rules.specs.Csv.{csv_of, countable, csv_by, csv_exit, CsvExit}
use Rattle.rules.specs.Listing.{answer_line, table_length, table_in, blob_in}
use Rattle.rules.specs.declared.Answer.{Answer}
use Rattle.text.specs.Writer.{Wrote}
use Rattle.listing.proofs.Placed.{held}
use Rattle.listing.proofs.Longest.{answer-short}
use Rattle.listing.proofs.Printed.{Stated, outcome_stated}
use Rattle.inputs.specs.Begun.{Begun}
use Rattle.inputs.proofs.Came.{all_read, more_came}
use Rattle.csvwrite.specs.Sheet.{csv_left}
use Rattle.csvout.specs.Sheets.{control_room, property_room, text_room, longest_blob, longest_input, sheet_by, sheet_in, sheet_for, Refused, text_size, Parted}

-- ---- refusals
pub more-refused : {read : List ℕ} → longest_input ≤ length read → Refused read true too_long_lem
unfolding sheet_for
more-refused l input b = rw (lt-ltb longest_input (length input) (omega (arith, more_came b refl)))

module _ (s : List ℕ) (short : length s ≤ longest_input) where
  inner : sheet_for s ≡ sheet_in s
  unfolding sheet_for
  inner = rw (le-ltb longest_input (length s) short)

  whole_is : {x : List ℕ} → sheet_in s ≡ x → (input : List ℕ) → Begun s false input → sheet_for input ≡ x
  whole_is e input b = ap sheet_for (sym (all_read b refl)) ∙ inner ∙ e

  module _ (l : 4 ≤ length s) where
    pub table-cut : length s < 4 + table_length s → Refused s false bad_table
    unfolding sheet_in
    table-cut h = whole_is (rw (le-ltb (length s) 4 l, lt-ltb (length s) (4 + table_length s) h))

    module _ (k : 4 + table_length s ≤ length s) where
      pub blob-long : longest_blob < length (blob_in s) → Refused s false too_long_lem
      unfolding sheet_in
      blob-long h = whole_is (rw (le-ltb (length s) 4 l, le-ltb (length s) (4 + table_length s) k, lt-ltb longest_blob (length (blob_in s)) h))

      pub parted : length (blob_in s) ≤ longest_blob → Parted s (table_in s) (blob_in s)
      unfolding sheet_in
      parted h = record { is = inner ∙ rw (le-ltb (length s) 4 l, le-ltb (length s) (4 + table_length s) k, le-ltb longest_blob (length (blob_in s)) h) refl }

pub no_length : (s : List ℕ) → length s < 4 → Refused s false bad_table
unfolding sheet_in
no_length s h = whole_is s (omega arith) (rw (lt-ltb (length s) 4 h))

pub refusal-printed : {read old new : List ℕ} {more : Bool} {end number : ℕ} → Wrote old 0 (answer_line (refusal number)) new end → 64 ≤ length old → number < 4294967296
    → Refused read more number → (input : List ℕ) → Begun read more input → take end new ++ [] ≡ sheet_for input
refusal-printed {number = n} w h f refuses input b =
    append-nil _ ∙ held w (omega (arith, answer-short (refusal n) f (omega arith) (omega arith) (omega arith))) ∙ sym (refuses input b)

-- ---- the text
countable_is : (n : ℕ) → n < 0xFFFFFFFF → countable n ≡ n
unfolding countable
countable_is n h = min-eq_left (omega arith)

room-is : (out : List ℕ) → length out ≡ text_room → countable (length out) ≡ text_room
room-is out h = ap countable h ∙ countable_is text_room (omega arith)

module _ (s cs ps out : List ℕ) (o_is : length out ≡ text_room) {a : Answer} {x y z : List ℕ} where
  fits_by : (r : Reading) (b : Bool) → ltb text_room (length (csv_of s r)) ≡ b → csv_left a x y z ≡ csv_by s (read r) cs ps out
      → (answer_line a ++ take (text_size a.number a.first) z ≡ sheet_by s (read r)) × (text_size a.number a.first ≤ length z)
  unfolding text_size
  fits_by r true f e =
      let g = rw (room-is out o_is, f) at e in
      let ae : a ≡ refusal no_room_for_sheet = ap (λ (q : CsvExit). q.answer) g in
      (rw (f, ae) (append-nil (answer_line (refusal no_room_for_sheet))), rw ae (omega arith))
  fits_by r false f e =
      let g = rw (room-is out o_is, f) at e in
      let ae : a ≡ answer 0 (length (csv_of s r)) 0 0 = ap (λ (q : CsvExit). q.answer) g in
      let ze : z ≡ csv_of s r ++ drop (length (csv_of s r)) out = ap (λ (q : CsvExit). q.out) g in (
        rw (f, ae, ze) (ap (λ q. answer_line (answer 0 (length (csv_of s r)) 0 0) ++ q) (take_at (csv_of s r) (drop (length (csv_of s r)) out) (length (csv_of s r)) refl)),
        rw (ae, ze) (simp length-append (omega arith)),
      )

  by-outcome : (o : Outcome) → Stated control_room property_room o → csv_left a x y z ≡ csv_by s o cs ps out
      → (answer_line a ++ take (text_size a.number a.first) z ≡ sheet_by s o) × (text_size a.number a.first ≤ length z)
  unfolding text_size
  by-outcome (refused b) st e =
      let ae : a ≡ b = ap (λ (q : CsvExit). q.answer) e in
      (rw (ae, ne_eqb b.number 0 st) (append-nil (answer_line b)), rw (ae, ne_eqb b.number 0 st) (omega arith))
  by-outcome (read r) st e = fits_by r (ltb text_room (length (csv_of s r))) refl e

module _ (t s cs ps out : List ℕ) (c : control_room * control_width ≡ length cs) (p : property_room * property_width ≡ length ps) (o : text_room ≡ length out)
    {a : Answer} {x y z : List ℕ} (left : csv_left a x y z ≡ csv_exit t s cs ps out) where
  both : (answer_line a ++ take (text_size a.number a.first) z ≡ sheet_by s (outcome t s control_room property_room)) × (text_size a.number a.first ≤ length z)
  unfolding csv_exit
  both =
      let f : room control_width cs ≡ control_room = rw (sym c) in
      let g : room property_width ps ≡ property_room = rw (sym p) in
      by-outcome s cs ps out (sym o) (outcome t s control_room property_room) (outcome_stated control_room property_room t s) (left ∙ rw (f, g) refl)

  pub size_fits : text_size a.number a.first ≤ length z
  size_fits = both.1

  pub all-printed : {old new input : List ℕ} {end : ℕ} → Wrote old 0 (answer_line a) new end → length (answer_line a) ≤ length old → Parted input t s
      → (whole : List ℕ) → Begun input false whole → take end new ++ take (text_size a.number a.first) z ≡ sheet_for whole
  all-printed w h q whole b =
      ap (λ l. l ++ take (text_size a.number a.first) z) (held w h)
      ∙ both.0
      ∙ sym q.is
      ∙ ap sheet_for (all_read b refl)

-- ---- the parts of the input, as slices
module _ (s : List ℕ) (short : length s ≤ longest_input) (l : 4 ≤ length s) (k : 4 + table_length s ≤ length s) where
  pub slices_parted : (size : ℕ) → size ≡ table_length s → length s - (4 + size) ≤ longest_blob
      → {table stream : List ℕ} → table ≡ take (4 + size - 4) (drop 4 s) → stream ≡ take (length s - (4 + size)) (drop (4 + size) s) → Parted s table stream
  slices_parted size z h {table} {stream} te se =
      let d : 4 + size - 4 ≡ size = omega arith in
      let t : table ≡ table_in s = te ∙ rw (d, z) in
      let b : stream ≡ blob_in s = se ∙ take_all (length s - (4 + size)) (drop (4 + size) s) (simp length-drop (omega arith)) ∙ rw z in
      let m : length (blob_in s) ≤ longest_blob = simp length-drop (omega arith) in
      rw (t, b) (parted s short l k m)
