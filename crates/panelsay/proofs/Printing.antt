-- What is printed is what is said of all that standard input had.
use Prim.Native.Nat.{ℕ, ◌+◌, ◌-◌, ◌≤◌, ◌<◌}
use native.Mathlib.Omega.{arith}
use mathlib.Core.Path.{◌≡◌, sym, ap, subst, ◌∙◌}
use mathlib.Core.List.{List, ◌++◌}
use borrow.Author.Tests.{lt-ltb, le-ltb}
use lib.ListN.{length, take, drop, length-drop, length-append}
use lib.Seq.{take_all}
use Rattle.rules.specs.Answer.{refusal, bad_table}
use Rattle.rules.specs.Rows.{control_width, row_at}
use Rattle.rules.specs.Blob.{Exit}
use Rattle.rules.specs.Panel.{panel_exit}
use Rattle.rules.specs.Listing.{answer_line, table_length, table_in, blob_in}
use Rattle.rules.specs.declared.Answer.{Answer}
use Rattle.blob.specs.Exit.{exited}
use Rattle.rows.specs.Get.{ControlOf}
use Rattle.rows.specs.declared.ControlRow.{ControlRow}
use Rattle.listing.specs.Numbers.{numbers_line}
use Rattle.listing.specs.Written.{Written}
use Rattle.listing.proofs.Longest.{Word32, decimal-short, answer-short}
use Rattle.text.specs.Writer.{Wrote}
use Rattle.text.proofs.Chain.{◌⨟◌}
use Rattle.tabletext.specs.Input.{Began}
use Rattle.tabletext.proofs.Told.{first-printed}
use Rattle.inputs.specs.Lent.{zeros}
use Rattle.panelsay.specs.Judged.{row_line, row_text, said, judged, controls_for, properties_for, judged_in, judged_of, most_read, most_said, small_controls, small_properties, large_controls, large_properties, Ready}

-- ---- a row's line
module _ (k m s z : ℕ) where
  pub row-short : Word32 k → Word32 m → Word32 s → Word32 z → length (row_line k m s z) ≤ 52
  unfolding numbers_line
  row-short h0 h1 h2 h3 = simp length-append (omega (arith, decimal-short k h0, decimal-short m h1, decimal-short s h2, decimal-short z h3))

row_is : (row : List ℕ) {r : ControlRow} → ControlOf row r → row_line r.type_code r.mark r.start r.size ≡ row_text row
unfolding row_text
row_is row h = rw (h.type-code, h.mark, h.start, h.size)

-- ---- what is said of a stream
module _ {a : Answer} {cs ps : List ℕ} {e : Exit} (answered : exited a cs ps ≡ e) {r : ControlRow} (row : ControlOf (row_at control_width a.second cs) r) where
  said-is : answer_line a ++ row_line r.type_code r.mark r.start r.size ≡ said e
  unfolding said
  said-is = ap (λ (x : List ℕ). answer_line a ++ x) (row_is (row_at control_width a.second cs) row) ∙ ap (λ (x : Exit). answer_line x.answer ++ row_text (row_at control_width x.answer.second x.controls)) answered

  pub said-written : {o m n : List ℕ} {q x : ℕ} → Wrote o 0 (answer_line a) m q → Wrote m q (row_line r.type_code r.mark r.start r.size) n x
      → length (answer_line a) ≤ 51 → length (row_line r.type_code r.mark r.start r.size) ≤ 52 → Written o (said e) most_said n x
  said-written {o} {n = n} {x = x} v w h k =
      let l : length (answer_line a ++ row_line r.type_code r.mark r.start r.size) ≤ most_said = simp length-append (omega arith) in
      subst (λ (y : List ℕ). Written o y most_said n x) said-is (record { wrote = v ⨟ w; short = l })

-- ---- by what the input has
refusal-short : length (answer_line (refusal bad_table)) ≤ most_said
refusal-short = omega (arith, answer-short (refusal bad_table) (omega arith) (omega arith) (omega arith) (omega arith))

module _ (input cs ps : List ℕ) where
  input_short : length input < 4 → judged input cs ps ≡ answer_line (refusal bad_table)
  unfolding judged
  input_short h = rw (lt-ltb (length input) 4 h)

  pub short-written : {o n : List ℕ} {e : ℕ} → length input < 4 → Wrote o 0 (answer_line (refusal bad_table)) n e → Written o (judged input cs ps) most_said n e
  short-written h w = rw (input_short h) (record { wrote = w; short = refusal-short })

  module _ (begins : 4 ≤ length input) where
    input_cut : length input < 4 + table_length input → judged input cs ps ≡ answer_line (refusal bad_table)
    unfolding judged
    input_cut h = rw (le-ltb (length input) 4 begins, lt-ltb (length input) (4 + table_length input) h)

    pub cut-written : {o n : List ℕ} {e : ℕ} → length input < 4 + table_length input → Wrote o 0 (answer_line (refusal bad_table)) n e → Written o (judged input cs ps) most_said n e
    cut-written h w = rw (input_cut h) (record { wrote = w; short = refusal-short })

    input_whole : 4 + table_length input ≤ length input → judged input cs ps ≡ said (panel_exit (table_in input) (blob_in input) cs ps)
    unfolding judged
    input_whole h = rw (le-ltb (length input) 4 begins, le-ltb (length input) (4 + table_length input) h)

    -- the table and the stream of the input, as slices
    pub whole-written : (size : ℕ) → size ≡ table_length input → 4 + size ≤ length input → {table stream o n : List ℕ} {e : ℕ}
        → table ≡ take (4 + size - 4) (drop 4 input) → stream ≡ take (length input - (4 + size)) (drop (4 + size) input)
        → Written o (said (panel_exit table stream cs ps)) most_said n e → Written o (judged input cs ps) most_said n e
    whole-written size z h {table} {stream} te se w =
        let l : 4 + table_length input ≤ length input = omega arith in
        let d : 4 + size - 4 ≡ size = omega arith in
        let a : table ≡ table_in input = te ∙ rw (d, z) in
        let b : stream ≡ blob_in input = se ∙ take_all (length input - (4 + size)) (drop (4 + size) input) (simp length-drop (omega arith)) ∙ rw z in
        rw (input_whole l) (rw (a, b) at w)

-- ---- the words that are lent
pub small-ready : {input cs ps : List ℕ} → length input < 16384 → zeros small_controls ≡ cs → zeros small_properties ≡ ps → Ready input cs ps
unfolding controls_for properties_for
small-ready {input} h c p = record { short = omega arith; for_controls = rw (lt-ltb (length input) 16384 h) c; for_properties = rw (lt-ltb (length input) 16384 h) p }

pub large_ready : {input cs ps : List ℕ} → 16384 ≤ length input → length input ≤ most_read → zeros large_controls ≡ cs → zeros large_properties ≡ ps → Ready input cs ps
unfolding controls_for properties_for
large_ready {input} h l c p = record { short = l; for_controls = rw (le-ltb (length input) 16384 h) c; for_properties = rw (le-ltb (length input) 16384 h) p }

-- ---- of the input no more than what is read counts
lent_is : {read cs ps : List ℕ} → Ready read cs ps → judged read cs ps ≡ judged_in read
unfolding judged_in
lent_is {read} {cs} {ps} r = ap (λ (x : List ℕ). judged read x ps) (sym r.for_controls) ∙ ap (λ (x : List ℕ). judged read (controls_for read) x) (sym r.for_properties)

pub all-printed : {read cs ps old new : List ℕ} {end : ℕ} → Written old (judged read cs ps) most_said new end → most_said ≤ length old → Ready read cs ps
    → (all : List ℕ) → Began most_read read all → take end new ≡ judged_of all
unfolding judged_of
all-printed w h r = first-printed judged_in w h (lent_is r) r.short
