-- What is printed is what is said of all that standard input had.
use Prim.Native.Nat.{ℕ, ◌+◌, ◌*◌, ◌≤◌, ◌<◌}
use native.Mathlib.Omega.{arith}
use mathlib.Core.Path.{◌≡◌, refl, sym, ap, ◌∙◌}
use mathlib.Core.Bool.{Bool, true, false, cond}
use mathlib.Core.List.{List}
use borrow.Author.Tests.{lt-ltb, le-ltb}
use lib.Dec.{ltb}
use lib.ListN.{length, take, length-replicate}
use Rattle.rules.specs.Answer.{refusal, bad_table}
use Rattle.rules.specs.Rows.{difference_width}
use Rattle.rules.specs.Listing.{answer_line, table_length, table_in, blob_in}
use Rattle.listing.specs.Written.{Written}
use Rattle.listing.proofs.Longest.{answer-short}
use Rattle.text.specs.Writer.{Wrote}
use Rattle.tabletext.specs.Input.{Began}
use Rattle.tabletext.proofs.Told.{first-printed}
use Rattle.inputs.specs.Lent.{all_of, zeros}
use Rattle.difflist.specs.Listed.{after_length, listed, listed_in_lem, listed_of, most_read, said_for, most_said, lent_for, small_rows, small_controls, small_properties, small_said, large_rows, large_controls, large_properties, large_said, Cut, Ready}

-- ---- a table after its length
refusal-short : (rows : List ℕ) → length (answer_line (refusal bad_table)) ≤ most_said rows
unfolding most_said
refusal-short rows = omega (arith, answer-short (refusal bad_table) (omega arith) (omega arith) (omega arith) (omega arith))

module _ (say : List ℕ → List ℕ → List ℕ) (input rows : List ℕ) where
  -- a shorter input is shorter than four bytes, or than its table
  refused : length input < 4 + table_length input → after_length say input ≡ answer_line (refusal bad_table)
  unfolding after_length
  refused h = go (ltb (length input) 4)
    where
      go : (b : Bool) → cond b (answer_line (refusal bad_table)) (cond (ltb (length input) (4 + table_length input)) (answer_line (refusal bad_table)) (say (table_in input) (blob_in input)))
          ≡ answer_line (refusal bad_table)
      go true = refl
      go false = rw (lt-ltb (length input) (4 + table_length input) h)

  pub refused-written : {o n : List ℕ} {e : ℕ} → length input < 4 + table_length input → Wrote o 0 (answer_line (refusal bad_table)) n e → Written o (after_length say input) (most_said rows) n e
  refused-written h w = rw (refused h) (record { wrote = w; short = refusal-short rows })

  pub cut-written : {table rest : List ℕ} → Cut input table rest → {o n : List ℕ} {e : ℕ} → Written o (say table rest) (most_said rows) n e → Written o (after_length say input) (most_said rows) n e
  unfolding after_length
  cut-written k w =
      let begins : 4 ≤ length input = omega (arith, k.whole) in
      rw (le-ltb (length input) 4 begins, le-ltb (length input) (4 + table_length input) k.whole) (rw (k.table_is, k.rest_is) at w)

-- ---- what is lent
small-lent : (input : List ℕ) {lent : List ℕ} (small large : ℕ) → length input < 16384 → zeros small ≡ lent → lent_for input small large ≡ lent
unfolding lent_for
small-lent input small large h e = rw (lt-ltb (length input) 16384 h) e

large_lent : (input : List ℕ) {lent : List ℕ} (small large : ℕ) → 16384 ≤ length input → zeros large ≡ lent → lent_for input small large ≡ lent
unfolding lent_for
large_lent input small large h e = rw (le-ltb (length input) 16384 h) e

rows-lent : {rows : List ℕ} (n : ℕ) → zeros (n * difference_width) ≡ rows → most_said rows ≡ said_for n
unfolding all_of most_said
rows-lent n e = omega (arith, ap length (sym e) ∙ length-replicate {A = ℕ} (n * difference_width) 0)

module _ {input rows cs ps out : List ℕ} where
  pub small-ready : length input < 16384 → zeros small_rows ≡ rows → zeros small_controls ≡ cs → zeros small_properties ≡ ps → small_said ≡ length out → Ready input rows cs ps out
  small-ready h d c p o = record {
    short = omega arith;
    for_rows = small-lent input small_rows large_rows h d;
    for_controls = small-lent input small_controls large_controls h c;
    for_properties = small-lent input small_properties large_properties h p;
    for_lines = omega (arith, rows-lent 16384 d);
  }

  pub large_ready : 16384 ≤ length input → length input ≤ most_read → zeros large_rows ≡ rows → zeros large_controls ≡ cs → zeros large_properties ≡ ps → large_said ≡ length out
      → Ready input rows cs ps out
  large_ready h l d c p o = record {
    short = l;
    for_rows = large_lent input small_rows large_rows h d;
    for_controls = large_lent input small_controls large_controls h c;
    for_properties = large_lent input small_properties large_properties h p;
    for_lines = omega (arith, rows-lent 131072 d);
  }

-- ---- of the input no more than what is read counts
lent_is : {read rows cs ps out : List ℕ} → Ready read rows cs ps out → listed read rows cs ps ≡ listed_in_lem read
unfolding listed_in_lem
lent_is {read} {rows} {cs} {ps} r = λ i. listed read (sym r.for_rows i) (sym r.for_controls i) (sym r.for_properties i)

pub all-printed : {read rows cs ps old new : List ℕ} {end : ℕ} → Written old (listed read rows cs ps) (most_said rows) new end → Ready read rows cs ps old
    → (all : List ℕ) → Began most_read read all → take end new ≡ listed_of all
unfolding listed_of
all-printed w r = first-printed listed_in_lem w r.for_lines (lent_is r) r.short
