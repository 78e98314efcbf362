-- The listing of an input, by its parts.
use mathlib.Core.Path.{◌≡◌, ◌∙◌}
use mathlib.Core.List.{List}
use Prim.Native.Nat.{ℕ, ◌+◌, ◌-◌, ◌≤◌, ◌<◌}
use native.Mathlib.Omega.{arith}
use borrow.Author.Tests.{lt-ltb, le-ltb}
use lib.ListN.{length, take, drop, length-drop}
use lib.Seq.{take_all}
use Rattle.rules.specs.Answer.{refusal}
use Rattle.rules.specs.Listing.{answer_line, table_length, table_in, blob_in}
use Rattle.text.specs.Writer.{Wrote}
use Rattle.listing.specs.Written.{Written}
use Rattle.listing.specs.Bound.{longest_answer}
use Rattle.listing.proofs.Longest.{answer-short}
use Rattle.bloblines.specs.Blobs.{longest_blob, blob_listed, lines_in, listed_in_lem, most_in}

pub refusal-short : (k : ℕ) → k < 11 → length (answer_line (refusal k)) ≤ longest_answer
refusal-short k h = answer-short (refusal k) (omega arith) (omega arith) (omega arith) (omega arith)

listed-is : (input cs ps : List ℕ) → 4 ≤ length input → 4 + table_length input ≤ length input → length (blob_in input) ≤ longest_blob
    → listed_in_lem input cs ps ≡ lines_in (table_in input) (blob_in input) cs ps
unfolding blob_listed
listed-is input cs ps begins whole h =
    rw (le-ltb (length input) 4 begins, le-ltb (length input) (4 + table_length input) whole, le-ltb longest_blob (length (blob_in input)) h)

module _ (input cs ps : List ℕ) {o n : List ℕ} {e : ℕ} where
  by-refusal : (k : ℕ) → k < 11 → listed_in_lem input cs ps ≡ answer_line (refusal k) → Wrote o 0 (answer_line (refusal k)) n e → Written o (listed_in_lem input cs ps) (most_in cs ps) n e
  by-refusal k l q w = record { wrote = rw q w; short = rw q (omega (arith, refusal-short k l)) }

  pub no_length : length input < 4 → Wrote o 0 (answer_line (refusal 8)) n e → Written o (listed_in_lem input cs ps) (most_in cs ps) n e
  unfolding blob_listed
  no_length h w = by-refusal 8 (omega arith) (rw (lt-ltb (length input) 4 h)) w

  module _ (begins : 4 ≤ length input) where
    pub table-cut : length input < 4 + table_length input → Wrote o 0 (answer_line (refusal 8)) n e → Written o (listed_in_lem input cs ps) (most_in cs ps) n e
    unfolding blob_listed
    table-cut h w = by-refusal 8 (omega arith) (rw (le-ltb (length input) 4 begins, lt-ltb (length input) (4 + table_length input) h)) w

    module _ (whole : 4 + table_length input ≤ length input) where
      pub blob-long : longest_blob < length (blob_in input) → Wrote o 0 (answer_line (refusal 5)) n e → Written o (listed_in_lem input cs ps) (most_in cs ps) n e
      unfolding blob_listed
      blob-long h w =
          by-refusal 5 (omega arith)
          (rw (le-ltb (length input) 4 begins, le-ltb (length input) (4 + table_length input) whole, lt-ltb longest_blob (length (blob_in input)) h)) w

      -- the parts of the input, as slices
      pub blob-written : (size : ℕ) → size ≡ table_length input → length input - (4 + size) ≤ longest_blob
          → {table stream : List ℕ} → table ≡ take (4 + size - 4) (drop 4 input) → stream ≡ take (length input - (4 + size)) (drop (4 + size) input)
          → Written o (lines_in table stream cs ps) (most_in cs ps) n e → Written o (listed_in_lem input cs ps) (most_in cs ps) n e
      blob-written size z h {table} {stream} te se w =
          let d : 4 + size - 4 ≡ size = omega arith in
          let t : table ≡ table_in input = te ∙ rw (d, z) in
          let s : stream ≡ blob_in input = se ∙ take_all (length input - (4 + size)) (drop (4 + size) input) (simp length-drop (omega arith)) ∙ rw z in
          let k : length (blob_in input) ≤ longest_blob = simp length-drop (omega arith) in
          let q = listed-is input cs ps begins whole k in
          let v : Written o (lines_in (table_in input) (blob_in input) cs ps) (most_in cs ps) n e = rw (t, s) at w in
          record { wrote = rw q v.wrote; short = rw q v.short }
