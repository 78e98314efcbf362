-- What is printed is what is said of all that standard input had.
use Prim.Native.Nat.{ℕ, ◌+◌, ◌-◌, ◌≤◌, ◌<◌}
use native.Mathlib.Omega.{arith}
use mathlib.Core.Path.{◌≡◌, refl, ap, subst, ◌∙◌}
use mathlib.Core.List.{List}
use borrow.Author.Tests.{lt-ltb, le-ltb}
use lib.ListN.{length, take, drop, length-drop}
use lib.Seq.{take_all}
use Rattle.rules.specs.Answer.{refusal, bad_table}
use Rattle.rules.specs.Listing.{answer_line}
use Rattle.rules.specs.Totals.{totals_exit}
use Rattle.listing.proofs.Longest.{answer-short}
use Rattle.listing.specs.Written.{Written}
use Rattle.rules.specs.declared.Totals.{Totals}
use Rattle.rules.specs.declared.Totalled.{Totalled}
use Rattle.text.specs.Writer.{Wrote}
use Rattle.text.proofs.Chain.{◌⨟◌}
use Rattle.tabletext.specs.Input.{Began}
use Rattle.tabletext.proofs.Told.{first-printed}
use Rattle.totalling.specs.Counted.{record_in, control_room_in, property_room_in, table_length_in, table_in, stream_in, record_bytes, said, counted, most_read, most_said, counted_of_lem}

said-wrote : (r : Totalled) {o m n : List ℕ} {q e : ℕ} → Wrote o 0 (answer_line r.answer) m q → Wrote m q (record_bytes r.totals) n e → Wrote o 0 (said r) n e
unfolding said
said-wrote r a b = a ⨟ b

-- ---- by what the input has
refusal-short : length (answer_line (refusal bad_table)) ≤ most_said
refusal-short = omega (arith, answer-short (refusal bad_table) (omega arith) (omega arith) (omega arith) (omega arith))

module _ (input : List ℕ) where
  input_short : length input < 204 → counted input ≡ answer_line (refusal bad_table)
  unfolding counted
  input_short h = rw (lt-ltb (length input) 204 h)

  pub short-written : {o n : List ℕ} {e : ℕ} → length input < 204 → Wrote o 0 (answer_line (refusal bad_table)) n e → Written o (counted input) most_said n e
  short-written h w = rw (input_short h) (record { wrote = w; short = refusal-short })

  module _ (begins : 204 ≤ length input) where
    input_cut : length input < 204 + table_length_in input → counted input ≡ answer_line (refusal bad_table)
    unfolding counted
    input_cut h = rw (le-ltb (length input) 204 begins, lt-ltb (length input) (204 + table_length_in input) h)

    pub cut-written : {o n : List ℕ} {e : ℕ} → length input < 204 + table_length_in input → Wrote o 0 (answer_line (refusal bad_table)) n e → Written o (counted input) most_said n e
    cut-written h w = rw (input_cut h) (record { wrote = w; short = refusal-short })

    input_whole : 204 + table_length_in input ≤ length input
        → counted input ≡ said (totals_exit (record_in input) (table_in input) (stream_in input) (control_room_in input) (property_room_in input))
    unfolding counted
    input_whole h = rw (le-ltb (length input) 204 begins, le-ltb (length input) (204 + table_length_in input) h)

    -- the table and the stream of the input, as slices
    pub whole-written : (size : ℕ) → size ≡ table_length_in input → 204 + size ≤ length input → {table stream o n : List ℕ} {e : ℕ}
        → table ≡ take (204 + size - 204) (drop 204 input) → stream ≡ take (length input - (204 + size)) (drop (204 + size) input)
        → Written o (said (totals_exit (record_in input) table stream (control_room_in input) (property_room_in input))) most_said n e → Written o (counted input) most_said n e
    whole-written size z h {table} {stream} te se w =
        let l : 204 + table_length_in input ≤ length input = omega arith in
        let d : 204 + size - 204 ≡ size = omega arith in
        let a : table ≡ table_in input = te ∙ rw (d, z) in
        let b : stream ≡ stream_in input = se ∙ take_all (length input - (204 + size)) (drop (204 + size) input) (simp length-drop (omega arith)) ∙ rw z in
        rw (input_whole l) (rw (a, b) at w)

-- ---- what is said of a stream
module _ (input t s : List ℕ) {old : Totals} {c p : ℕ} {r : Totalled} (oe : old ≡ record_in input) (ce : c ≡ control_room_in input) (pe : p ≡ property_room_in input) (re : r ≡ totals_exit old t s c p) where
  same-exit : r ≡ totals_exit (record_in input) t s (control_room_in input) (property_room_in input)
  same-exit = re ∙ ap (λ (x : Totals). totals_exit x t s c p) oe ∙ ap (λ (n : ℕ). totals_exit (record_in input) t s n p) ce ∙ ap (λ (n : ℕ). totals_exit (record_in input) t s (control_room_in input) n) pe

  pub said-written : {o m n : List ℕ} {q e : ℕ} → Wrote o 0 (answer_line r.answer) m q → Wrote m q (record_bytes r.totals) n e → length (said r) ≤ most_said
      → Written o (said (totals_exit (record_in input) t s (control_room_in input) (property_room_in input))) most_said n e
  said-written {o} {n = n} {e = e} a b h = subst (λ (x : Totalled). Written o (said x) most_said n e) same-exit (record { wrote = said-wrote r a b; short = h })

-- ---- of the input no more than what is read counts
pub all-printed : {read old new : List ℕ} {end : ℕ} → Written old (counted read) most_said new end → most_said ≤ length old → length read ≤ most_read
    → (all : List ℕ) → Began most_read read all → take end new ≡ counted_of_lem all
unfolding counted_of_lem
all-printed w h l = first-printed counted w h refl l
