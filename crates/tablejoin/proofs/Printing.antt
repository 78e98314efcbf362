-- What is printed is what is said of all that standard input had.
use Prim.Native.Nat.{ℕ, ◌+◌, ◌-◌, ◌≤◌, ◌<◌}
use native.Mathlib.Omega.{arith}
use mathlib.Core.Path.{◌≡◌, refl, sym, ◌∙◌}
use mathlib.Core.Bool.{Bool, true, false, cond, ◌&&◌, and-false}
use mathlib.Core.List.{List}
use borrow.Author.Tests.{lt-ltb, le-ltb, ltb-true, ltb-false}
use lib.Dec.{ltb}
use lib.ListN.{length, take, drop, length-drop}
use lib.Seq.{take_all, length-take-le}
use Rattle.rules.specs.Answer.{refusal, bad_table}
use Rattle.rules.specs.CodeTable.{well_formed_lem}
use Rattle.rules.specs.Listing.{answer_line, table_length, table_in, blob_in}
use Rattle.joinlaws.proofs.JoinedLaws.{at_most}
use Rattle.listing.proofs.Longest.{answer-short}
use Rattle.listing.proofs.Placed.{held}
use Rattle.text.specs.Writer.{Wrote}
use Rattle.tabletext.specs.Input.{Began}
use Rattle.tabletext.proofs.Told.{told}
use Rattle.tablejoin.specs.Said.{said, join_said}
use Rattle.tablejoin.proofs.Exits.{said-short, said_bad}

module _ (input : List ℕ) where
  pub input_short : length input < 4 → join_said input ≡ answer_line (refusal bad_table)
  unfolding join_said
  input_short h = rw (lt-ltb (length input) 4 h)

  module _ (begins : 4 ≤ length input) where
    pub input_cut : length input < 4 + table_length input → join_said input ≡ answer_line (refusal bad_table)
    unfolding join_said
    input_cut h = rw (le-ltb (length input) 4 begins, lt-ltb (length input) (4 + table_length input) h)

    input_whole : 4 + table_length input ≤ length input → join_said input ≡ said (table_in input) (blob_in input)
    unfolding join_said
    input_whole h = rw (le-ltb (length input) 4 begins, le-ltb (length input) (4 + table_length input) h)

    -- the tables of the input, as slices
    pub tables_wrote : (size : ℕ) → size ≡ table_length input → 4 + size ≤ length input → {one other o n : List ℕ} {e : ℕ}
        → one ≡ take (4 + size - 4) (drop 4 input) → other ≡ take (length input - (4 + size)) (drop (4 + size) input)
        → Wrote o 0 (said one other) n e → Wrote o 0 (join_said input) n e
    tables_wrote size z h {one} {other} oe te w =
        let l : 4 + table_length input ≤ length input = omega arith in
        let d : 4 + size - 4 ≡ size = omega arith in
        let a : one ≡ table_in input = oe ∙ rw (d, z) in
        let b : other ≡ blob_in input = te ∙ take_all (length input - (4 + size)) (drop (4 + size) input) (simp length-drop (omega arith)) ∙ rw z in
        rw (input_whole l) (rw (a, b) at w)

-- ---- input that fills the space
too_long : (t : List ℕ) → 65100 < length t → well_formed_lem t ≡ false
too_long t h = go (well_formed_lem t) refl
  where
    go : (b : Bool) → well_formed_lem t ≡ b → b ≡ false
    go true e = let l = at_most t e in absurd (omega arith)
    go false e = refl

-- one of two tables that have more than 130,200 bytes together
either-long : (t t' : List ℕ) (b : Bool) → ltb 65100 (length t) ≡ b → 130200 < length t + length t' → (well_formed_lem t && well_formed_lem t') ≡ false
either-long t t' true e h = rw (too_long t (ltb-true 65100 (length t) e))
either-long t t' false e h = let l = ltb-false 65100 (length t) e in rw (too_long t' (omega arith)) (and-false (well_formed_lem t))

input_long : (input : List ℕ) → 130205 ≤ length input → join_said input ≡ answer_line (refusal bad_table)
input_long input h = go (ltb (length input) (4 + table_length input)) refl
  where
    go : (b : Bool) → ltb (length input) (4 + table_length input) ≡ b → join_said input ≡ answer_line (refusal bad_table)
    go true e = input_cut input (omega arith) (ltb-true _ _ e)
    go false e =
        let l : 4 + table_length input ≤ length input = ltb-false _ _ e in
        let a : length (table_in input) ≡ table_length input = length-take-le (table_length input) (drop 4 input) (simp length-drop (omega arith)) in
        let b : length (blob_in input) ≡ length input - (4 + table_length input) = length-drop (4 + table_length input) input in
        input_whole input (omega arith) l ∙ said_bad (table_in input) (blob_in input) (either-long (table_in input) (blob_in input) _ refl (omega arith))

-- ---- printed
refusal-short : length (answer_line (refusal bad_table)) ≤ 65151
refusal-short = omega (arith, answer-short (refusal bad_table) (omega arith) (omega arith) (omega arith) (omega arith))

bounded : (input : List ℕ) → length (join_said input) ≤ 65151
unfolding join_said
bounded input = go (ltb (length input) 4) (ltb (length input) (4 + table_length input))
  where
    go : (a b : Bool) → length (cond a (answer_line (refusal bad_table)) (cond b (answer_line (refusal bad_table)) (said (table_in input) (blob_in input)))) ≤ 65151
    go true b = refusal-short
    go false true = refusal-short
    go false false = said-short (table_in input) (blob_in input)

pub all-printed : {room end : ℕ} {read old new : List ℕ} → 130204 < room → Wrote old 0 (join_said read) new end → 65151 ≤ length old
    → (all : List ℕ) → Began room read all → take end new ≡ join_said all
all-printed {read = read} r w h all b = held w (omega (arith, bounded read)) ∙ told 130204 (λ s t g k. input_long s (omega arith) ∙ sym (input_long t (omega arith))) r b
