-- Worked answers of a Blob: the refusals of "Answer numbers", in their order.
use Prim.Native.Nat.{ℕ, ◌≤◌, ◌<◌}
use native.Mathlib.Omega.{arith}
use mathlib.Core.Path.{◌≡◌, refl}
use mathlib.Core.Bool.{true}
use mathlib.Core.List.{List, [], ◌∷◌, ◌++◌}
use borrow.Author.Tests.{lt-ltb, le-ltb}
use lib.ListN.{length, replicate}
use Rattle.rules.specs.Answer.{answer, refusal, longest}
use Rattle.rules.specs.CodeTable.{well_formed_lem}
use Rattle.rules.specs.Blob.{reading_of, fit, outcome, exit, exit2000, exit_later}
use Rattle.rules.specs.Dump.{dump}
use Rattle.rules.specs.Examples.{old, table, blob}
use Rattle.rules.proofs.OpenStreams.{blob_open}
use Rattle.rules.proofs.WorkedLater.{unfit}

-- a code table that isn't well formed, and the least that is, whose layout byte is 0
abbrev bad_table : List ℕ
bad_table = dump "2A"

abbrev least_table : List ℕ
least_table = dump "00 00  00 00"

-- streams: the first byte of an Access 2000 one; K1's with a byte more; nothing; 13 bytes of a later one
abbrev first_byte : List ℕ
first_byte = dump "2A"

abbrev blob_and_more : List ℕ
blob_and_more = blob ++ dump "00"

abbrev nothing : List ℕ
nothing = []

abbrev thirteen : List ℕ
thirteen = dump "2B" ++ replicate 12 0x00

-- 8 before 4, and before the layout is asked
pub refused_8 : exit bad_table first_byte [] [] ≡ record { answer = refusal 8; controls = []; properties = [] }
unfolding blob_open
refused_8 = refl

pub refused_8_later : (exit bad_table unfit [] []).answer ≡ refusal 8
unfolding blob_open
refused_8_later = refl

-- 4 before 6
pub refused_4 : exit table first_byte (old ∷ []) (old ∷ []) ≡ record { answer = refusal 4; controls = old ∷ []; properties = old ∷ [] }
unfolding blob_open
refused_4 = refl

pub refused_4_more : (exit table blob_and_more [] []).answer ≡ refusal 4
unfolding blob_open
refused_4_more = refl

-- 6 before 7: fifteen words have room for one control; 17 have room for two properties
pub refused_6 : exit table blob (replicate 15 old) [] ≡ record { answer = answer 6 2 3 1; controls = replicate 15 old; properties = [] }
unfolding blob_open
refused_6 = refl

pub refused_7 : exit table blob (replicate 16 old) (replicate 17 old) ≡ record { answer = answer 7 2 3 1; controls = replicate 16 old; properties = replicate 17 old }
unfolding blob_open
refused_7 = refl

-- what is of the later layout is read, under 14 bytes as nothing
pub reads_nothing : (exit table nothing [] []).answer ≡ refusal 0
unfolding blob_open
reads_nothing = refl

pub reads-nothing-by_0 : (exit least_table nothing [] []).answer ≡ refusal 0
unfolding blob_open
reads-nothing-by_0 = refl

pub reads-thirteen : (exit table thirteen [] []).answer ≡ refusal 0
unfolding blob_open
reads-thirteen = refl

-- ---- a reader for each layout (wish 8)
-- the Access 2000 reader: 8 before 15; 15 for a later stream and for none; 4 of its own; else what the choice gives
pub reader_2000 :
    ((exit2000 bad_table thirteen [] []).answer ≡ refusal 8)
    × (exit2000 table thirteen (old ∷ []) (old ∷ []) ≡ record { answer = refusal 15; controls = old ∷ []; properties = old ∷ [] })
    × ((exit2000 table nothing [] []).answer ≡ refusal 15)
    × ((exit2000 least_table nothing [] []).answer ≡ refusal 15)
    × ((exit2000 table first_byte [] []).answer ≡ refusal 4)
    × ((exit2000 table blob (replicate 15 old) []).answer ≡ answer 6 2 3 1)
    × ((exit2000 table blob (replicate 16 old) (replicate 17 old)).answer ≡ answer 7 2 3 1)
    × (exit2000 table blob (replicate 16 old) (replicate 18 old) ≡ exit table blob (replicate 16 old) (replicate 18 old))
unfolding blob_open
reader_2000 = (refl, refl, refl, refl, refl, refl, refl, refl)

-- the later reader, told the layout byte: 15 for a stream that begins with it, before 6; never for none, nor where the number is above 255
pub reader_later :
    (exit_later 0x2A blob (old ∷ []) (old ∷ []) ≡ record { answer = refusal 15; controls = old ∷ []; properties = old ∷ [] })
    × ((exit_later 0 unfit [] []).answer ≡ refusal 15)
    × ((exit_later 0x2A nothing [] []).answer ≡ refusal 0)
    × ((exit_later 0 nothing [] []).answer ≡ refusal 0)
    × ((exit_later 0x2A thirteen [] []).answer ≡ refusal 0)
    × ((exit_later 0x2B thirteen [] []).answer ≡ refusal 15)
    × ((exit_later 0x12B thirteen [] []).answer ≡ refusal 0)
    × (exit_later 0x2A unfit [] [] ≡ exit table unfit [] [])
unfolding blob_open
reader_later = (refl, refl, refl, refl, refl, refl, refl, refl)

-- the longest stream that is read has 16,777,216 bytes
pub too_long : (t s cs ps : List ℕ) → 16777216 < length s → (exit t s cs ps).answer ≡ refusal 5
unfolding exit outcome
too_long t s cs ps h = rw (lt-ltb longest (length s) (omega arith))

pub not_too_long : (t s : List ℕ) (c p : ℕ) → length s ≤ 16777216 → well_formed_lem t ≡ true → outcome t s c p ≡ fit c p (reading_of t s)
unfolding outcome
not_too_long t s c p h w = rw (le-ltb longest (length s) (omega arith), w)
