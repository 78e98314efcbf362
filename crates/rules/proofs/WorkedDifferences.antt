-- Worked examples of what a newer code table changes, by computation.
use Prim.Native.Nat.{ℕ}
use mathlib.Core.Path.{◌≡◌, refl}
use mathlib.Core.List.{List, [], ◌∷◌, ◌++◌}
use lib.ListN.{replicate}
use Rattle.rules.specs.Answer.{answer, refusal}
use Rattle.rules.specs.Dump.{dump}
use Rattle.rules.specs.Examples.{old, table}
use Rattle.rules.specs.Differences.{DifferencesExit, differences_exit}
use Rattle.rules.specs.declared.Answer.{Answer}
use Rattle.rules.proofs.OpenDifferences.{differences_open}

-- `table` is K1's: of entry 0x64 the codes 0x60 and 0xDC. This one has learned two codes more
abbrev newer : List ℕ
newer =
    dump "2A 00  02 00"  -- layout byte; no header code; two scopes
    ++ dump "00 00 00  01 00"  -- form: one row
    ++ dump "02 64 00  03 00"  -- entry 0x64: three rows
    ++ dump "32  2D 00  00"  -- form: 0x32 Number
    ++ dump "60  36 00  00"  -- 0x64: 0x60 Number
    ++ dump "DC  14 00  01"  -- 0xDC Text
    ++ dump "E0  1B 00  01"  -- 0xE0 Text: ControlSource

abbrev stream : List ℕ
stream =
    dump "2A" ++ replicate 9 0x00  -- layout byte; a form
    ++ dump "31 05  32 06"  -- the object: a code that neither table has, and the one that was learned
    ++ dump "FE 98 00  32 07"  -- entry 0x98: the same code in a scope that neither has
    ++ dump "FE 64 00  60 FF FF  DC 02 41 00  E0 02 42 00  FD"  -- entry 0x64: two that both have, and the other one that was learned

abbrev refused : Answer → List ℕ → DifferencesExit
refused a rows = record { answer = a; rows = rows }

-- two of six properties: the object's second, and the third of control 1
pub two-differ : differences_exit table newer stream (replicate 23 old) ≡ record {
  answer = answer 0 2 6 0;
  rows = 1 ∷ 0xFFFFFFFF ∷ 0x32 ∷ 0 ∷ 0 ∷ 0x8032 ∷ 0x2D ∷ 2 ∷ 13 ∷ 1
      ∷ 5 ∷ 1 ∷ 0xE0 ∷ 2 ∷ 0x64 ∷ 0x80E0 ∷ 0x1B ∷ 6 ∷ 31 ∷ 2
      ∷ old ∷ old ∷ old ∷ [];
}
unfolding differences_open
two-differ = refl

-- the same table twice; a later stream, of one byte
pub none_differ :
    (differences_exit newer newer stream (replicate 9 old) ≡ refused (answer 0 0 6 0) (replicate 9 old))
    × (differences_exit table newer (dump "00") [] ≡ refused (answer 0 0 0 0) [])
unfolding differences_open
none_differ = (refl, refl)

-- nineteen words are room for one row
pub no_room : differences_exit table newer stream (replicate 19 old) ≡ refused (answer 6 2 6 0) (replicate 19 old)
unfolding differences_open
no_room = refl

-- 8 for either table, and before 19; 19 before 4
pub refusals :
    (differences_exit (dump "2A") newer stream [] ≡ refused (refusal 8) [])
    × (differences_exit table (dump "2A") stream [] ≡ refused (refusal 8) [])
    × (differences_exit newer table (dump "2A") [] ≡ refused (refusal 19) [])
    × (differences_exit table newer (dump "2A") [] ≡ refused (refusal 4) [])
unfolding differences_open
refusals = (refl, refl, refl, refl)

-- 19: another layout byte; a header code; 0xDC with another target, with another kind, in another scope; no 0x60
pub no_successors :
    (differences_exit table (dump "2B 00 01 00  02 64 00 02 00  60 36 00 00  DC 14 00 01") stream [] ≡ refused (refusal 19) [])
    × (differences_exit table (dump "2A 01 01 00  99 00  02 64 00 02 00  60 36 00 00  DC 14 00 01") stream [] ≡ refused (refusal 19) [])
    × (differences_exit table (dump "2A 00 01 00  02 64 00 02 00  60 36 00 00  DC 15 00 01") stream [] ≡ refused (refusal 19) [])
    × (differences_exit table (dump "2A 00 01 00  02 64 00 02 00  60 36 00 00  DC 14 00 02") stream [] ≡ refused (refusal 19) [])
    × (differences_exit table (dump "2A 00 01 00  02 65 00 02 00  60 36 00 00  DC 14 00 01") stream [] ≡ refused (refusal 19) [])
    × (differences_exit table (dump "2A 00 01 00  02 64 00 01 00  DC 14 00 01") stream [] ≡ refused (refusal 19) [])
unfolding differences_open
no_successors = (refl, refl, refl, refl, refl, refl)
