-- Worked joinings of three code tables: the two groupings are both refused, each with another number (wish 12: "the number possibly another").
use Prim.Native.Nat.{ℕ, zero, suc, ◌+◌}
use mathlib.Core.Path.{◌≡◌, refl}
use mathlib.Core.List.{List, [], ◌∷◌, ◌++◌}
use Rattle.rules.specs.Texts.{refuse}
use Rattle.rules.specs.Join.{join_exit}
use Rattle.rules.specs.Dump.{dump}
use Rattle.rules.proofs.OpenBytes.{bytes_open}
use Rattle.rules.proofs.OpenTables.{join_open}

-- first to second is tried first, or second to third; the third is never come to, whatever the room
abbrev Refused : List ℕ → List ℕ → List ℕ → ℕ → ℕ → Type 0
Refused first second third number number' = (out : List ℕ) → (join_exit first second out ≡ refuse number out) × (join_exit second third out ≡ refuse number' out)

-- ---- 17 against 16: the first two have two rows for 0x60, the third has another layout byte
pub seventeen-sixteen : Refused (dump "2A 00  01 00  00 00 00  01 00  60 36 00 00") (dump "2A 00  01 00  00 00 00  01 00  60 37 00 00") (dump "2B 00  00 00") 17 16
unfolding bytes_open join_open
seventeen-sixteen out = (refl, refl)

-- ---- 18 against 17
-- n entries of no rows, from code k on
abbrev entries : ℕ → ℕ → List ℕ
entries zero k = []
entries (suc n) k = 2 ∷ k ∷ 0 ∷ 0 ∷ 0 ∷ entries n (k + 1)

-- 64 entries; another, and a row for 0x60 in the form; another row for 0x60 there
pub eighteen-seventeen : Refused (dump "2A 00  40 00" ++ entries 64 0) (dump "2A 00  02 00  00 00 00  01 00  02 40 00  00 00  60 36 00 00") (dump "2A 00  01 00  00 00 00  01 00  60 37 00 00") 18 17
unfolding bytes_open join_open
eighteen-seventeen out = (refl, refl)
