-- A code table that has all that a code table can have: 65,100 bytes. No longer one is well formed (`at_most` of JoinedLaws).
use Prim.Native.Nat.{ℕ, zero, suc, ◌+◌}
use native.Mathlib.Omega.{arith}
use mathlib.Core.Path.{◌≡◌, refl}
use mathlib.Core.Bool.{true}
use mathlib.Core.List.{List, [], ◌∷◌, map}
use lib.Dec.{ltb, lit<}
use lib.ListN.{length}
use borrow.Author.Tests.{ltb-true}
use Rattle.rules.specs.Lists.{concat, all, ascends}
use Rattle.rules.specs.Bytes.{Bytes}
use Rattle.rules.specs.CodeTable.{Tie, Scope, key, ties_ok, scope_ok, row_count_lem, well_formed_lem}
use Rattle.rules.specs.Join.{table_bytes}
use Rattle.rules.proofs.ListLaws.{and_l, and_r, all_there}
use Rattle.joinlaws.proofs.TableBytesLaws.{Fits, length-table, table-formed}
use Rattle.joinlaws.proofs.JoinLaws.{code_fits_lem, good_fits}

-- n rows, with the ids from k on
unfoldable pub ties_from : ℕ → ℕ → List Tie
ties_from zero k = []
ties_from (suc n) k = record { id = k; target = 0; kind = 0 } ∷ ties_from n (k + 1)

-- n entries, with the codes from k on, each with every id
unfoldable pub scopes_from : ℕ → ℕ → List Scope
scopes_from zero k = []
scopes_from (suc n) k = record { kind = 2; code = k; rows = ties_from 253 0 } ∷ scopes_from n (k + 1)

-- all that document 01 lets stand in a table: four header codes, 64 scopes, 253 rows in each
abbrev pub codes : List ℕ
codes = 0 ∷ 1 ∷ 2 ∷ 3 ∷ []

unfoldable pub full : List Scope
full = scopes_from 64 0

unfoldable pub longest : List ℕ
longest = table_bytes 1 codes full

full_ok : all scope_ok full ≡ true
unfolding full scopes_from ties_from all ties_ok ascends
full_ok = refl

full_keys : ascends 0 (map key full) ≡ true
unfolding full scopes_from ascends
full_keys = refl

full_codes : all code_fits_lem full ≡ true
unfolding full scopes_from all
full_codes = refl

full_length : length full ≡ 64
unfolding full scopes_from
full_length = refl

full_rows : row_count_lem full ≡ 16192
unfolding full scopes_from ties_from row_count_lem
full_rows = refl

codes_ascend : ascends 0 codes ≡ true
unfolding ascends
codes_ascend = refl

small_codes : all (λ (c : ℕ). ltb c 65536) codes ≡ true
unfolding all
small_codes = refl

fits : Fits codes full
fits = good_fits codes full (record { keys = full_keys; ok = full_ok }) (let e = full_length in omega arith) (λ c m. ltb-true c 65536 (all_there (λ (n : ℕ). ltb n 65536) codes c small_codes m))
    (λ s m. ltb-true s.code 65536 (all_there code_fits_lem full s full_codes m))

pub longest-formed : well_formed_lem longest ≡ true
unfolding longest
longest-formed = table-formed 1 codes full fits (omega arith) (let e = full_length in omega arith) codes_ascend full_keys full_ok

pub longest-length : length longest ≡ 65100
unfolding longest
longest-length = let e = length-table 1 codes full in let n = full_length in let r = full_rows in omega arith

-- ---- bytes
all-bytes : (s : List ℕ) → all (λ (b : ℕ). ltb b 256) s ≡ true → Bytes s
unfolding all
all-bytes [] e i = lit< tt
all-bytes (b ∷ s) e zero = ltb-true b 256 (and_l (ltb b 256) (all (λ (c : ℕ). ltb c 256) s) e)
all-bytes (b ∷ s) e (suc i) = all-bytes s (and_r (ltb b 256) (all (λ (c : ℕ). ltb c 256) s) e) i

small_bytes : all (λ (b : ℕ). ltb b 256) longest ≡ true
unfolding longest full scopes_from ties_from table_bytes concat all
small_bytes = refl

pub longest-bytes : Bytes longest
longest-bytes = all-bytes longest small_bytes
