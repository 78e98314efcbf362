-- A run, a property at a time: the bound on the number of properties does not matter.
use Prim.Native.Nat.{ℕ, zero, suc, ◌+◌, ◌≤◌, ◌<◌}
use native.Mathlib.Omega.{arith}
use mathlib.Core.Path.{◌≡◌, refl, ap}
use mathlib.Core.Bool.{false, cond}
use mathlib.Core.List.{List, [], ◌∷◌}
use mathlib.Core.Option.{Option, some}
use lib.Dec.{leb, eqb}
use lib.ListN.{length}
use borrow.Author.Tests.{le-ltb, leb-true}
use Rattle.rules.specs.Lists.{◌>>=◌}
use Rattle.rules.specs.Bytes.{byte, byte_at, half_at_lem}
use Rattle.rules.specs.Access2000.{Prop, length_at, extent_at, property_at, goes_on_lem, run_of, run_at}
use Rattle.rules.proofs.ListLaws.{Every, every_if, every_then, every_when, then_same}

-- a value starts at p or later
abbrev From : ℕ → ℕ × ℕ → Type 0
From p x = p ≤ x.0

length_from : (s : List ℕ) (p : ℕ) → Every (From p) (length_at s p)
unfolding length_at
length_from s p =
    every_when (From p) (byte_at s p) _ λ n _.
    every_if (From p) (eqb n 0xFF) _ _ (λ _. every_when (From p) (half_at_lem s (p + 1)) _ λ m _. omega arith) λ _. omega arith

pub extent-from : (s : List ℕ) (id p : ℕ) → Every (From p) (extent_at s id p)
unfolding extent_at
extent-from s id p =
    every_if (From p) (leb id 0x2F) _ _ (λ _. omega arith) λ _.
    every_if (From p) (leb id 0x5F) _ _ (λ _. omega arith) λ _.
    every_if (From p) (leb id 0x7F) _ _ (λ _. omega arith) λ _.
    every_if (From p) (leb id 0xBC) _ _ (λ _. omega arith) λ _. length_from s p

-- a property ends past p, and within the stream
abbrev pub Within : List ℕ → ℕ → Prop → Type 0
Within s p q = (p < q.start + q.size) × (q.start + q.size ≤ length s)

pub property-within : (s : List ℕ) (p : ℕ) → Every (Within s p) (property_at s p)
unfolding property_at
property-within s p =
    every_then (From (p + 1)) (Within s p) (extent_at s (byte s p) (p + 1)) _ (extent-from s (byte s p) (p + 1)) λ x h.
    every_if (Within s p) (leb (x.0 + x.1) (length s)) _ _ (λ t. let l : x.0 + x.1 ≤ length s = leb-true _ _ t in omega arith) λ _. tt

pub past_end : (s : List ℕ) (p : ℕ) → length s ≤ p → goes_on_lem s p ≡ false
unfolding goes_on_lem
past_end s p h = rw (le-ltb p (length s))

-- what comes after the property q
abbrev pub after : (ℕ → Option (List Prop × ℕ)) → Prop → Option (List Prop × ℕ)
after rest q = rest (q.start + q.size) >>= λ x. some (q ∷ x.0, x.1)

enough : (k j : ℕ) (s : List ℕ) (p : ℕ) → length s ≤ k + p → length s ≤ j + p → run_of k s p ≡ run_of j s p
unfolding run_of
enough zero zero s p hk hj = refl
enough zero (suc j) s p hk hj = rw (past_end s p (omega arith))
enough (suc k) zero s p hk hj = rw (past_end s p (omega arith))
enough (suc k) (suc j) s p hk hj =
    ap (λ t. cond (goes_on_lem s p) t (some ([], p)))
    (then_same (Within s p) (property_at s p) (after (run_of k s)) (after (run_of j s)) (property-within s p) λ q h.
    ap (λ o. o >>= λ x. some (q ∷ x.0, x.1)) (enough k j s (q.start + q.size) (omega arith) (omega arith)))

pub run_step : (s : List ℕ) (p : ℕ) → run_at s p ≡ cond (goes_on_lem s p) (property_at s p >>= after (run_at s)) (some ([], p))
unfolding run_at run_of
run_step s p = enough (length s) (suc (length s)) s p (omega arith) (omega arith)
