-- Words chosen by a number, in a match on numbers in a row: what the last arm knows and writes, and how long the words are.
use mathlib.Core.Path.{◌≡◌, sym}
use mathlib.Core.List.{List, [], ◌∷◌}
use mathlib.Core.Bool.{true}
use Prim.Native.Nat.{ℕ, zero, suc, ◌+◌, ◌≤◌}
use native.Mathlib.Omega.{arith}
use borrow.Author.Tests.{leb-true}
use lib.Dec.{leb}
use lib.ListN.{length, get_or, get_or-eq_default}
use Rattle.rules.specs.Lists.{all}
use Rattle.rules.proofs.ListLaws.{and_l, and_r}
use Rattle.text.specs.Writer.{Wrote}
use Rattle.text.proofs.Chain.{wrote_as}

-- in the last arm of a match on a, a + 1, .. the number is none of those k
abbrev pub NoneOf : ℕ → ℕ → ℕ → Type 0
NoneOf a zero n = Unit {0}
NoneOf a (suc k) n = NoneOf a k n × (n ≡ a + k → ⊥)

pub above : (a k n : ℕ) → a ≤ n → NoneOf a k n → a + k ≤ n
above a zero n h p = omega arith
above a (suc k) n h p = let g : a + k ≤ n = above a k n h p.0 in let d : (n ≡ a + k → ⊥) = p.1 in omega arith

-- of a match on 0, 1, ..
pub past : (k n : ℕ) → NoneOf 0 k n → k ≤ n
past k n p = omega (arith, above 0 k n (omega arith) p)

pub last_arm : {o n : List ℕ} {a r : ℕ} (k : ℕ) (xs : List (List ℕ)) (other : List ℕ) → length xs ≤ k → Wrote o a other n r → Wrote o a (get_or xs k other) n r
last_arm k xs other h w = wrote_as w (sym (get_or-eq_default xs other h))

-- ---- how long the words are
-- each of a list of texts has at most n bytes
infixr 5 ◌also◌
pub data Short (n : ℕ) : List (List ℕ) → Type 0 where
  no_more : Short n []
  ◌also◌ : {x : List ℕ} {xs : List (List ℕ)} → length x ≤ n → Short n xs → Short n (x ∷ xs)

pub all_short : (n : ℕ) (xs : List (List ℕ)) → all (λ (t : List ℕ). leb (length t) n) xs ≡ true → Short n xs
unfolding all
all_short n [] e = no_more
all_short n (x ∷ xs) e = leb-true (length x) n (and_l (leb (length x) n) _ e) also all_short n xs (and_r (leb (length x) n) _ e)

pub one-short : {n : ℕ} {xs : List (List ℕ)} (other : List ℕ) → Short n xs → length other ≤ n → (k : ℕ) → length (get_or xs k other) ≤ n
one-short other no_more h zero = h
one-short other no_more h (suc k) = h
one-short other (l also s) h zero = l
one-short other (l also s) h (suc k) = one-short other s h k
