-- The place of a number in an ascending list, as it is searched.
use mathlib.Core.Path.{◌≡◌, refl, ap, subst}
use mathlib.Core.Bool.{Bool, true, false}
use mathlib.Core.List.{List, [], ◌∷◌}
use Prim.Native.Nat.{ℕ, zero, suc, ◌+◌, ◌<◌, ◌≤◌, suc-le-suc}
use native.Mathlib.Nat.{zero-lt-suc, le_of_suc-le-suc, not-suc-le-zero}
use native.Mathlib.Omega.{arith}
use borrow.Author.Tests.{ltb-true, ltb-false, eq-eqb, ne_eqb}
use lib.Dec.{T, leb, ltb, leb→le}
use lib.ListN.{length, get_or}
use Rattle.std.specs.Prelude.{Result, Ok, Err, MatchResult}
use Rattle.std.specs.Result.{result_unwrap_or}
use Rattle.std.specs.Ordering.{nat_cmp}
use Rattle.std.specs.List.Sorted.{IsBinarySearchResult}
use Rattle.std.proofs.lemmas.List.Sorted.{searched}
use Rattle.rules.specs.Lists.{ascends}
use Rattle.names.specs.Lookup.{place_in}
use Rattle.names.proofs.Both.{left, right}

-- each number of an ascending list is at least what its test asks
least : (n : ℕ) (s : List ℕ) → T (ascends n s) → (k : ℕ) → k < length s → n ≤ get_or s k 0
unfolding ascends
least n [] t k h = absurd (not-suc-le-zero h)
least n (x ∷ s) t zero h = leb→le n x (left (leb n x) (ascends (x + 1) s) t)
least n (x ∷ s) t (suc k) h =
    omega (arith, leb→le n x (left (leb n x) (ascends (x + 1) s) t), least (x + 1) s (right (leb n x) (ascends (x + 1) s) t) k (le_of_suc-le-suc h))

-- and below all that come after it
pub rising : (n : ℕ) (s : List ℕ) → T (ascends n s) → (p q : ℕ) → p < q → q < length s → get_or s p 0 < get_or s q 0
unfolding ascends
rising n [] t p q l h = absurd (not-suc-le-zero h)
rising n (x ∷ s) t p zero l h = absurd (not-suc-le-zero l)
rising n (x ∷ s) t zero (suc q) l h = omega (arith, least (x + 1) s (right (leb n x) (ascends (x + 1) s) t) q (le_of_suc-le-suc h))
rising n (x ∷ s) t (suc p) (suc q) l h =
    rising (x + 1) s (right (leb n x) (ascends (x + 1) s) t) p q (le_of_suc-le-suc l) (le_of_suc-le-suc h)

placed-from : (s : List ℕ) (x i : ℕ) → i < length s → get_or s i 0 ≡ x → ((j : ℕ) → j < i → get_or s j 0 ≡ x → ⊥) → i ≡ place_in s x
unfolding place_in
placed-from [] x i h e n = absurd (not-suc-le-zero h)
placed-from (a ∷ s) x zero h e n = rw (eq-eqb a x e)
placed-from (a ∷ s) x (suc i) h e n =
    rw (ne_eqb a x (n 0 (zero-lt-suc i))) (ap suc (placed-from s x i (le_of_suc-le-suc h) e (λ j l. n (suc j) (suc-le-suc l))))

unplaced : (s : List ℕ) (x : ℕ) → ((j : ℕ) → j < length s → get_or s j 0 ≡ x → ⊥) → length s ≡ place_in s x
unfolding place_in
unplaced [] x n = refl
unplaced (a ∷ s) x n = rw (ne_eqb a x (n 0 (zero-lt-suc _))) (ap suc (unplaced s x (λ j l. n (suc j) (suc-le-suc l))))

-- nothing before `mid` is x
pub placed : (s : List ℕ) (x mid : ℕ) → T (ascends 0 s) → mid < length s → get_or s mid 0 ≡ x → mid ≡ place_in s x
placed s x mid asc inside e = placed-from s x mid inside e (λ j l f. omega (arith, rising 0 s asc j mid l inside))

-- what the library's search says of a list that ascends
module _ (s : List ℕ) (x : ℕ) (asc : T (ascends 0 s)) where
  in_order : (i j : ℕ) → i ≤ j → j < length s → get_or s i 0 ≤ get_or s j 0
  in_order i j l h = go (ltb i j) refl
    where
      go : (t : Bool) → ltb i j ≡ t → get_or s i 0 ≤ get_or s j 0
      go true e = let g = rising 0 s asc i j (ltb-true i j e) h in omega arith
      go false e = let g = ltb-false i j e in let q : i ≡ j = omega arith in subst (λ (n : ℕ). get_or s i 0 ≤ get_or s n 0) q (omega arith)

  found : (r : Result ℕ ℕ)
      → MatchResult r (λ i. (i < length s) × (get_or s i 0 ≡ x)) (λ i. (i ≤ length s) × ((k : ℕ) → k < i → get_or s k 0 < x) × ((k : ℕ) → i ≤ k → k < length s → x < get_or s k 0))
      → result_unwrap_or r (length s) ≡ place_in s x
  found (Ok i) m = placed s x i asc m.0 m.1
  found (Err i) m = unplaced s x (λ j l e. nowhere j l e (ltb j i) refl)
    where
      nowhere : (j : ℕ) → j < length s → get_or s j 0 ≡ x → (t : Bool) → ltb j i ≡ t → ⊥
      nowhere j l e true f = omega (arith, m.1 j (ltb-true j i f))
      nowhere j l e false f = omega (arith, m.2 j (ltb-false j i f) l)

  -- whatever was searched has to be that list
  pub sought : {part : List ℕ} (r : Result ℕ ℕ) → IsBinarySearchResult (λ y. nat_cmp y x) part r → part ≡ s → result_unwrap_or r (length s) ≡ place_in s x
  sought r p e = found r (searched s x r (subst (λ (part : List ℕ). IsBinarySearchResult (λ y. nat_cmp y x) part r) e p) in_order)
