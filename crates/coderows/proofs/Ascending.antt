-- Lists whose numbers ascend: parts of them, and looking up by halves.
use Prim.Native.Nat.{ℕ, ◌+◌, ◌<◌}
use mathlib.Core.Path.{◌≡◌, refl, ap}
use mathlib.Core.List.Memᴰ
use mathlib.Core.List.{List, [], ◌∷◌, ◌++◌, map}
use mathlib.Core.Bool.{true, cond}
use mathlib.Core.Option.{some}
use native.Mathlib.Omega.{arith}
use lib.Dec.{eqb}
use borrow.Author.Tests.{ne_eqb}
use Rattle.rules.specs.Lists.{find, ascends}
use Rattle.rules.proofs.ListLaws.{ascends-head, ascends-least}
use Rattle.joinlaws.proofs.MergeLaws.{ascends_cons, ascends-from, at_none}
use Rattle.coderows.specs.Look.{find_by}

module _ {A : Type 0} (f : A → ℕ) where
  pub front-ascends : (least : ℕ) (xs ys : List A) → ascends least (map f (xs ++ ys)) ≡ true → ascends least (map f xs) ≡ true
  unfolding ascends
  front-ascends least [] ys e = refl
  front-ascends least (x ∷ xs) ys e =
      let a = ascends-head f least x (xs ++ ys) e in
      ascends_cons f least x xs a.0 (front-ascends (f x + 1) xs ys a.1)

  pub back-ascends : (least : ℕ) (xs ys : List A) → ascends least (map f (xs ++ ys)) ≡ true → ascends 0 (map f ys) ≡ true
  back-ascends least [] ys e = ascends-from f least 0 ys (omega arith) e
  back-ascends least (x ∷ xs) ys e = back-ascends (f x + 1) xs ys (ascends-head f least x (xs ++ ys) e).1

  -- what is above y stands after it
  pub find-back : (least k : ℕ) (xs : List A) (y : A) (ys : List A) → ascends least (map f (xs ++ y ∷ ys)) ≡ true → f y < k → find_by f k (xs ++ y ∷ ys) ≡ find_by f k ys
  unfolding find
  find-back least k [] y ys e h = rw (ne_eqb (f y) k (λ q. omega arith))
  find-back least k (x ∷ xs) y ys e h =
      let a = ascends-head f least x (xs ++ y ∷ ys) e in
      let b = ascends-least f (f x + 1) (xs ++ y ∷ ys) y a.1 (Memᴰ.append_right xs (Memᴰ.head refl)) in
      rw (ne_eqb (f x) k (λ q. omega arith)) (find-back (f x + 1) k xs y ys a.1 h)

  -- what is below y stands before it
  pub find-front : (least k : ℕ) (xs : List A) (y : A) (ys : List A) → ascends least (map f (xs ++ y ∷ ys)) ≡ true → k < f y → find_by f k (xs ++ y ∷ ys) ≡ find_by f k xs
  unfolding find
  find-front least k [] y ys e h =
      rw (ne_eqb (f y) k (λ q. omega arith)) (at_none f (f y + 1) k ys (ascends-head f least y ys e).1 (omega arith))
  find-front least k (x ∷ xs) y ys e h =
      ap (cond (eqb (f x) k) (some x)) (find-front (f x + 1) k xs y ys (ascends-head f least x (xs ++ y ∷ ys) e).1 h)
