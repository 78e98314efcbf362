-- Two walks at once: which of them goes on is told by the numbers that stand next, and each way is a turn of the merge.
use Prim.Native.Nat.{ℕ, zero, suc, ◌+◌, ◌≤◌, ◌<◌}
use native.Mathlib.Omega.{arith}
use mathlib.Core.Path.{◌≡◌, refl, sym, ap, ◌∙◌}
use mathlib.Core.Bool.{Bool, true, false, ◌||◌}
use mathlib.Core.List.{List, [], ◌∷◌}
use mathlib.Core.Logic.{◌⊎◌, inl, inr}
use lib.Dec.{ltb, eqb}
use borrow.Author.Tests.{lt-ltb, ltb-true, ltb-false, eqb-true, eqb-false}
use Rattle.rules.specs.Lists.{merge, agree}
use Rattle.rules.proofs.ListLaws.{and_l, and_r}
use Rattle.joinlaws.proofs.MergeLaws.{or_which, Ascends}
use Rattle.joinlaws.proofs.JoinTurns.{Turn, turn_low, turn-high, turn-same, turn-front, turn-back}
use Rattle.join.specs.Walk.{alone}

-- ---- what the test tells
or_neither : (a b : Bool) → (a || b) ≡ false → (a ≡ false) × (b ≡ false)
or_neither false b e = (refl, e)
or_neither true b e = absurd (let z : ◌≡◌ {A = ℕ} 0 1 = cc in omega arith)

more : (k : ℕ) → (k ≡ 0 → ⊥) → 0 < k
more zero z = absurd (z refl)
more (suc k) z = omega arith

-- a walk that has something left and doesn't go on by itself
record NotAlone (x n y : ℕ) : Type 0 where
  others : 0 < n
  not_less : y ≤ x

module _ (m x n y : ℕ) where
  pub alone-more : alone m x n y ≡ true → 0 < m
  unfolding alone
  alone-more e = ltb-true 0 m (and_l (ltb 0 m) (eqb n 0 || ltb x y) e)

  alone_less : alone m x n y ≡ true → (n ≡ 0) ⊎ (x < y)
  unfolding alone
  alone_less e = go (or_which (eqb n 0) (ltb x y) (and_r (ltb 0 m) (eqb n 0 || ltb x y) e))
    where
      go : (eqb n 0 ≡ true) ⊎ (ltb x y ≡ true) → (n ≡ 0) ⊎ (x < y)
      go (inl h) = inl (eqb-true n 0 h)
      go (inr h) = inr (ltb-true x y h)

  not_alone : 0 < m → alone m x n y ≡ false → NotAlone x n y
  unfolding alone
  not_alone h e =
      let f : (eqb n 0 || ltb x y) ≡ false = rw (lt-ltb 0 m h) at e in
      let g = or_neither (eqb n 0) (ltb x y) f in
      let z : n ≡ 0 → ⊥ = eqb-false n 0 g.0 in
      let l : y ≤ x = ltb-false x y g.1 in
      record { others = more n z; not_less = l }

-- neither goes on by itself: both do
pub record Both (m x n y : ℕ) : Type 0 where
  pub first : 0 < m
  pub second : 0 < n
  pub same : x ≡ y

pub both : (m x n y : ℕ) → 0 < m + n → alone m x n y ≡ false → alone n y m x ≡ false → Both m x n y
both zero x n y h e g = let k = not_alone n y zero x (omega arith) g in absurd (omega arith)
both (suc m) x n y h e g =
    let k = not_alone (suc m) x n y (omega arith) e in
    let l = not_alone n y (suc m) x k.others g in
    record { first = omega arith; second = k.others; same = omega arith }

-- ---- the turns
-- m elements are left, xs: where there is one, x is the next, i its number, and xs' what follows
pub record Front {A : Type 0} (f : A → ℕ) (m i : ℕ) (x : A) (xs xs' : List A) : Type 0 where
  pub number : i ≡ f x
  pub next : 0 < m → xs ≡ x ∷ xs'
  pub end : m ≡ 0 → xs ≡ []
  pub ascend : Ascends f 0 xs

up : {A : Type 0} {f : A → ℕ} {m i : ℕ} {x : A} {xs xs' : List A} → Front f m i x xs xs' → 0 < m → Ascends f 0 (x ∷ xs')
up F h = rw (F.next h) at F.ascend

zero_or : (n : ℕ) → (n ≡ 0) ⊎ (0 < n)
zero_or zero = inl refl
zero_or (suc n) = inr (omega arith)

module _ {A : Type 0} {f : A → ℕ} {c : A → A → A} {p : A → A → Bool} {m n i j : ℕ} {x y : A} {xs xs' ys ys' : List A}
    (cf : (x y : A) → f x ≡ f y → f (c x y) ≡ f x) (F : Front f m i x xs xs') (G : Front f n j y ys ys') where
  pub first-turn : alone m i n j ≡ true → Turn f c p xs ys x true xs' ys
  first-turn e = go (zero_or n) (alone_less m i n j e)
    where
      more : 0 < m
      more = alone-more m i n j e

      go : (n ≡ 0) ⊎ (0 < n) → (n ≡ 0) ⊎ (i < j) → Turn f c p xs ys x true xs' ys
      go (inl z) l = rw (F.next more, G.end z) (turn-front f c p cf x xs' (up F more))
      go (inr h) (inl z) = absurd (omega arith)
      go (inr h) (inr l) = rw (F.next more, G.next h) (turn_low f c p cf x y xs' ys' (omega (arith, F.number, G.number)) (up F more) (up G h))

  pub second-turn : alone n j m i ≡ true → Turn f c p xs ys y true xs ys'
  second-turn e = go (zero_or m) (alone_less n j m i e)
    where
      more : 0 < n
      more = alone-more n j m i e

      go : (m ≡ 0) ⊎ (0 < m) → (m ≡ 0) ⊎ (j < i) → Turn f c p xs ys y true xs ys'
      go (inl z) l = rw (G.next more, F.end z) (turn-back f c p cf y ys' (up G more))
      go (inr h) (inl z) = absurd (omega arith)
      go (inr h) (inr l) = rw (G.next more, F.next h) (turn-high f c p cf x y xs' ys' (omega (arith, F.number, G.number)) (up F h) (up G more))

  pub both_turn : Both m i n j → Turn f c p xs ys (c x y) (p x y) xs' ys'
  both_turn h =
      rw (F.next h.first, G.next h.second)
      (turn-same f c p cf x y xs' ys' (sym F.number ∙ h.same ∙ G.number) (up F h.first) (up G h.second))

-- the same turn, by other names for what it takes and finds
pub turn_as : {A : Type 0} {f : A → ℕ} {c : A → A → A} {p : A → A → Bool} {xs ys xs' ys' : List A} {z w : A} {t u : Bool}
    → Turn f c p xs ys z t xs' ys' → z ≡ w → t ≡ u → Turn f c p xs ys w u xs' ys'
turn_as T e g = rw (← e, ← g) T

-- ---- at the end of one walk the other goes on as it is
module _ {A : Type 0} (f : A → ℕ) (c : A → A → A) (p : A → A → Bool) (cf : (x y : A) → f x ≡ f y → f (c x y) ≡ f x) where
  pub merge-end : (xs : List A) → Ascends f 0 xs → merge f c xs [] ≡ xs
  unfolding merge
  merge-end [] a = refl
  merge-end (x ∷ xs) a = let T = turn-front f c p cf x xs a in T.merged ∙ ap (λ (l : List A). x ∷ l) (merge-end xs T.front)

  pub agree-end : (xs : List A) → Ascends f 0 xs → agree f p xs [] ≡ true
  unfolding agree Rattle.rules.specs.Lists.all
  agree-end [] a = refl
  agree-end (x ∷ xs) a = let T = turn-front f c p cf x xs a in T.agreed ∙ agree-end xs T.front
