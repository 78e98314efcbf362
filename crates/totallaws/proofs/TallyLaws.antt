-- Tallies: where each has one key, the tally adds up to how many there are.
use Prim.Native.Nat.{ℕ, zero, suc, ◌+◌, ◌≤◌, ◌<◌}
use native.Mathlib.Omega.{arith}
use mathlib.Core.Path.{◌≡◌, refl, sym, ap, ap₂, ◌∙◌}
use mathlib.Core.Bool.{Bool, true, false, not, cond}
use mathlib.Core.List.{List, [], ◌∷◌, ◌++◌, map, Memᴰ}
use lib.ListN.{length, get_or, set}
use Rattle.rules.specs.Lists.{how_many, tally, add_up}
use Rattle.rules.specs.Totals.{sums}

pub false_true : {X : Type 0} → false ≡ true → X
false_true e = absurd (let z : ◌≡◌ {A = ℕ} 0 1 = cc in omega arith)

-- ---- how many
pub many-append : {A : Type 0} (p : A → Bool) (xs ys : List A) → how_many p (xs ++ ys) ≡ how_many p xs + how_many p ys
unfolding how_many
many-append p [] ys = omega arith
many-append p (x ∷ xs) ys = omega (arith, many-append p xs ys)

-- by what the test asks
pub many-map : {A B : Type 0} (p : B → Bool) (f : A → B) (xs : List A) → how_many p (map f xs) ≡ how_many (λ x. p (f x)) xs
unfolding how_many
many-map p f [] = refl
many-map p f (x ∷ xs) = ap (λ (n : ℕ). cond (p (f x)) 1 0 + n) (many-map p f xs)

-- those that pass and those that don't are all
pub many_not : {A : Type 0} (p : A → Bool) (xs : List A) → how_many p xs + how_many (λ x. not (p x)) xs ≡ length xs
unfolding how_many
many_not p [] = refl
many_not p (x ∷ xs) = go (p x) (many_not p xs)
  where
    go : (b : Bool) → how_many p xs + how_many (λ y. not (p y)) xs ≡ length xs
        → cond b 1 0 + how_many p xs + (cond (not b) 1 0 + how_many (λ y. not (p y)) xs) ≡ suc (length xs)
    go true e = omega arith
    go false e = omega arith

pub many-none : {A : Type 0} (xs : List A) → how_many (λ _. false) xs ≡ 0
unfolding how_many
many-none [] = refl
many-none (x ∷ xs) = omega (arith, many-none xs)

pub many-most : {A : Type 0} (p : A → Bool) (xs : List A) → how_many p xs ≤ length xs
many-most p xs = omega (arith, many_not p xs)

-- ---- tallies
module _ {K A : Type 0} (is : K → A → Bool) where
  pub tally-nothing : (ks : List K) → add_up (tally is ks []) ≡ 0
  unfolding how_many add_up
  tally-nothing [] = refl
  tally-nothing (k ∷ ks) = omega (arith, tally-nothing ks)

  -- one more adds one for each key that it has
  pub tally-more : (ks : List K) (x : A) (xs : List A) → add_up (tally is ks (x ∷ xs)) ≡ how_many (λ k. is k x) ks + add_up (tally is ks xs)
  unfolding how_many add_up
  tally-more [] x xs = refl
  tally-more (k ∷ ks) x xs = omega (arith, tally-more ks x xs)

  pub tally-all : (ks : List K) (xs : List A) → ((x : A) → Memᴰ x xs → how_many (λ k. is k x) ks ≡ 1) → add_up (tally is ks xs) ≡ length xs
  tally-all ks [] h = tally-nothing ks
  tally-all ks (x ∷ xs) h =
      let e : how_many (λ k. is k x) ks ≡ 1 = h x (Memᴰ.head refl) in
      omega (arith, e, tally-more ks x xs, tally-all ks xs (λ y m. h y (Memᴰ.tail m)))

-- by what the test asks
pub tally-map : {K A B : Type 0} (is : K → B → Bool) (f : A → B) (ks : List K) (xs : List A) → tally is ks (map f xs) ≡ tally (λ k x. is k (f x)) ks xs
tally-map is f [] xs = refl
tally-map is f (k ∷ ks) xs = ap₂ (λ (n : ℕ) (l : List ℕ). n ∷ l) (many-map (is k) f xs) (tally-map is f ks xs)

-- ---- for code that goes through a list, adding one at a place
-- where no key passes, none is there to add to
pub nothing-at : {K : Type 0} (p : K → Bool) (ks : List K) (d : K) (i : ℕ) → how_many p ks ≡ 0 → i < length ks → p (get_or ks i d) ≡ false
unfolding how_many
nothing-at p [] d i e h = absurd (omega arith)
nothing-at p (k ∷ ks) d zero e h = go (p k) e
  where
    go : (b : Bool) → cond b 1 0 + how_many p ks ≡ 0 → b ≡ false
    go true e = absurd (omega arith)
    go false e = refl
nothing-at p (k ∷ ks) d (suc i) e h = nothing-at p ks d i (omega arith) (omega arith)

module _ {K A : Type 0} (is : K → A → Bool) (x : A) (xs : List A) where
  -- one that has none of these keys
  tally_passed : (ks : List K) → how_many (λ k. is k x) ks ≡ 0 → tally is ks (x ∷ xs) ≡ tally is ks xs
  unfolding how_many
  tally_passed [] e = refl
  tally_passed (k ∷ ks) e = go (is k x) e (tally_passed ks (omega arith))
    where
      go : (b : Bool) → cond b 1 0 + how_many (λ j. is j x) ks ≡ 0 → tally is ks (x ∷ xs) ≡ tally is ks xs
          → ◌≡◌ {A = List ℕ} ((cond b 1 0 + how_many (is k) xs) ∷ tally is ks (x ∷ xs)) (how_many (is k) xs ∷ tally is ks xs)
      go true e h = absurd (omega arith)
      go false e h = ap₂ (λ (n : ℕ) (l : List ℕ). n ∷ l) (omega arith) h

  -- what is counted so far, with the tally of what is left: one more at the place of its key
  pub count-step : (ks : List K) (d : K) (i : ℕ) (now : List ℕ) → length now ≡ length ks → i < length ks
      → how_many (λ k. is k x) ks ≡ 1 → is (get_or ks i d) x ≡ true
      → sums now (tally is ks (x ∷ xs)) ≡ sums (set now i (get_or now i 0 + 1)) (tally is ks xs)
  unfolding how_many sums
  count-step [] d i now l h once e = absurd (omega arith)
  count-step (k ∷ ks) d i [] l h once e = absurd (omega arith)
  count-step (k ∷ ks) d zero (n ∷ now) l h once e =
      let rest : how_many (λ j. is j x) ks ≡ 0 = omega (arith, rw e at once) in
      rw e (ap₂ (λ (m : ℕ) (t : List ℕ). m ∷ sums now t) (omega arith) (tally_passed ks rest))
  count-step (k ∷ ks) d (suc i) (n ∷ now) l h once e = go (is k x) once (λ o. count-step ks d i now (omega arith) (omega arith) o e)
    where
      go : (b : Bool) → cond b 1 0 + how_many (λ j. is j x) ks ≡ 1
          → (how_many (λ j. is j x) ks ≡ 1 → sums now (tally is ks (x ∷ xs)) ≡ sums (set now i (get_or now i 0 + 1)) (tally is ks xs))
          → ◌≡◌ {A = List ℕ} ((n + (cond b 1 0 + how_many (is k) xs)) ∷ sums now (tally is ks (x ∷ xs))) ((n + how_many (is k) xs) ∷ sums (set now i (get_or now i 0 + 1)) (tally is ks xs))
      go true o rec = false_true (sym (nothing-at (λ j. is j x) ks d i (omega arith) (omega arith)) ∙ e)
      go false o rec = ap₂ (λ (m : ℕ) (t : List ℕ). m ∷ t) (omega arith) (rec (omega arith))

-- two lists one after the other
pub tally-append : {K A : Type 0} (is : K → A → Bool) (ks : List K) (xs ys : List A) → tally is ks (xs ++ ys) ≡ sums (tally is ks xs) (tally is ks ys)
unfolding sums
tally-append is [] xs ys = refl
tally-append is (k ∷ ks) xs ys = ap₂ (λ (n : ℕ) (l : List ℕ). n ∷ l) (many-append (is k) xs ys) (tally-append is ks xs ys)
