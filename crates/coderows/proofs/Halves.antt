-- Looking in the half that can hold what is wanted, among n things a step of w apart whose numbers ascend.
use Prim.Native.Nat.{ℕ, zero, suc, ◌+◌, ◌-◌, ◌*◌, ◌≤◌, ◌<◌}
use mathlib.Core.Path.{◌≡◌, refl, sym, ap, ◌∙◌}
use mathlib.Core.List.Memᴰ
use mathlib.Core.List.{◌∷◌, ◌++◌, map}
use mathlib.Core.Bool.{true}
use mathlib.Core.Option.{none, some}
use native.Mathlib.Nat.{zero-add, add-zero, suc-add, mul-zero, mul-suc, not-suc-le-zero}
use native.Mathlib.Omega.{arith}
use Rattle.rules.specs.Lists.{find, ascends}
use Rattle.coderows.specs.Look.{items_at, find_by}
use Rattle.rules.proofs.ListLaws.{ascends-head}
use Rattle.joinlaws.proofs.MergeLaws.{ascends-from, there-at}
use Rattle.coderows.proofs.Ascending.{front-ascends, back-ascends, find-back, find-front}

next-at : (w at m : ℕ) → at + w + w * m ≡ at + w * suc m
next-at w at m = rw (mul-suc w m) (omega arith)

items_add : {A : Type 0} (g : ℕ → A) (w at m k : ℕ) → items_at g w at (m + k) ≡ items_at g w at m ++ items_at g w (at + w * m) k
unfolding items_at
items_add g w at zero k = rw (zero-add, mul-zero, add-zero)
items_add g w at (suc m) k =
    rw (suc-add, ← (next-at w at m)) (ap (λ l. g at ∷ l) (items_add g w (at + w) m k))

module _ {A : Type 0} (g : ℕ → A) (f : A → ℕ) (w at left half mid : ℕ) (fits : half < left) (middle : mid ≡ at + w * half) where
  halves : items_at g w at left ≡ items_at g w at half ++ g mid ∷ items_at g w (mid + w) (left - half - 1)
  unfolding items_at
  halves =
      let e : left ≡ half + suc (left - half - 1) = omega arith in
      rw middle (ap (items_at g w at) e ∙ items_add g w at half (suc (left - half - 1)))

  module _ (sorted : ascends 0 (map f (items_at g w at left)) ≡ true) where
    split : ascends 0 (map f (items_at g w at half ++ g mid ∷ items_at g w (mid + w) (left - half - 1))) ≡ true
    split = rw halves at sorted

    half-found : find_by f (f (g mid)) (items_at g w at left) ≡ some (g mid)
    half-found =
        rw halves
        (there-at f 0 (items_at g w at half ++ g mid ∷ items_at g w (mid + w) (left - half - 1)) (g mid) split (Memᴰ.append_right (items_at g w at half) (Memᴰ.head refl)))

    half_up : (wanted : ℕ) → f (g mid) < wanted → find_by f wanted (items_at g w at left) ≡ find_by f wanted (items_at g w (mid + w) (left - half - 1))
    half_up wanted h = rw halves (find-back f 0 wanted (items_at g w at half) (g mid) (items_at g w (mid + w) (left - half - 1)) split h)

    half_down : (wanted : ℕ) → wanted < f (g mid) → find_by f wanted (items_at g w at left) ≡ find_by f wanted (items_at g w at half)
    half_down wanted h = rw halves (find-front f 0 wanted (items_at g w at half) (g mid) (items_at g w (mid + w) (left - half - 1)) split h)

    up-ascends : ascends 0 (map f (items_at g w (mid + w) (left - half - 1))) ≡ true
    up-ascends =
        ascends-from f (f (g mid) + 1) 0 (items_at g w (mid + w) (left - half - 1)) (omega arith)
        (ascends-head f 0 (g mid) (items_at g w (mid + w) (left - half - 1))
        (back-ascends f 0 (items_at g w at half) (g mid ∷ items_at g w (mid + w) (left - half - 1)) split)).1

    down_ascends : ascends 0 (map f (items_at g w at half)) ≡ true
    down_ascends = front-ascends f 0 (items_at g w at half) (g mid ∷ items_at g w (mid + w) (left - half - 1)) split

none_left : {A : Type 0} (g : ℕ → A) (f : A → ℕ) (w at left wanted : ℕ) → left ≤ 0 → find_by f wanted (items_at g w at left) ≡ none
unfolding find items_at
none_left g f w at zero wanted h = refl
none_left g f w at (suc k) wanted h = absurd (not-suc-le-zero h)

-- ---- the search: what is looked up in the whole is looked up in what is left
abbrev pub Ascend : {A : Type 0} → (ℕ → A) → (A → ℕ) → ℕ → ℕ → ℕ → Type 0
Ascend g f w at n = ascends 0 (map f (items_at g w at n)) ≡ true

pub record Narrowed {A : Type 0} (g : ℕ → A) (f : A → ℕ) (w start n wanted at left : ℕ) : Type 0 where
  pub ascend : Ascend g f w start n → Ascend g f w at left
  pub same : Ascend g f w start n → find_by f wanted (items_at g w start n) ≡ find_by f wanted (items_at g w at left)

pub begin : {A : Type 0} (g : ℕ → A) (f : A → ℕ) (w start n wanted : ℕ) → Narrowed g f w start n wanted start n
begin g f w start n wanted = record { ascend = λ a. a; same = λ a. refl }

pub not_there : {A : Type 0} {g : ℕ → A} {f : A → ℕ} {w start n wanted at left : ℕ} → Narrowed g f w start n wanted at left → left ≤ 0
    → Ascend g f w start n → find_by f wanted (items_at g w start n) ≡ none
not_there {g = g} {f = f} {w = w} {wanted = wanted} {at = at} {left = left} N h a = N.same a ∙ none_left g f w at left wanted h

-- a turn reads x, the number of the thing in the middle
pub record Turn {A : Type 0} (g : ℕ → A) (f : A → ℕ) (w start n wanted at left half mid x : ℕ) : Type 0 where
  pub so_far : Narrowed g f w start n wanted at left
  pub fits : half < left
  pub middle : mid ≡ at + w * half
  pub reads : x ≡ f (g mid)

module _ {A : Type 0} {g : ℕ → A} {f : A → ℕ} {w start n wanted at left half mid x : ℕ} (T : Turn g f w start n wanted at left half mid x) where
  pub hit : x ≡ wanted → Ascend g f w start n → find_by f wanted (items_at g w start n) ≡ some (g mid)
  hit h a =
      let e : f (g mid) ≡ wanted = omega (arith, T.reads) in
      T.so_far.same a ∙ ap (λ k. find_by f k (items_at g w at left)) (sym e) ∙ half-found g f w at left half mid T.fits T.middle (T.so_far.ascend a)

  pub go_up : x < wanted → Narrowed g f w start n wanted (mid + w) (left - half - 1)
  go_up h =
      let e : f (g mid) < wanted = omega (arith, T.reads) in
      record {
        ascend = λ a. up-ascends g f w at left half mid T.fits T.middle (T.so_far.ascend a);
        same = λ a. T.so_far.same a ∙ half_up g f w at left half mid T.fits T.middle (T.so_far.ascend a) wanted e;
      }

  pub go_down : wanted < x → Narrowed g f w start n wanted at half
  go_down h =
      let e : wanted < f (g mid) = omega (arith, T.reads) in
      record {
        ascend = λ a. down_ascends g f w at left half mid T.fits T.middle (T.so_far.ascend a);
        same = λ a. T.so_far.same a ∙ half_down g f w at left half mid T.fits T.middle (T.so_far.ascend a) wanted e;
      }
