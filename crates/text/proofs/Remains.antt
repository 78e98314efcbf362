-- A text written part by part in a loop: what is still to be written of it, from the place that is reached.
use mathlib.Core.Path.{◌≡◌, sym, subst}
use mathlib.Core.List.{List, [], ◌++◌}
use Prim.Native.Nat.{ℕ, zero, suc, ◌+◌, ◌-◌, ◌*◌, ◌<◌}
use native.Mathlib.Nat.{not-suc-le-zero, mul-suc}
use native.Mathlib.Numerals.{sub-one}
use native.Mathlib.Omega.{arith}
use Rattle.text.specs.Writer.{Wrote}
use Rattle.text.proofs.Chain.{nothing, ◌⨟◌, wrote_as}

-- once `rest` is written after what `now` has, the whole is written into `old`
pub record Remains (old : List ℕ) (at : ℕ) (whole now : List ℕ) (p : ℕ) (rest : List ℕ) : Type 0 where
  pub so : (new : List ℕ) (next : ℕ) → Wrote now p rest new next → Wrote old at whole new next

pub all_remains : {o w : List ℕ} {a : ℕ} → Remains o a w o a w
all_remains = record { so = λ new next k. k }

pub remains_as : {o w n rest rest' : List ℕ} {a p : ℕ} → Remains o a w n p rest → rest ≡ rest' → Remains o a w n p rest'
remains_as {o} {w} {n} {a = a} {p} h e = subst (λ (l : List ℕ). Remains o a w n p l) e h

pub on : {o w n m x rest later : List ℕ} {a p q : ℕ} → Remains o a w n p rest → rest ≡ x ++ later → Wrote n p x m q → Remains o a w m q later
on h e v = record { so = λ new next k. h.so new next (wrote_as (v ⨟ k) (sym e)) }

pub done : {o w n rest : List ℕ} {a p : ℕ} → Remains o a w n p rest → rest ≡ [] → Wrote o a w n p
done h e = h.so _ _ (wrote_as nothing (sym e))

-- a loop over things of one width: so many are left from a place on, and their lines are still to be written
pub record Left (lines : ℕ → ℕ → List ℕ) (width most start n : ℕ) (old : List ℕ) (at : ℕ) (now : List ℕ) (p place left : ℕ) : Type 0 where
  pub near : place + width * left < most
  pub rest : Remains old at (lines start n) now p (lines place left)

nearer : (width most place left : ℕ) → 0 < left → place + width * left < most → place + width + width * (left - 1) < most
nearer width most place zero h l = absurd (not-suc-le-zero h)
nearer width most place (suc k) h l = rw sub-one (omega (arith, mul-suc width k))

module _ {lines : ℕ → ℕ → List ℕ} {width most start n : ℕ} {old : List ℕ} {at : ℕ} where
  pub all_left : start + width * n < most → Left lines width most start n old at old at start n
  all_left h = record { near = h; rest = all_remains }

  module _ {now : List ℕ} {p place left : ℕ} (L : Left lines width most start n old at now p place left) where
    pub one_less : {x later : List ℕ} {next : ℕ} → 0 < left → lines place left ≡ x ++ lines (place + width) (left - 1) → Wrote now p x later next
        → Left lines width most start n old at later next (place + width) (left - 1)
    one_less h e w = record { near = nearer width most place left h L.near; rest = on L.rest e w }

    pub none_left : lines place left ≡ [] → Wrote old at (lines start n) now p
    none_left e = done L.rest e
