-- What the answer for the next property tells of the run.
use Prim.Native.Nat.{ℕ, ◌+◌, ◌≤◌, ◌<◌}
use mathlib.Core.Path.{◌≡◌, refl, sym, ap, ◌∙◌}
use mathlib.Core.Bool.{Bool, true, false, cond}
use mathlib.Core.List.{List}
use mathlib.Core.Option.{none, some}
use mathlib.Core.Option as maybe
use lib.ListN.{length}
use Rattle.std.proofs.Common.{Option, Some, None}
use Rattle.rules.specs.Bytes.{byte}
use Rattle.rules.specs.Access2000.{Prop, goes_on_lem, property_at, run_at}
use Rattle.rules.specs.Told.{told_as}
use Rattle.rules.proofs.ToldLaws.{told_as_none}
use Rattle.propvalue.specs.Sized.{Sized}
use Rattle.walk2000.specs.Told as told
use Rattle.walk2000.specs.declared.Extent.{Extent}
use Rattle.walk2000.proofs.Runs.{ends}
use Rattle.rows.specs.Acts.{Held}
use Rattle.run2000.specs.Runs.{prop, prop_of}
use Rattle.run2000.specs.declared.Stored.{Stored}
use Rattle.run2000.proofs.RunSteps.{property-is, run_bad}
use Rattle.run2000.proofs.Sizes.{value-sized}
use Rattle.shown2000.specs.Next.{next_at, stored}

abbrev pub extent : Stored → Extent
extent q = record { start = q.start; size = q.size }

-- q is the property at p, and the run goes on after it
pub record Goes (s : List ℕ) (p : ℕ) (q : Stored) : Type 0 where
  pub on : goes_on_lem s p ≡ true
  pub id-is : byte s p ≡ q.id
  pub is : property_at s p ≡ some (prop_of q)
  pub told : told_as told.value (property_at s p) ≡ Some (extent q)
  pub ahead : p < q.start + q.size
  pub inside : q.start + q.size ≤ length s
  pub sized : Sized q.id q.size

-- ---- what is answered
pub next_none : (s : List ℕ) (p : ℕ) → goes_on_lem s p ≡ false → None ≡ told_as stored (next_at s p)
unfolding next_at
next_none s p e = rw e

pub next_some : (s : List ℕ) (p : ℕ) (r : Option Extent) (v : Extent) → goes_on_lem s p ≡ true → r ≡ told_as told.value (property_at s p) → r ≡ Some v
    → Some (record { id = byte s p; start = v.start; size = v.size }) ≡ told_as stored (next_at s p)
unfolding next_at
next_some s p r v t e k = rw (t, property-is s p r v e k)

pub next_bad : (s : List ℕ) (p : ℕ) (r : Option Extent) → goes_on_lem s p ≡ true → r ≡ told_as told.value (property_at s p) → r ≡ None → None ≡ told_as stored (next_at s p)
unfolding next_at
next_bad s p r t e k = rw (t, told_as_none told.value (property_at s p) r e k)

-- ---- what the answer tells
pub next_goes : {s : List ℕ} {p : ℕ} {r : Option Stored} {q : Stored} → r ≡ told_as stored (next_at s p) → r ≡ Some q → Goes s p q
unfolding next_at
next_goes {s} {p} {r} {q} e k = go (goes_on_lem s p) refl (property_at s p) refl (sym e ∙ k)
  where
    go : (b : Bool) → goes_on_lem s p ≡ b → (o : maybe.Option Prop) → property_at s p ≡ o → told_as stored (cond b o none) ≡ Some q → Goes s p q
    go false be o oe h = cc
    go true be none oe h = cc
    go true be (some x) oe h =
        let e₀ : x.id ≡ q.id = cc in
        let e₁ : x.start ≡ q.start = cc in
        let e₂ : x.size ≡ q.size = cc in
        let is : property_at s p ≡ some (prop_of q) = oe ∙ (λ i. some (prop (e₀ i) (e₁ i) (e₂ i))) in
        let t : told_as told.value (property_at s p) ≡ Some (extent q) = ap (told_as told.value) is in
        let id : byte s p ≡ q.id = let same : some (prop (byte s p) q.start q.size) ≡ some (prop_of q) = sym (property-is s p _ (extent q) refl t) ∙ is in cc in
        let further = ends s p _ (extent q) refl t in
        record { on = be; id-is = id; is = is; told = t; ahead = further.0; inside = further.1; sized = rw id at (value-sized s p _ (extent q) refl t) }

-- a run that could be read ends there
pub next_ends : (s : List ℕ) (p : ℕ) (P : List Prop × ℕ → Type 0) {r : Option Stored} → r ≡ told_as stored (next_at s p) → r ≡ None → Held P (run_at s p) → goes_on_lem s p ≡ false
unfolding next_at
next_ends s p P {r} e k h = go (goes_on_lem s p) refl (property_at s p) refl (sym e ∙ k)
  where
    go : (b : Bool) → goes_on_lem s p ≡ b → (o : maybe.Option Prop) → property_at s p ≡ o → told_as stored (cond b o none) ≡ None → goes_on_lem s p ≡ false
    go false be o oe n = be
    go true be none oe n = absurd (rw (run_bad s p (told_as told.value (property_at s p)) be refl (ap (told_as told.value) oe)) at h)
    go true be (some x) oe n = cc
