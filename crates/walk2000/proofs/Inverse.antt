-- From what the reading functions answer back to what the definition says.
use Prim.Native.Nat.{ℕ}
use mathlib.Core.Path.{◌≡◌, refl}
use mathlib.Core.List.{List}
use mathlib.Core.Option.{none, some}
use mathlib.Core.Option as maybe
use lib.ListN.{length}
use Rattle.std.proofs.Common.{Option, Some}
use Rattle.rules.specs.Access2000.{Prop}
use Rattle.rules.specs.Told.{told_as}
use Rattle.walk2000.specs.Told as told
use Rattle.walk2000.specs.declared.Extent.{Extent}
use Rattle.walk2000.specs.declared.Run.{Run}
use Rattle.walk2000.specs.declared.Opens.{Opens}

pub extent-at : (o : maybe.Option (ℕ × ℕ)) (r : Option Extent) (y : Extent) → r ≡ told_as told.extent o → r ≡ Some y → o ≡ some (y.start, y.size)
extent-at none r y e k = cc
extent-at (some x) r y e k =
    let p₀ : x.0 ≡ y.start = cc in
    let p₁ : x.1 ≡ y.size = cc in
    λ i. some (p₀ i, p₁ i)

pub run_of : (o : maybe.Option (List Prop × ℕ)) (r : Option Run) (y : Run) → r ≡ told_as told.run o → r ≡ Some y → (ps : List Prop) × (length ps ≡ y.count) × (o ≡ some (ps, y.next))
run_of none r y e k = cc
run_of (some x) r y e k =
    let p₁ : x.1 ≡ y.next = cc in
    (x.0, cc, λ i. some (x.0, p₁ i))

pub opens_plain : (o : maybe.Option (maybe.Option ℕ × ℕ)) (r : Option Opens) (e : ℕ) → r ≡ told_as told.head o → r ≡ Some (Opens.Plain e) → o ≡ some (none, e)
opens_plain none r e p k = cc
opens_plain (some x) r e p k = go x.0 refl
  where
    go : (y : maybe.Option ℕ) → x.0 ≡ y → some x ≡ some (none, e)
    go none q =
        let p₁ : x.1 ≡ e = cc in
        λ i. some (q i, p₁ i)
    go (some n) q = cc

pub opens_listed : (o : maybe.Option (maybe.Option ℕ × ℕ)) (r : Option Opens) (n e : ℕ) → r ≡ told_as told.head o → r ≡ Some (Opens.Listed n e) → o ≡ some (some n, e)
opens_listed none r n e p k = cc
opens_listed (some x) r n e p k = go x.0 refl
  where
    go : (y : maybe.Option ℕ) → x.0 ≡ y → some x ≡ some (some n, e)
    go none q = cc
    go (some m) q =
        let p₀ : x.0 ≡ some n = cc in
        let p₁ : x.1 ≡ e = cc in
        λ i. some (p₀ i, p₁ i)
