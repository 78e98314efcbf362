-- Where a value stands, by the size that its id tells.
use Prim.Native.Nat.{ℕ, ◌+◌, ◌<◌, ◌≤◌}
use native.Mathlib.Omega.{arith}
use mathlib.Core.Path.{◌≡◌, refl}
use mathlib.Core.Bool.{Bool, true, false, cond}
use mathlib.Core.List.{List}
use mathlib.Core.Option.{none, some}
use mathlib.Core.Option as maybe
use lib.Dec.{leb, ltb, eqb}
use lib.ListN.{length}
use Rattle.std.proofs.Common.{Option, Some, None}
use Rattle.rules.specs.Bytes.{Bytes, byte, byte_at, half_at_lem}
use Rattle.rules.specs.Access2000.{length_at, extent_at, property_at}
use Rattle.rules.specs.Told.{told_as}
use Rattle.rules.proofs.ListLaws.{Every, every_if, every_then, every_at}
use Rattle.walk2000.specs.Told as told
use Rattle.walk2000.specs.declared.Extent.{Extent}
use Rattle.walk2000.proofs.Inverse.{extent-at}
use Rattle.propvalue.specs.Sized.{size_of, Sized}
use Rattle.propvalue.proofs.Sizes.{tells-few}

abbrev by_size : List ℕ → ℕ → Option ℕ → maybe.Option (ℕ × ℕ)
by_size s p (Some n) = some (p, n)
by_size s p None = length_at s p

by-size : (s : List ℕ) (id p : ℕ) → extent_at s id p ≡ by_size s p (size_of id)
unfolding extent_at size_of
by-size s id p = go (leb id 0x2F) (leb id 0x5F) (leb id 0x7F) (leb id 0xBC)
  where
    go : (a b c d : Bool)
        → cond a (some (p, 0)) (cond b (some (p, 1)) (cond c (some (p, 2)) (cond d (some (p, 4)) (length_at s p))))
        ≡ by_size s p (cond a (Some 0) (cond b (Some 1) (cond c (Some 2) (cond d (Some 4) None))))
    go true b c d = refl
    go false true c d = refl
    go false false true d = refl
    go false false false true = refl
    go false false false false = refl

-- ---- no value begins far off, or is long
abbrev Near : ℕ → ℕ × ℕ → Type 0
Near p x = (x.0 ≤ p + 3) × (x.1 < 65536)

module _ (s : List ℕ) (small : Bytes s) where
  byte_small : (p : ℕ) → Every (λ b. b < 256) (byte_at s p)
  unfolding byte_at
  byte_small p = every_if (λ b. b < 256) (ltb p (length s)) _ _ (λ _. small p) λ _. tt

  -- what two bytes stand for
  pub half-small : (p : ℕ) → Every (λ n. n < 65536) (half_at_lem s p)
  unfolding half_at_lem
  half-small p =
      every_then (λ b. b < 256) (λ n. n < 65536) (byte_at s p) _ (byte_small p) λ lo l.
      every_then (λ b. b < 256) (λ n. n < 65536) (byte_at s (p + 1)) _ (byte_small (p + 1)) λ hi h. omega arith

  length-near : (p : ℕ) → Every (Near p) (length_at s p)
  unfolding length_at
  length-near p =
      every_then (λ b. b < 256) (Near p) (byte_at s p) _ (byte_small p) λ n h.
      every_if (Near p) (eqb n 0xFF) _ _
      (λ _. every_then (λ m. m < 65536) (Near p) (half_at_lem s (p + 1)) _ (half-small (p + 1)) λ m k. (omega arith, k)) λ _. (omega arith, omega arith)

  extent-near : (id p : ℕ) → Every (Near p) (extent_at s id p)
  extent-near id p = rw (by-size s id p) (go (size_of id) refl)
    where
      go : (z : Option ℕ) → size_of id ≡ z → Every (Near p) (by_size s p z)
      go (Some n) e = let few : n ≤ 4 = tells-few id n e in (omega arith, omega arith)
      go None e = length-near p

  pub told_near : (id p : ℕ) (r : Option Extent) (y : Extent) → r ≡ told_as told.extent (extent_at s id p) → r ≡ Some y → Near p (y.start, y.size)
  told_near id p r y e k = every_at (Near p) (extent_at s id p) (y.start, y.size) (extent-near id p) (extent-at (extent_at s id p) r y e k)

-- ---- a value has as many bytes as its id tells
abbrev Fit : ℕ → ℕ × ℕ → Type 0
Fit id x = Sized id x.1

stored-sized : (id : ℕ) → size_of id ≡ None → (o : maybe.Option (ℕ × ℕ)) → Every (Fit id) o
stored-sized id e none = tt
stored-sized id e (some x) = record { enough = λ m k. cc }

extent-sized : (s : List ℕ) (id p : ℕ) → Every (Fit id) (extent_at s id p)
extent-sized s id p = rw (by-size s id p) (go (size_of id) refl)
  where
    go : (z : Option ℕ) → size_of id ≡ z → Every (Fit id) (by_size s p z)
    go (Some n) e = record { enough = λ m k. let q : m ≡ n = cc in omega arith }
    go None e = stored-sized id e (length_at s p)

pub property-sized : (s : List ℕ) (p : ℕ) → Every (λ q. Sized (byte s p) q.size) (property_at s p)
unfolding property_at
property-sized s p =
    every_then (Fit (byte s p)) (λ q. Sized (byte s p) q.size) (extent_at s (byte s p) (p + 1)) _ (extent-sized s (byte s p) (p + 1)) λ x h.
    every_if (λ q. Sized (byte s p) q.size) (leb (x.0 + x.1) (length s)) _ _ (λ _. h) λ _. tt
