-- Past the end of the bytes, every number is 0.
use mathlib.Core.Path.{◌≡◌, ap₂}
use mathlib.Core.List.{List}
use Prim.Native.Nat.{ℕ, ◌+◌, ◌*◌, ◌≤◌}
use native.Mathlib.Omega.{arith}
use lib.ListN.{length, get_or-eq_default}
use Rattle.rules.specs.Bytes.{byte, u16}

pub no_byte : (s : List ℕ) (p : ℕ) → length s ≤ p → byte s p ≡ 0
no_byte s p h = get_or-eq_default s 0 h

pub no_u16 : (s : List ℕ) (p : ℕ) → length s ≤ p → u16 s p ≡ 0
unfolding u16
no_u16 s p h = ap₂ (λ (a b : ℕ). a + 256 * b) (no_byte s p h) (no_byte s (p + 1) (omega arith))
