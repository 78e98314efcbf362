-- A zeroed buffer has the room that it was made with.
use Prim.Native.Nat.{ℕ, ◌≤◌}
use native.Mathlib.Omega.{arith}
use lib.ListN.{length, replicate, length-replicate}

pub room : (n : ℕ) → n ≤ length {A = ℕ} (replicate n 0)
room n = omega (arith, length-replicate {A = ℕ} n 0)
