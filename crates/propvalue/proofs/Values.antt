-- A value of a row's kind, where its id tells its size.
use Prim.Native.Nat.{ℕ, ◌≤◌}
use mathlib.Core.Path.{◌≡◌}
use mathlib.Core.List.{List}
use borrow.Author.Tests.{le-ltb}
use Rattle.rules.specs.Value.{stored_value_lem, value_as_lem}

pub by-id : (id : ℕ) (b : List ℕ) (kind : ℕ) → id ≤ 0xBC → value_as_lem kind id b ≡ stored_value_lem id b
unfolding value_as_lem
by-id id b kind h = simp (le-ltb 0xBC id h)
