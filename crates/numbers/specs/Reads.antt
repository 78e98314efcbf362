-- What a read gives.
use Rattle.std.specs.Prelude.{ℕ, ◌<◌, ◌≡◌}

-- the number, and that it is small
pub record Small (x bound r : ℕ) : Type 0 where
  pub is : r ≡ x
  pub small : r < bound
