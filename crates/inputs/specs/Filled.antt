-- A buffer with the bytes that were read, and those that came after them.
use Rattle.std.specs.Prelude.{◌≡◌, List, ℕ, ◌≤◌, length, take}

-- `new` has `size` bytes of the input, which begin with what was read, if there is room for that
pub record Filled (read old new : List ℕ) (size : ℕ) : Type 0 where
  pub within : size ≤ length old
  pub after : length read ≤ length old → length read ≤ size
  pub begins : length read ≤ length old → take (length read) new ≡ read
