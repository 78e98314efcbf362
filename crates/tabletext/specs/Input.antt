-- What standard input has, by what a program has read of it.
use Rattle.std.specs.Prelude.{ℕ, ◌≤◌, List, ◌++◌, length}

-- with room for so many bytes: what was read is all, or it fills the room and more may come after it
pub data Began (room : ℕ) : List ℕ → List ℕ → Type 0 where
  whole : {read : List ℕ} → Began room read read
  filled : {read : List ℕ} → room ≤ length read → (rest : List ℕ) → Began room read (read ++ rest)
