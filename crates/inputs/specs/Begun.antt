-- All that standard input had, by what was read of it.
use Rattle.std.specs.Prelude.{ℕ, Bool, true, false, List, ◌∷◌, ◌++◌}

-- what the input is, by what was read of it: that itself, or where bytes came after it, something longer that begins so
pub data Begun : List ℕ → Bool → List ℕ → Type 0 where
  whole : {read : List ℕ} → Begun read false read
  longer : {read : List ℕ} (b : ℕ) (rest : List ℕ) → Begun read true (read ++ (b ∷ rest))
