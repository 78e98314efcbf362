-- Bytes that are copied, and digits that are written, several at once.
use Rattle.std.specs.Prelude.{List, [], ◌∷◌, ℕ, ◌+◌, ◌/◌, ◌%◌, ◌<◌, ◌≤◌, length}
use Rattle.rules.specs.Digits.{digit}
use Rattle.text.specs.Writer.{Wrote}

-- of s fewer than n bytes are left, for which there is room: once they are written, s is
pub record Copied (n : ℕ) (old : List ℕ) (at : ℕ) (s new : List ℕ) (next : ℕ) (rest : List ℕ) : Type 0 where
  pub few : length rest < n
  pub room : next + length rest ≤ length new
  pub so : (last : List ℕ) (end : ℕ) → Wrote new next rest last end → Wrote old at s last end

-- the two digits of a number below 100
abbrev pub tens : ℕ → List ℕ
tens n = digit (n / 10) ∷ digit (n % 10) ∷ []
