-- A line of a word and four numbers: that of an answer, and that of a judged control.
use Rattle.std.specs.Prelude.{ℕ, List, [], ◌∷◌}
use Rattle.rules.specs.Digits.{decimal}
use Rattle.rules.specs.Listing.{line}

unfoldable pub numbers_line : List ℕ → ℕ → ℕ → ℕ → ℕ → List ℕ
numbers_line word a b c d = line (word ∷ decimal a ∷ decimal b ∷ decimal c ∷ decimal d ∷ [])
