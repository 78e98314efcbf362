-- Room that is lent.
use Rattle.std.specs.Prelude.{ℕ, List, replicate}

-- so many of one value
unfoldable pub all_of : {A : Type 0} → ℕ → A → List A
all_of n v = replicate n v

abbrev pub zeros : ℕ → List ℕ
zeros n = all_of n 0
