-- The characters of UTF-16 text, unit by unit: what a unit ends, and what waits after it.
use Rattle.std.specs.Prelude.{ℕ, Bool, true, cond, not, ◌&&◌, List, [], ◌∷◌, ltb, leb}
use Rattle.rules.specs.Utf16.{is_high}
use Rattle.rules.specs.Scalars.{scalar}
use Rattle.rules.specs.Utf8.{utf8_of}
use Rattle.rules.specs.Csv.{is_data, doubled}

-- a first half waits for its second half; 0 where none waits
abbrev pub waiting : ℕ → ℕ
waiting u = cond (is_high u) u 0

-- what the unit u ends, after the first half `high`: a character, as `spell` spells it
unfoldable pub unit_by : (ℕ → List ℕ) → ℕ → ℕ → List ℕ
unit_by spell high u = cond (is_high u) [] (spell (scalar high u))

-- its bytes, quotes doubled
abbrev pub doubled_of : ℕ → List ℕ
doubled_of c = doubled (utf8_of c)

abbrev pub unit_text : ℕ → ℕ → List ℕ
unit_text high u = unit_by doubled_of high u

-- they can stand without quotes
unfoldable pub unit_data : ℕ → ℕ → Bool
unit_data high u = cond (is_high u) true (is_data (scalar high u))

-- a unit that is a byte and needs no quotes: one after the comma
unfoldable pub is_letter : ℕ → Bool
is_letter u = not (ltb u 0x2D) && leb u 0x7F

-- the low bytes of units
unfoldable pub lows : List ℕ → List ℕ
lows [] = []
lows (a ∷ []) = []
lows (a ∷ b ∷ s) = a ∷ lows s
