-- Numbers as text. "Hex is upper case"; "decimal"
use Rattle.std.specs.Prelude.{ℕ, zero, suc, ◌+◌, ◌/◌, ◌%◌, cond, List, [], ◌∷◌, ◌++◌, ltb, ℤ, pos, negsuc}
use Rattle.rules.specs.Lists.{text}

-- a digit: 0 to 9, A to F
unfoldable pub digit : ℕ → ℕ
digit n = cond (ltb n 10) (48 + n) (55 + n)

-- the digits of n to the base 10, no more than `most` of them
unfoldable pub decimal_by : ℕ → ℕ → List ℕ
decimal_by zero n = []
decimal_by (suc most) n =
    let longer = decimal_by most (n / 10) ++ (digit (n % 10) ∷ []) in
    cond (ltb n 10) (digit n ∷ []) longer

-- n in decimal, with no zeros before it: it has no more than n + 1 digits
unfoldable pub decimal : ℕ → List ℕ
decimal n = decimal_by (suc n) n

-- the last k digits of n to the base 16
unfoldable pub hex : ℕ → ℕ → List ℕ
hex zero n = []
hex (suc k) n = hex k (n / 16) ++ (digit (n % 16) ∷ [])

-- a minus sign before a negative number
unfoldable pub signed_decimal : ℤ → List ℕ
signed_decimal (pos n) = decimal n
signed_decimal (negsuc n) = text "-" ++ decimal (suc n)
