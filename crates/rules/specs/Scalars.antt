-- The characters of UTF-16 text. Wish 5 of document 02: "A character is a Unicode scalar value: for UTF-16 text a surrogate pair counts once."
use Rattle.std.specs.Prelude.{ℕ, ◌+◌, ◌*◌, ◌-◌, cond, List, [], ◌∷◌, eqb}
use Rattle.rules.specs.Utf16.{is_high}

-- the character that ends with the unit u: u alone, or the pair with the first half that came right before it (0 where none came)
unfoldable pub scalar : ℕ → ℕ → ℕ
scalar high u = cond (eqb high 0) u (0x10000 + (high - 0xD800) * 0x400 + (u - 0xDC00))

-- a first half by itself is no character yet: it waits for its second half as `high`. Of text that isn't well formed it says nothing
unfoldable pub scalars_from : ℕ → List ℕ → List ℕ
scalars_from high [] = []
scalars_from high (a ∷ []) = []
scalars_from high (a ∷ b ∷ s) =
    cond (is_high (a + 256 * b)) (scalars_from (a + 256 * b) s)
    (scalar high (a + 256 * b) ∷ scalars_from 0 s)

unfoldable pub scalars : List ℕ → List ℕ
scalars s = scalars_from 0 s
