-- UTF-8 of UTF-16. Wish 7 of document 02: "Text is written whole as UTF-8"
use Rattle.std.specs.Prelude.{ℕ, ◌+◌, ◌/◌, ◌%◌, cond, List, [], ◌∷◌, map, ltb}
use Rattle.rules.specs.Lists.{concat}
use Rattle.rules.specs.Scalars.{scalars}

-- a character in one to four bytes, six bits in each but the first
unfoldable pub utf8_of : ℕ → List ℕ
utf8_of c =
    cond (ltb c 0x80) (c ∷ [])
    (cond (ltb c 0x800) ((0xC0 + c / 64) ∷ (0x80 + c % 64) ∷ [])
    (cond (ltb c 0x10000) ((0xE0 + c / 4096) ∷ (0x80 + c / 64 % 64) ∷ (0x80 + c % 64) ∷ [])
    ((0xF0 + c / 262144) ∷ (0x80 + c / 4096 % 64) ∷ (0x80 + c / 64 % 64) ∷ (0x80 + c % 64) ∷ [])))

unfoldable pub utf8 : List ℕ → List ℕ
utf8 s = concat (map utf8_of (scalars s))
