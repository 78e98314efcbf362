-- UTF-8, by the table of RFC 3629 ("Syntax of UTF-8 Byte Sequences"): the bytes of a character, and the character that they are.
use Rattle.std.specs.Prelude.{ℕ, ◌+◌, ◌*◌, ◌-◌, ◌≤◌, ◌≡◌, List, [], ◌∷◌, ◌⊎◌}
use Rattle.claims.specs.Ways.{Way, nothing, ◌then◌, ◌from◌to◌}

-- UTF8-tail = %x80-BF
abbrev pub Tail : ℕ → Type 0
Tail b = b from 0x80 to 0xBF

-- the two bytes that UTF8-3 begins with: %xE0 %xA0-BF / %xE1-EC UTF8-tail / %xED %x80-9F / %xEE-EF UTF8-tail
abbrev pub Starts3 : ℕ → ℕ → Type 0
Starts3 a b =
    ((a ≡ 0xE0) × (b from 0xA0 to 0xBF))
    ⊎ (((a from 0xE1 to 0xEC) × Tail b)
    ⊎ (((a ≡ 0xED) × (b from 0x80 to 0x9F))
    ⊎ ((a from 0xEE to 0xEF) × Tail b)))

-- and UTF8-4: %xF0 %x90-BF / %xF1-F3 UTF8-tail / %xF4 %x80-8F
abbrev pub Starts4 : ℕ → ℕ → Type 0
Starts4 a b =
    ((a ≡ 0xF0) × (b from 0x90 to 0xBF))
    ⊎ (((a from 0xF1 to 0xF3) × Tail b)
    ⊎ ((a ≡ 0xF4) × (b from 0x80 to 0x8F)))

-- UTF8-char, with the number that its bits are: six of each byte but the first
pub data Character : ℕ → List ℕ → Type 0 where
  one : {a : ℕ} → a ≤ 0x7F → Character a (a ∷ [])
  two : {v a b : ℕ} → a from 0xC2 to 0xDF → Tail b → v ≡ (a - 0xC0) * 64 + (b - 0x80) → Character v (a ∷ b ∷ [])
  three : {v a b c : ℕ} → Starts3 a b → Tail c → v ≡ ((a - 0xE0) * 64 + (b - 0x80)) * 64 + (c - 0x80) → Character v (a ∷ b ∷ c ∷ [])
  four : {v a b c d : ℕ} → Starts4 a b → Tail c → Tail d → v ≡ (((a - 0xF0) * 64 + (b - 0x80)) * 64 + (c - 0x80)) * 64 + (d - 0x80)
      → Character v (a ∷ b ∷ c ∷ d ∷ [])

-- UTF8-octets = *( UTF8-char ): the bytes of these characters
unfoldable pub characters : List ℕ → Way
characters [] = nothing
characters (c ∷ cs) = Character c then characters cs
