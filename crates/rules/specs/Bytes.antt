-- Bytes and numbers. A stream, a code table or a buffer is a list of numbers, and a place in it is counted from 0.
-- Where a definition reads past the end it gets 0, so every definition has an answer.
use Rattle.std.specs.Prelude.{ℕ, ◌+◌, ◌*◌, ◌/◌, ◌%◌, ◌<◌, cond, List, [], ◌∷◌, ltb, length, get_or, take, drop}
use Rattle.std.proofs.Math.Option.{Option, none, some}
use Rattle.rules.specs.Lists.{◌>>=◌}

-- a list of bytes
abbrev pub Bytes : List ℕ → Type 0
Bytes s = (i : ℕ) → get_or s i 0 < 256

-- the byte at p
abbrev pub byte : List ℕ → ℕ → ℕ
byte s p = get_or s p 0

-- the number of two bytes at p, the low byte first
unfoldable pub u16 : List ℕ → ℕ → ℕ
u16 s p = byte s p + 256 * byte s (p + 1)

-- the number of four bytes at p, the low byte first
unfoldable pub u32 : List ℕ → ℕ → ℕ
u32 s p = u16 s p + 65536 * u16 s (p + 2)

-- a number as two bytes, the low byte first
abbrev pub two_bytes_lem : ℕ → List ℕ
two_bytes_lem n = n % 256 ∷ n / 256 ∷ []

-- the bytes from start on, size of them
abbrev pub part : List ℕ → ℕ → ℕ → List ℕ
part s start size = take size (drop start s)

-- the byte at p, where there is one
unfoldable pub byte_at : List ℕ → ℕ → Option ℕ
byte_at s p = cond (ltb p (length s)) (some (byte s p)) none

-- the number of two bytes at p, where there are two
unfoldable pub half_at_lem : List ℕ → ℕ → Option ℕ
half_at_lem s p = do
  lo ← byte_at s p
  hi ← byte_at s (p + 1)
  some (lo + 256 * hi)
