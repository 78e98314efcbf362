-- Units of UTF-16 below the surrogates.
use Rattle.std.specs.Prelude.{ℕ, ◌+◌, ◌*◌, ◌≤◌, ◌≡◌, Bool, false, not, ◌&&◌, List, ltb, length, drop}
use Rattle.std.specs.Int.{w16, from_le_bytes}
use Rattle.rules.specs.Bytes.{byte, u16}
use Rattle.rules.specs.Utf16.{is_high, paired}
use Rattle.rules.specs.Scalars.{scalars}

abbrev pub is_plain : ℕ → Bool
is_plain u = ltb u 0xD800

-- the four units from p on
unfoldable pub plain_four : List ℕ → ℕ → Bool
plain_four s p = is_plain (u16 s p) && is_plain (u16 s (p + 2)) && is_plain (u16 s (p + 4)) && is_plain (u16 s (p + 6))

-- what the high bytes of the first four units say of it
abbrev pub four_below : List ℕ → Bool
four_below s = ltb (byte s 1) 0xD8 && ltb (byte s 3) 0xD8 && ltb (byte s 5) 0xD8 && ltb (byte s 7) 0xD8

-- a unit of two bytes is no first half
abbrev pub ends_one : List ℕ → Bool
ends_one unit = not (is_high (from_le_bytes w16 unit))

-- from start up to r nothing speaks against text, and what is left decides; each unit there is a character
pub record Skipped (s : List ℕ) (start r : ℕ) : Type 0 where
  pub inside : r ≤ length s
  pub same : paired false (drop start s) ≡ paired false (drop r s)
  pub count : 2 * length (scalars (drop start s)) + start ≡ 2 * length (scalars (drop r s)) + r
