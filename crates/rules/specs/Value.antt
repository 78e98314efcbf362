-- Values: a mark with low and high.
-- "Marks: 0 Bool, 1 NotDefault, 2 Short, 3 Long, 4 Double, 5 Guid, 6 Text, 7 Binary, 8 Text that isn't UTF-16. .. Unused low and high are 0."
use Rattle.std.specs.Prelude.{ℕ, suc, ◌+◌, ◌*◌, ◌-◌, ◌/◌, ◌%◌, ◌^◌, Bool, cond, ◌&&◌, ◌||◌, List, ltb, leb, eqb, ℤ, pos, negsuc, length}
use Rattle.std.proofs.Math.Option.{Option, none, some}
use Rattle.std.specs.Int.Bits.{bit_or}
use Rattle.std.specs.Float.{binary32, binary64}
use Rattle.std.specs.Float.Ieee.{of_bits, to_bits, nan_bits}
use Rattle.std.specs.Int.Signed.{mag}
use Rattle.rules.specs.Bytes.{byte, u16, u32}
use Rattle.rules.specs.Utf16.{is_utf16_lem}
use Rattle.rules.specs.declared.Value.{Value}

abbrev pub value : ℕ → ℕ → ℕ → Value
value mark low high = record { mark = mark; low = low; high = high }

-- "Bool has low 0 for a zero byte, else 1"
abbrev pub bool_value : ℕ → Value
bool_value b = value 0 (cond (eqb b 0) 0 1) 0

abbrev pub not_default : Value
not_default = value 1 0 0

-- ---- whole numbers
-- the number that n stands for in two's complement, where 2 * half numbers can be written
unfoldable pub signed : ℕ → ℕ → ℤ
signed half n = cond (ltb n half) (pos n) (negsuc (half + half - suc n))

-- its 32 bits, in two's complement
unfoldable pub word32 : ℤ → ℕ
word32 (pos n) = n
word32 (negsuc n) = 2 ^ 32 - suc n

-- "Short and Long have the 32-bit two's complement in low"
abbrev pub short_value : ℤ → Value
short_value z = value 2 (word32 z) 0

abbrev pub long_value : ℤ → Value
long_value z = value 3 (word32 z) 0

-- from -32768 to 32767: the magnitude of a negative number -(n + 1) is n here
unfoldable pub fits16 : ℤ → Bool
fits16 z = ltb (mag z) 32768

-- "one byte is unsigned, two bytes are signed, four are signed"
unfoldable pub integer_value_lem : List ℕ → Option ℤ
integer_value_lem b =
    cond (eqb (length b) 1) (some (pos (byte b 0)))
    (cond (eqb (length b) 2) (some (signed 0x8000 (u16 b 0)))
    (cond (eqb (length b) 4) (some (signed 0x80000000 (u32 b 0)))
    none))

-- ---- fractions
-- "Double has its bits in low and high"
abbrev pub double_value : ℕ → Value
double_value bits = value 4 (bits % 2 ^ 32) (bits / 2 ^ 32)

-- "for a NaN we keep the sign, shift the fraction up 29 places and set its top bit"
unfoldable pub widened_nan : ℕ → ℕ
widened_nan b = b / 2 ^ 31 * 2 ^ 63 + 0x7FF * 2 ^ 52 + bit_or (2 ^ 51) (b % 2 ^ 23 * 2 ^ 29)

-- "A single is widened to a double exactly": the bits, as a double, of the number that the single's bits are
unfoldable pub widened : ℕ → ℕ
widened b = cond (nan_bits binary32 b) (widened_nan b) (to_bits binary64 (of_bits binary32 b))

-- ---- bytes
abbrev pub guid_value : Value
guid_value = value 5 0 0

abbrev pub binary_value : Value
binary_value = value 7 0 0

abbrev pub text_value : List ℕ → Value
text_value b = cond (is_utf16_lem b) (value 6 0 0) (value 8 0 0)

-- ---- the later layout: by type and bytes
abbrev pub long_or : Value → Option ℤ → Value
long_or other none = other
long_or other (some z) = long_value z

abbrev pub short_or : Value → Option ℤ → Value
short_or other none = other
short_or other (some z) = cond (fits16 z) (short_value z) other

-- "type 0x01 empty NotDefault, one byte Bool. Otherwise 0x01 .. Long"
unfoldable pub yes_no_value : List ℕ → Value
yes_no_value b =
    cond (eqb (length b) 0) not_default
    (cond (eqb (length b) 1) (bool_value (byte b 0))
    (long_or binary_value (integer_value_lem b)))

-- "and also 0x03, 0x04: .. Long. 0x02 the same as Short if it fits 16 bits. 0x06 with 4 bytes, 0x08 with 8: Double. 0x09 with 16: Guid.
-- 0x0A, 0x0C: Text. Anything else Binary."
unfoldable pub entry_value_lem : ℕ → List ℕ → Value
entry_value_lem type b =
    cond (eqb type 0x01) (yes_no_value b)
    (cond (eqb type 0x02) (short_or binary_value (integer_value_lem b))
    (cond (eqb type 0x03 || eqb type 0x04) (long_or binary_value (integer_value_lem b))
    (cond (eqb type 0x06 && eqb (length b) 4) (double_value (widened (u32 b 0)))
    (cond (eqb type 0x08 && eqb (length b) 8) (value 4 (u32 b 0) (u32 b 4))
    (cond (eqb type 0x09 && eqb (length b) 16) guid_value
    (cond (eqb type 0x0A || eqb type 0x0C) (text_value b)
    binary_value))))))

-- ---- the Access 2000 layout: by id, bytes and, where the id is tied, its row's kind
-- "All else is stored: flag NotDefault; ids 0x30 to 0x7F Short; other numbers Long; bytes Binary."
-- "Ids to 0x2F carry 0 bytes, to 0x5F one (unsigned), to 0x7F two (signed), to 0xBC four (signed), to 0xFC a length and bytes."
unfoldable pub stored_value_lem : ℕ → List ℕ → Value
stored_value_lem id b =
    cond (leb id 0x2F) not_default
    (cond (leb id 0x5F) (short_value (pos (byte b 0)))
    (cond (leb id 0x7F) (short_value (signed 0x8000 (u16 b 0)))
    (cond (leb id 0xBC) (long_value (signed 0x80000000 (u32 b 0)))
    binary_value)))

-- "On ids above 0xBC, kind Text with UTF-16 bytes, Guid with 16 bytes and Double with 8 give that value." Kinds: 1 Text, 2 Guid, 3 Double
unfoldable pub value_as_lem : ℕ → ℕ → List ℕ → Value
value_as_lem kind id b =
    cond (ltb 0xBC id && eqb kind 1 && is_utf16_lem b) (value 6 0 0)
    (cond (ltb 0xBC id && eqb kind 2 && eqb (length b) 16) guid_value
    (cond (ltb 0xBC id && eqb kind 3 && eqb (length b) 8) (value 4 (u32 b 0) (u32 b 4))
    (stored_value_lem id b)))
