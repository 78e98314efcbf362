-- Worked bytes: the hex dumps that the examples are written in, numbers of two and four bytes, UTF-16.
use Prim.Native.Nat.{zero, suc, ◌<◌}
use native.Mathlib.Omega.{arith}
use mathlib.Core.Path.{◌≡◌, refl}
use mathlib.Core.Bool.{true, false}
use mathlib.Core.List.{[], ◌∷◌, map}
use mathlib.Core.Option.{none, some}
use lib.Dec.{leb}
use Rattle.rules.specs.Lists.{concat, all, keep, find, has, ascends}
use Rattle.rules.specs.Bytes.{Bytes, byte, u16, u32, part, byte_at, half_at_lem}
use Rattle.rules.specs.Utf16.{is_utf16_lem}
use Rattle.rules.specs.Scalars.{scalars}
use Rattle.rules.specs.Rows.{room, written, row_at}
use Rattle.rules.specs.Dump.{dump}
use Rattle.rules.proofs.OpenBytes.{bytes_open}

pub dumped : dump "00 09 0A 0F  10 2A 90 A0 F0 FF" ≡ 0 ∷ 9 ∷ 10 ∷ 15 ∷ 16 ∷ 42 ∷ 144 ∷ 160 ∷ 240 ∷ 255 ∷ []
unfolding bytes_open
dumped = refl

-- ---- numbers, the low byte first; past the end stands 0
pub numbers :
    (map (byte (dump "11 22 33")) (0 ∷ 1 ∷ 2 ∷ 3 ∷ []) ≡ 0x11 ∷ 0x22 ∷ 0x33 ∷ 0 ∷ [])
    × (map (u16 (dump "11 22 33")) (0 ∷ 1 ∷ 2 ∷ 3 ∷ []) ≡ 0x2211 ∷ 0x3322 ∷ 0x0033 ∷ 0 ∷ [])
    × (map (u32 (dump "11 22 33 44 55 66")) (0 ∷ 1 ∷ 2 ∷ 3 ∷ 5 ∷ []) ≡ 0x44332211 ∷ 0x55443322 ∷ 0x66554433 ∷ 0x00665544 ∷ 0x66 ∷ [])
    × (map (byte_at (dump "11 22")) (0 ∷ 1 ∷ 2 ∷ 3 ∷ []) ≡ some 0x11 ∷ some 0x22 ∷ none ∷ none ∷ [])
    × (map (half_at_lem (dump "11 22 33")) (0 ∷ 1 ∷ 2 ∷ 3 ∷ []) ≡ some 0x2211 ∷ some 0x3322 ∷ none ∷ none ∷ [])
    × (part (dump "11 22 33 44 55") 1 3 ≡ dump "22 33 44")
    × (part (dump "11 22 33") 2 3 ≡ dump "33")
unfolding bytes_open
numbers = (refl, refl, refl, refl, refl, refl, refl)

-- a list of bytes has numbers up to 255
pub up-to_255 : Bytes (255 ∷ [])
up-to_255 zero = omega arith
up-to_255 (suc i) = omega arith

pub not_256 : ¬ Bytes (0 ∷ 256 ∷ [])
not_256 h = let wrong : 256 < 256 = h 1 in omega arith

pub no-bytes-either : Bytes []
no-bytes-either i = omega arith

-- ---- lists: tests, the first that is found, ascending from a least one
pub lists :
    (map (has 5) ([] ∷ (4 ∷ []) ∷ (5 ∷ 4 ∷ []) ∷ (4 ∷ 5 ∷ []) ∷ []) ≡ false ∷ false ∷ true ∷ true ∷ [])
    × (map (ascends 3) ([] ∷ (2 ∷ []) ∷ (3 ∷ 4 ∷ []) ∷ (3 ∷ 3 ∷ []) ∷ (4 ∷ 6 ∷ 5 ∷ []) ∷ []) ≡ true ∷ false ∷ true ∷ false ∷ false ∷ [])
    × (keep (leb 5) (5 ∷ 1 ∷ 6 ∷ 2 ∷ []) ≡ 5 ∷ 6 ∷ [])
    × (keep (leb 5) (1 ∷ 5 ∷ 2 ∷ []) ≡ 5 ∷ [])
    × (map (find (leb 5)) ([] ∷ (1 ∷ 2 ∷ []) ∷ (1 ∷ 6 ∷ 5 ∷ []) ∷ []) ≡ none ∷ none ∷ some 6 ∷ [])
    × (map (all (leb 5)) ([] ∷ (5 ∷ 6 ∷ []) ∷ (5 ∷ 4 ∷ []) ∷ (4 ∷ 5 ∷ []) ∷ []) ≡ true ∷ true ∷ false ∷ false ∷ [])
    × (concat (dump "01 02" ∷ [] ∷ dump "03" ∷ []) ≡ dump "01 02 03")
unfolding bytes_open
lists = (refl, refl, refl, refl, refl, refl, refl)

-- ---- rows: how many have room, what is written, row i
pub rows :
    (map (room 4) (dump "01 02 03" ∷ dump "01 02 03 04" ∷ dump "01 02 03 04 05 06 07" ∷ []) ≡ 0 ∷ 1 ∷ 1 ∷ [])
    × (written ((1 ∷ 2 ∷ []) ∷ (3 ∷ 4 ∷ []) ∷ []) (dump "0A 0B 0C 0D 0E") ≡ dump "01 02 03 04 0E")
    × (map (λ i. row_at 2 i (dump "0A 0B 0C 0D 0E")) (0 ∷ 1 ∷ 2 ∷ []) ≡ dump "0A 0B" ∷ dump "0C 0D" ∷ dump "0E" ∷ [])
unfolding bytes_open
rows = (refl, refl, refl)

-- ---- UTF-16
pub utf16 :
    (is_utf16_lem [] ≡ true)
    × (is_utf16_lem (dump "00 D8 41 00") ≡ false)  -- a lone first half
    × (is_utf16_lem (dump "00 DC") ≡ false)  -- a lone second half
    × (is_utf16_lem (dump "00 D8 00 D8 00 DC") ≡ false)  -- two first halves before a second
    × (is_utf16_lem (dump "41 00 00 D8 00 DC FF FF") ≡ true)  -- a pair between others
    × (is_utf16_lem (dump "FF DB FF DF") ≡ true)  -- the last first half, the last second half
    × (is_utf16_lem (dump "00 E0 FF D7") ≡ true)  -- those beside them
    × (is_utf16_lem (dump "41 00 42") ≡ false)  -- an odd byte
    × (is_utf16_lem (dump "FF DB") ≡ false)  -- a first half at the end
    × (is_utf16_lem (dump "FF DF 41 00") ≡ false)  -- a second half at the start
    × (is_utf16_lem (dump "00 D8 00 E0") ≡ false)  -- a first half, and one that is no second
    × (is_utf16_lem (dump "D8 00 DC 00 D8") ≡ false)  -- the high byte is the second
    × (is_utf16_lem (dump "D8 00 DC 00") ≡ true)
    × (is_utf16_lem (dump "00 00") ≡ true)  -- a NUL
unfolding bytes_open
utf16 = (refl, refl, refl, refl, refl, refl, refl, refl, refl, refl, refl, refl, refl, refl)

-- the characters
pub characters :
    (scalars [] ≡ [])
    × (scalars (dump "3D D8 00 DE") ≡ 0x1F600 ∷ [])  -- K10's pair
    × (scalars (dump "41 00 00 D8 00 DC FF FF") ≡ 0x41 ∷ 0x10000 ∷ 0xFFFF ∷ [])  -- the first pair between others
    × (scalars (dump "FF DB FF DF 34 D8 1E DD") ≡ 0x10FFFF ∷ 0x1D11E ∷ [])  -- the last pair, and another right after it
    × (scalars (dump "FF D7 00 E0") ≡ 0xD7FF ∷ 0xE000 ∷ [])  -- those beside the halves
unfolding bytes_open
characters = (refl, refl, refl, refl, refl)
