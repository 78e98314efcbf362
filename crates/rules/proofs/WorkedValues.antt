-- Worked values: by type and bytes in the later layout, by id, bytes and kind in Access 2000; singles.
use Prim.Native.Nat.{ℕ}
use mathlib.Core.Path.{◌≡◌, refl}
use mathlib.Core.Bool.{true, false}
use mathlib.Core.List.{List, [], ◌∷◌, map}
use mathlib.Core.Option.{none, some}
use lib.IntN.{pos, negsuc}
use lib.ListN.{replicate}
use Rattle.rules.specs.Value.{value, word32, fits16, integer_value_lem, widened, entry_value_lem, stored_value_lem, value_as_lem}
use Rattle.rules.specs.Dump.{dump}
use Rattle.rules.proofs.OpenBytes.{bytes_open}

-- ---- the later layout: values at their limits, by type and bytes
pub values :
    (entry_value_lem 0x01 (dump "00") ≡ value 0 0 0)
    × (entry_value_lem 0x01 (dump "02") ≡ value 0 1 0)
    × (entry_value_lem 0x01 (dump "FE FF") ≡ value 3 0xFFFFFFFE 0)
    × (entry_value_lem 0x02 (dump "FF 7F FF FF") ≡ value 7 0 0)
    × (entry_value_lem 0x02 (dump "00 80 FF FF") ≡ value 2 0xFFFF8000 0)
    × (entry_value_lem 0x03 (dump "00 80") ≡ value 3 0xFFFF8000 0)
    × (entry_value_lem 0x03 [] ≡ value 7 0 0)
    × (entry_value_lem 0x04 (dump "00 00 00 80") ≡ value 3 0x80000000 0)
    × (entry_value_lem 0x06 (dump "01 02 B3 3E") ≡ value 4 0x20000000 0x3FD66040)
    × (entry_value_lem 0x06 (dump "0F 02 B3 3E") ≡ value 4 0xE0000000 0x3FD66041)
    × (entry_value_lem 0x08 (dump "11 22 33 44 55 66 77 88") ≡ value 4 0x44332211 0x88776655)
    × (entry_value_lem 0x07 (replicate 8 0x00) ≡ value 7 0 0)
    × (entry_value_lem 0x08 (replicate 4 0x00) ≡ value 7 0 0)
    × (entry_value_lem 0x06 (replicate 8 0x00) ≡ value 7 0 0)
    × (entry_value_lem 0x09 (replicate 15 0x00) ≡ value 7 0 0)
    × (entry_value_lem 0x0A [] ≡ value 6 0 0)
    × (entry_value_lem 0x0B (dump "41 00") ≡ value 7 0 0)
    × (entry_value_lem 0x010A (dump "41 00") ≡ value 7 0 0)
    × (entry_value_lem 0x00 (dump "01") ≡ value 7 0 0)
    × (entry_value_lem 0x05 (dump "01") ≡ value 7 0 0)
    × (entry_value_lem 0x08 (replicate 9 0x00) ≡ value 7 0 0)
    × (entry_value_lem 0x09 (replicate 17 0x00) ≡ value 7 0 0)
unfolding bytes_open
values = (refl, refl, refl, refl, refl, refl, refl, refl, refl, refl, refl, refl, refl, refl, refl, refl, refl, refl, refl, refl, refl, refl)

-- the mark that a type gives so many bytes of 0xFF
abbrev marks : ℕ → List ℕ
marks type = map (λ n. (entry_value_lem type (replicate n 0xFF)).mark) (0 ∷ 1 ∷ 2 ∷ 3 ∷ 4 ∷ 5 ∷ 7 ∷ 8 ∷ 9 ∷ 15 ∷ 16 ∷ 17 ∷ [])

-- of 0, 1, 2, 3, 4, 5, 7, 8, 9, 15, 16 and 17 bytes
pub marks-by-type :
    (marks 0x00 ≡ 7 ∷ 7 ∷ 7 ∷ 7 ∷ 7 ∷ 7 ∷ 7 ∷ 7 ∷ 7 ∷ 7 ∷ 7 ∷ 7 ∷ [])
    × (marks 0x01 ≡ 1 ∷ 0 ∷ 3 ∷ 7 ∷ 3 ∷ 7 ∷ 7 ∷ 7 ∷ 7 ∷ 7 ∷ 7 ∷ 7 ∷ [])
    × (marks 0x02 ≡ 7 ∷ 2 ∷ 2 ∷ 7 ∷ 2 ∷ 7 ∷ 7 ∷ 7 ∷ 7 ∷ 7 ∷ 7 ∷ 7 ∷ [])
    × (marks 0x03 ≡ 7 ∷ 3 ∷ 3 ∷ 7 ∷ 3 ∷ 7 ∷ 7 ∷ 7 ∷ 7 ∷ 7 ∷ 7 ∷ 7 ∷ [])
    × (marks 0x04 ≡ 7 ∷ 3 ∷ 3 ∷ 7 ∷ 3 ∷ 7 ∷ 7 ∷ 7 ∷ 7 ∷ 7 ∷ 7 ∷ 7 ∷ [])
    × (marks 0x05 ≡ 7 ∷ 7 ∷ 7 ∷ 7 ∷ 7 ∷ 7 ∷ 7 ∷ 7 ∷ 7 ∷ 7 ∷ 7 ∷ 7 ∷ [])
    × (marks 0x06 ≡ 7 ∷ 7 ∷ 7 ∷ 7 ∷ 4 ∷ 7 ∷ 7 ∷ 7 ∷ 7 ∷ 7 ∷ 7 ∷ 7 ∷ [])
    × (marks 0x07 ≡ 7 ∷ 7 ∷ 7 ∷ 7 ∷ 7 ∷ 7 ∷ 7 ∷ 7 ∷ 7 ∷ 7 ∷ 7 ∷ 7 ∷ [])
    × (marks 0x08 ≡ 7 ∷ 7 ∷ 7 ∷ 7 ∷ 7 ∷ 7 ∷ 7 ∷ 4 ∷ 7 ∷ 7 ∷ 7 ∷ 7 ∷ [])
    × (marks 0x09 ≡ 7 ∷ 7 ∷ 7 ∷ 7 ∷ 7 ∷ 7 ∷ 7 ∷ 7 ∷ 7 ∷ 7 ∷ 5 ∷ 7 ∷ [])
    × (marks 0x0A ≡ 6 ∷ 8 ∷ 6 ∷ 8 ∷ 6 ∷ 8 ∷ 8 ∷ 6 ∷ 8 ∷ 8 ∷ 6 ∷ 8 ∷ [])
    × (marks 0x0B ≡ 7 ∷ 7 ∷ 7 ∷ 7 ∷ 7 ∷ 7 ∷ 7 ∷ 7 ∷ 7 ∷ 7 ∷ 7 ∷ 7 ∷ [])
    × (marks 0x0C ≡ 6 ∷ 8 ∷ 6 ∷ 8 ∷ 6 ∷ 8 ∷ 8 ∷ 6 ∷ 8 ∷ 8 ∷ 6 ∷ 8 ∷ [])
    × (marks 0x0D ≡ 7 ∷ 7 ∷ 7 ∷ 7 ∷ 7 ∷ 7 ∷ 7 ∷ 7 ∷ 7 ∷ 7 ∷ 7 ∷ 7 ∷ [])
unfolding bytes_open
marks-by-type = (refl, refl, refl, refl, refl, refl, refl, refl, refl, refl, refl, refl, refl, refl)

-- ---- whole numbers: one byte unsigned, two and four signed
pub integers :
    (integer_value_lem [] ≡ none)
    × (integer_value_lem (dump "FF") ≡ some (pos 255))
    × (integer_value_lem (dump "FF 7F") ≡ some (pos 32767))
    × (integer_value_lem (dump "00 80") ≡ some (negsuc 32767))
    × (integer_value_lem (dump "FF FF") ≡ some (negsuc 0))
    × (integer_value_lem (dump "01 02 03") ≡ none)
    × (integer_value_lem (dump "FF FF FF 7F") ≡ some (pos 2147483647))
    × (integer_value_lem (dump "00 00 00 80") ≡ some (negsuc 2147483647))
    × (integer_value_lem (dump "11 22 33 44") ≡ some (pos 0x44332211))
    × (integer_value_lem (dump "11 22 33 44 55") ≡ none)
    × (map fits16 (pos 32767 ∷ pos 32768 ∷ negsuc 32767 ∷ negsuc 32768 ∷ []) ≡ true ∷ false ∷ true ∷ false ∷ [])
    × (map word32 (pos 0 ∷ pos 32768 ∷ negsuc 0 ∷ negsuc 2147483647 ∷ []) ≡ 0 ∷ 32768 ∷ 0xFFFFFFFF ∷ 0x80000000 ∷ [])
unfolding bytes_open
integers = (refl, refl, refl, refl, refl, refl, refl, refl, refl, refl, refl, refl)

-- ---- Access 2000: what is stored, by an id on either side of each limit, out of four bytes
pub stored :
    map (λ id. stored_value_lem id (dump "81 92 A3 B4")) (0x00 ∷ 0x2F ∷ 0x30 ∷ 0x5F ∷ 0x60 ∷ 0x7F ∷ 0x80 ∷ 0xBC ∷ 0xBD ∷ 0xFC ∷ [])
    ≡ value 1 0 0 ∷ value 1 0 0 ∷ value 2 0x81 0 ∷ value 2 0x81 0 ∷ value 2 0xFFFF9281 0 ∷ value 2 0xFFFF9281 0
    ∷ value 3 0xB4A39281 0 ∷ value 3 0xB4A39281 0 ∷ value 7 0 0 ∷ value 7 0 0 ∷ []
unfolding bytes_open
stored = refl

-- a kind speaks of ids above 0xBC only; kinds 0 and 4 leave bytes Binary; a Guid has 16 bytes, a Double 8
pub kinds :
    (value_as_lem 1 0xBC (dump "41 00 42 00") ≡ value 3 0x00420041 0)
    × (value_as_lem 1 0xBD (dump "41 00 42 00") ≡ value 6 0 0)
    × (value_as_lem 1 0xBD (dump "00 D8") ≡ value 7 0 0)
    × (value_as_lem 1 0xBD [] ≡ value 6 0 0)
    × (value_as_lem 0 0xFC (dump "41 00") ≡ value 7 0 0)
    × (value_as_lem 0 0xFC (dump "41 00 00 00") ≡ value 7 0 0)
    × (value_as_lem 3 0xBD (dump "00 00 80 3F") ≡ value 7 0 0)
    × (value_as_lem 4 0xFC (dump "41 00") ≡ value 7 0 0)
    × (value_as_lem 2 0xBC (replicate 16 0x00) ≡ value 3 0 0)
    × (value_as_lem 2 0xBD (replicate 15 0x00) ≡ value 7 0 0)
    × (value_as_lem 2 0xBD (replicate 16 0x00) ≡ value 5 0 0)
    × (value_as_lem 2 0xBD (replicate 17 0x00) ≡ value 7 0 0)
    × (value_as_lem 3 0xBC (dump "11 22 33 44 55 66 77 88") ≡ value 3 0x44332211 0)
    × (value_as_lem 3 0xBD (dump "11 22 33 44 55 66 77 88") ≡ value 4 0x44332211 0x88776655)
    × (value_as_lem 3 0xBD (replicate 7 0x00) ≡ value 7 0 0)
    × (value_as_lem 3 0xBD (replicate 9 0x00) ≡ value 7 0 0)
unfolding bytes_open
kinds = (refl, refl, refl, refl, refl, refl, refl, refl, refl, refl, refl, refl, refl, refl, refl, refl)

-- the mark that each kind gives eight, and sixteen, bytes of 0x41
pub marks-by-kind :
    (map (λ kind. (value_as_lem kind 0xBD (replicate 8 0x41)).mark) (0 ∷ 1 ∷ 2 ∷ 3 ∷ 4 ∷ []) ≡ 7 ∷ 6 ∷ 7 ∷ 4 ∷ 7 ∷ [])
    × (map (λ kind. (value_as_lem kind 0xBD (replicate 16 0x41)).mark) (0 ∷ 1 ∷ 2 ∷ 3 ∷ 4 ∷ []) ≡ 7 ∷ 6 ∷ 5 ∷ 7 ∷ 7 ∷ [])
unfolding bytes_open
marks-by-kind = (refl, refl)

-- ---- singles
pub singles :
    map widened (0x3F800000 ∷ 1 ∷ 0x007FFFFF ∷ 0x7F7FFFFF ∷ [])  -- one, the least and the largest subnormal, the largest number
    ≡ 0x3FF0000000000000 ∷ 0x36A0000000000000 ∷ 0x380FFFFFC0000000 ∷ 0x47EFFFFFE0000000 ∷ []
unfolding bytes_open
singles = refl

pub other_singles :
    map widened (0x7F800000 ∷ 0xFF800000 ∷ 0 ∷ 0x80000000 ∷ 0x00800000 ∷ 0xBF800001 ∷ [])  -- the infinities, both zeros, the least normal number, below -1
    ≡ 0x7FF0000000000000 ∷ 0xFFF0000000000000 ∷ 0 ∷ 0x8000000000000000 ∷ 0x3810000000000000 ∷ 0xBFF0000020000000 ∷ []
unfolding bytes_open
other_singles = refl

pub nans :
    map widened (0xFF800001 ∷ 0x7FC00000 ∷ 0x7F800001 ∷ 0x7FBFFFFF ∷ 0xFFFFFFFF ∷ [])
    ≡ 0xFFF8000020000000 ∷ 0x7FF8000000000000 ∷ 0x7FF8000020000000 ∷ 0x7FFFFFFFE0000000 ∷ 0xFFFFFFFFE0000000 ∷ []
unfolding bytes_open
nans = refl
