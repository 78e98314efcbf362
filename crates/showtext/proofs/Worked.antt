-- Worked examples: texts, bytes and values by hand.
use mathlib.Core.Path.{◌≡◌, refl}
use mathlib.Core.List.{[], ◌∷◌}
use Rattle.rules.specs.Lists.{concat, text}
use Rattle.rules.specs.Digits.{digit, decimal_by, decimal, hex, signed_decimal}
use Rattle.rules.specs.Scalars.{scalar, scalars_from, scalars}
use Rattle.rules.specs.Utf8.{utf8_of}
use Rattle.rules.specs.Texts.{hexes, guid_text_lem}
use Rattle.rules.specs.Value.{signed}
use Rattle.rules.specs.Csv.{hex_text}
use Rattle.rules.specs.Listing.{yes_or_no, number32}
use Rattle.showtext.specs.Shown.{within, is_turning, is_hidden, written, spelled, letters, quoted, cut_mark, first_bytes, bytes_text, loose_text, value_by}

-- `a`, a quote, a backslash, LF, CR, tab, NUL, DEL
escapes : quoted (0x61 ∷ 0 ∷ 0x22 ∷ 0 ∷ 0x5C ∷ 0 ∷ 0x0A ∷ 0 ∷ 0x0D ∷ 0 ∷ 0x09 ∷ 0 ∷ 0 ∷ 0 ∷ 0x7F ∷ 0 ∷ []) ≡ text "\"a\\\"\\\\\\n\\r\\t\\u0000\\u007F\""
unfolding quoted letters concat scalars scalars_from scalar spelled written is_hidden is_turning within utf8_of hex digit
escapes = refl

-- U+061C, U+200E, U+202E, U+2066 and U+FEFF are hidden; U+2010 and U+2070 aren't
turning : quoted (0x1C ∷ 0x06 ∷ 0x0E ∷ 0x20 ∷ 0x2E ∷ 0x20 ∷ 0x66 ∷ 0x20 ∷ 0xFF ∷ 0xFE ∷ []) ≡ text "\"\\u061C\\u200E\\u202E\\u2066\\uFEFF\""
unfolding quoted letters concat scalars scalars_from scalar spelled written is_hidden is_turning within utf8_of hex digit
turning = refl

other-marks : quoted (0x10 ∷ 0x20 ∷ 0x70 ∷ 0x20 ∷ []) ≡ 0x22 ∷ 0xE2 ∷ 0x80 ∷ 0x90 ∷ 0xE2 ∷ 0x81 ∷ 0xB0 ∷ 0x22 ∷ []
unfolding quoted letters concat scalars scalars_from scalar spelled written is_hidden is_turning within utf8_of hex digit
other-marks = refl

-- u with two dots, and U+1F600, a pair
signs : quoted (0xFC ∷ 0 ∷ 0x3D ∷ 0xD8 ∷ 0x00 ∷ 0xDE ∷ []) ≡ 0x22 ∷ 0xC3 ∷ 0xBC ∷ 0xF0 ∷ 0x9F ∷ 0x98 ∷ 0x80 ∷ 0x22 ∷ []
unfolding quoted letters concat scalars scalars_from scalar spelled written is_hidden is_turning within utf8_of hex digit
signs = refl

-- ---- values
a_bool : value_by [] 0 1 0 0 0 ≡ text "yes"
unfolding value_by yes_or_no
a_bool = refl

not_default_lem : value_by [] 1 0 0 0 0 ≡ text "set"
unfolding value_by
not_default_lem = refl

a_short : value_by [] 2 0xFFFFFFFE 0 0 0 ≡ text "-2"
unfolding value_by number32 signed signed_decimal decimal decimal_by digit
a_short = refl

a_long : value_by [] 3 1440 0 0 0 ≡ text "1440"
unfolding value_by number32 signed signed_decimal decimal decimal_by digit
a_long = refl

a_double : value_by [] 4 0 0x3FF80000 0 0 ≡ text "double 3FF8000000000000"
unfolding value_by hex digit
a_double = refl

a_guid : value_by (9 ∷ 0 ∷ 1 ∷ 2 ∷ 3 ∷ 4 ∷ 5 ∷ 6 ∷ 7 ∷ 8 ∷ 9 ∷ 10 ∷ 11 ∷ 12 ∷ 13 ∷ 14 ∷ 15 ∷ []) 5 0 0 1 16 ≡ text "{03020100-0504-0706-0809-0A0B0C0D0E0F}"
unfolding value_by guid_text_lem hexes hex digit
a_guid = refl

a_text : value_by (9 ∷ 0x41 ∷ 0 ∷ 9 ∷ []) 6 0 0 1 2 ≡ text "\"A\""
unfolding value_by quoted letters concat scalars scalars_from scalar spelled written is_hidden is_turning within utf8_of
a_text = refl

a_binary : value_by (9 ∷ 0xAB ∷ 0x01 ∷ 9 ∷ []) 7 0 0 1 2 ≡ text "binary 2 bytes AB01"
unfolding value_by bytes_text first_bytes cut_mark hex_text hex digit decimal decimal_by
a_binary = refl

no_binary : value_by (9 ∷ []) 7 0 0 1 0 ≡ text "binary 0 bytes"
unfolding value_by bytes_text first_bytes cut_mark hex_text hex digit decimal decimal_by
no_binary = refl

a_loose : value_by (0x41 ∷ 0 ∷ 0x42 ∷ []) 8 0 0 0 3 ≡ text "loose 3 bytes 410042"
unfolding value_by loose_text bytes_text first_bytes cut_mark hex_text hex digit decimal decimal_by
a_loose = refl

-- of 33 bytes the first 32 are shown
cut_binary : value_by (1 ∷ 2 ∷ 3 ∷ 4 ∷ 5 ∷ 6 ∷ 7 ∷ 8 ∷ 1 ∷ 2 ∷ 3 ∷ 4 ∷ 5 ∷ 6 ∷ 7 ∷ 8 ∷ 1 ∷ 2 ∷ 3 ∷ 4 ∷ 5 ∷ 6 ∷ 7 ∷ 8 ∷ 1 ∷ 2 ∷ 3 ∷ 4 ∷ 5 ∷ 6 ∷ 7 ∷ 8 ∷ 9 ∷ []) 7 0 0 0 33
    ≡ text "binary 33 bytes 0102030405060708010203040506070801020304050607080102030405060708 .."
unfolding value_by bytes_text first_bytes cut_mark hex_text hex digit decimal decimal_by
cut_binary = refl
