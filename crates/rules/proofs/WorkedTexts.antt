-- Worked texts: digits, GUID text and labels into a lent buffer, and the part that a name is.
use Prim.Native.Nat.{ℕ}
use mathlib.Core.Path.{◌≡◌, refl}
use mathlib.Core.List.{List, [], ◌∷◌, ◌++◌, map}
use lib.IntN.{pos, negsuc}
use lib.ListN.{replicate}
use Rattle.rules.specs.Lists.{text}
use Rattle.rules.specs.Answer.{answer, refusal}
use Rattle.rules.specs.Digits.{decimal, hex, signed_decimal}
use Rattle.rules.specs.Texts.{label, guid_exit, label_exit}
use Rattle.rules.specs.NamePart.{of_stream, of_label, name_part, part_bytes_lem}
use Rattle.rules.specs.Dump.{dump}
use Rattle.rules.proofs.OpenBytes.{bytes_open}
use Rattle.rules.proofs.OpenTexts.{texts_open}

-- ---- digits
pub digits :
    (map decimal (0 ∷ 9 ∷ 10 ∷ 99 ∷ 100 ∷ 4294967295 ∷ []) ≡ text "0" ∷ text "9" ∷ text "10" ∷ text "99" ∷ text "100" ∷ text "4294967295" ∷ [])
    × (map (hex 4) (0 ∷ 0x1234 ∷ 0x5678 ∷ 0x9ABC ∷ 0xDEF0 ∷ []) ≡ text "0000" ∷ text "1234" ∷ text "5678" ∷ text "9ABC" ∷ text "DEF0" ∷ [])
    × (map signed_decimal (pos 0 ∷ pos 10 ∷ negsuc 0 ∷ negsuc 9 ∷ []) ≡ text "0" ∷ text "10" ∷ text "-1" ∷ text "-10" ∷ [])
    × (map label (0 ∷ 10 ∷ []) ≡ text "Control_0" ∷ text "Control_10" ∷ [])
unfolding texts_open
digits = (refl, refl, refl, refl)

-- ---- texts into a buffer that is too short, that they just fill, and that is longer
pub texts :
    (guid_exit (replicate 15 0x00) [] ≡ record { answer = refusal 10; out = [] })
    × (guid_exit (replicate 17 0x00) (replicate 40 9) ≡ record { answer = refusal 10; out = replicate 40 9 })
    × (guid_exit (replicate 16 0x00) (replicate 37 9) ≡ record { answer = refusal 9; out = replicate 37 9 })
    × (guid_exit (replicate 16 0x00) (replicate 38 9) ≡ record { answer = answer 0 38 0 0; out = text "{00000000-0000-0000-0000-000000000000}" })
    × (guid_exit (replicate 15 0xAB ++ dump "C9") (replicate 40 9) ≡ record { answer = answer 0 38 0 0; out = text "{ABABABAB-ABAB-ABAB-ABAB-ABABABABABC9}" ++ (9 ∷ 9 ∷ []) })
    × (label_exit 4294967295 (replicate 17 9) ≡ record { answer = refusal 9; out = replicate 17 9 })
    × (label_exit 4294967295 (replicate 18 9) ≡ record { answer = answer 0 18 0 0; out = text "Control_4294967295" })
    × (label_exit 4294967295 (replicate 19 9) ≡ record { answer = answer 0 18 0 0; out = text "Control_4294967295" ++ (9 ∷ []) })
    × (label_exit 0 (replicate 9 9) ≡ record { answer = answer 0 9 0 0; out = text "Control_0" })
unfolding bytes_open texts_open
texts = (refl, refl, refl, refl, refl, refl, refl, refl, refl)

-- ---- a stream of three bytes, a label of two: mark, start, length
abbrev stream : List ℕ
stream = dump "01 02 03"

abbrev buffer : List ℕ
buffer = dump "07 08"

pub parts :
    (name_part stream buffer 0 1 2 ≡ of_stream 1 2)
    × (name_part stream buffer 2 0 3 ≡ of_stream 0 3)
    × (name_part stream buffer 0 3 0 ≡ of_stream 3 0)  -- an empty part at the stream's end is inside
    × (name_part stream buffer 2 3 0 ≡ of_stream 3 0)
    × (name_part stream buffer 0 4 0 ≡ of_stream 0 0)  -- behind it is outside
    × (name_part stream buffer 0 2 2 ≡ of_stream 0 0)
    × (name_part stream buffer 2 1 3 ≡ of_stream 0 0)
    × (name_part stream buffer 1 5 0 ≡ of_label 0 0)
    × (name_part stream buffer 1 5 1 ≡ of_label 0 1)
    × (name_part stream buffer 1 5 2 ≡ of_label 0 2)  -- a label that fills its buffer
    × (name_part stream buffer 1 0 3 ≡ of_stream 0 0)
    × (name_part stream buffer 3 0 1 ≡ of_stream 0 0)
    × (name_part stream [] 1 5 0 ≡ of_label 0 0)  -- no bytes of an empty label
    × (name_part [] buffer 2 0 0 ≡ of_stream 0 0)
    × (name_part stream buffer 0 0xFFFFFFFF 1 ≡ of_stream 0 0)  -- a sum of more than 32 bits
    × (name_part stream buffer 2 1 0xFFFFFFFF ≡ of_stream 0 0)
unfolding bytes_open name_part
parts = (refl, refl, refl, refl, refl, refl, refl, refl, refl, refl, refl, refl, refl, refl, refl, refl)

pub part_bytes : map (part_bytes_lem stream buffer) (of_stream 1 2 ∷ of_stream 3 0 ∷ of_label 0 1 ∷ of_label 1 1 ∷ []) ≡ dump "02 03" ∷ [] ∷ dump "07" ∷ dump "08" ∷ []
unfolding bytes_open
part_bytes = refl
