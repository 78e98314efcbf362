-- Worked listings: every mark's word and value, and the input's refusals.
use Prim.Native.Nat.{ℕ, ◌+◌, ◌≤◌, ◌<◌}
use native.Mathlib.Omega.{arith}
use mathlib.Core.Path.{◌≡◌, refl}
use mathlib.Core.List.{List, [], ◌∷◌, ◌++◌, map}
use borrow.Author.Tests.{lt-ltb, le-ltb}
use lib.ListN.{length, replicate}
use Rattle.rules.specs.Lists.{concat, text}
use Rattle.rules.specs.Blob.{outcome}
use Rattle.rules.specs.Listing.{line, word, name_column, parent_column, mark_word, value_column, printed, table_length, table_in, blob_in, listing}
use Rattle.rules.specs.Dump.{dump}
use Rattle.rules.specs.Examples.{table}
use Rattle.rules.proofs.Open.{rules_open}
use Rattle.rules.proofs.WorkedLater.{tree}

pub listed : printed tree (outcome table tree 256 1024)
    ≡ concat (text "answer 0 5 17 11\n"
    ∷ text "C 0 0098 Detail 1 11 1 0 -\n"
    ∷ text "C 1 006D TextBox - 12 2 1 0\n"
    ∷ text "C 2 0065 Rectangle - 14 1 0 -\n"
    ∷ text "C 3 0066 Line 1b 15 1 1 2\n"
    ∷ text "C 4 009E GroupFooter - 16 1 0 -\n"
    ∷ text "P 0 0061 ControlBox bool yes\n"
    ∷ text "P 1 001A - notdefault -\n"
    ∷ text "P 2 0036 Left short -2\n"
    ∷ text "P 3 00CC ForeColor long -2147286527\n"
    ∷ text "P 4 0005 - double BFF8000000000000\n"
    ∷ text "P 5 0006 AutoResize double 4000000200000001\n"
    ∷ text "P 6 0178 GUID guid {03020100-0504-0706-0809-0A0B0C0D0E0F}\n"
    ∷ text "P 7 0011 Caption text 1\n"
    ∷ text "P 8 00AB OleData binary 3\n"
    ∷ text "P 9 0014 Name text 1\n"
    ∷ text "P 10 009C RecordSource loose 1\n"
    ∷ text "P 11 0014 Name text 1\n"
    ∷ text "P 12 0014 - long 1\n"
    ∷ text "P 13 0014 Name text 1\n"
    ∷ text "P 14 0005 - notdefault -\n"
    ∷ text "P 15 0014 Name loose 1\n"
    ∷ text "P 16 0005 - binary 3\n" ∷ [])
unfolding rules_open
listed = refl

-- an untied id has no name, whatever its raw code has; a type's name goes by both of its bytes, as shown
abbrev unnamed : List ℕ
unnamed = dump "2A" ++ replicate 9 0x00 ++ dump "36 05" ++ dump "FF 02 00" ++ dump "64 01 FF 00 00" ++ dump "99 18 FF 00 00"

pub listed-unnamed : printed unnamed (outcome table unnamed 256 1024)
    ≡ concat (text "answer 0 2 1 1\n"
    ∷ text "C 0 0164 - - 1 0 0 -\n"
    ∷ text "C 1 1899 FormHeader - 1 0 0 -\n"
    ∷ text "P 0 8036 - short 5\n" ∷ [])
unfolding rules_open
listed-unnamed = refl

-- a Guid that starts at 12
abbrev guid : List ℕ
guid = dump "2A" ++ replicate 9 0x00 ++ dump "BD 10  10 11 12 13 14 15 16 17 18 19 1A 1B 1C 1D 1E 1F" ++ dump "FF 00 00"

-- form: 0xBD Guid
abbrev guid_table : List ℕ
guid_table = dump "2A 00  01 00  00 00 00  01 00  BD 78 01 02"

pub listed-guid : listing (dump "0D 00 00 00" ++ guid_table ++ guid) ≡ text "answer 0 0 1 1\nP 0 0178 GUID guid {13121110-1514-1716-1819-1A1B1C1D1E1F}\n"
unfolding rules_open
listed-guid = refl

-- ---- inputs: the length of the table, the table, a Blob
pub inputs :
    (listing (dump "00 00 00") ≡ text "answer 8 0 0 0\n")  -- under four bytes
    × (listing (dump "05 00 00 00  01 00 00 00") ≡ text "answer 8 0 0 0\n")  -- a byte of the table is missing
    × (listing (dump "04 00 00 00  01 00 00 00") ≡ text "answer 0 0 0 0\n")  -- no Blob
    × (listing (dump "04 00 00 00  01 00 00 00  01") ≡ text "answer 4 0 0 0\n")
    × (listing (dump "04 01 00 00  01 00 00 00") ≡ text "answer 8 0 0 0\n")  -- a length of two bytes
    × (listing (dump "04 00 01 00  01 00 00 00") ≡ text "answer 8 0 0 0\n")  -- of three
    × (listing (dump "04 00 00 01  01 00 00 00") ≡ text "answer 8 0 0 0\n")  -- of four
    × (listing (dump "FC FF FF FF  01 00 00 00") ≡ text "answer 8 0 0 0\n")  -- with the four bytes before it more than 32 bits
unfolding rules_open
inputs = (refl, refl, refl, refl, refl, refl, refl, refl)

-- ---- fields: a value by mark, low, high, length and bytes; a control's name by mark, length and bytes; its parent
pub fields :
    (map (λ low. value_column 0 low 0 1 []) (0 ∷ 1 ∷ []) ≡ text "no" ∷ text "yes" ∷ [])
    × (value_column 1 7 7 7 [] ≡ text "-")
    × (map (λ low. value_column 2 low 7 2 []) (0 ∷ 32767 ∷ 0xFFFF8000 ∷ []) ≡ text "0" ∷ text "32767" ∷ text "-32768" ∷ [])
    × (map (λ low. value_column 3 low 7 4 []) (0x7FFFFFFF ∷ 0x80000000 ∷ 0xFFFFFFFF ∷ []) ≡ text "2147483647" ∷ text "-2147483648" ∷ text "-1" ∷ [])
    × (value_column 4 0x9ABCDEF0 0x12345678 8 [] ≡ text "123456789ABCDEF0")
    × (map (λ mark. value_column mark 0 0 15 (dump "41 00 3D D8 00 DE 42 00")) (6 ∷ 7 ∷ 8 ∷ []) ≡ text "3" ∷ text "15" ∷ text "15" ∷ [])
    × (value_column 6 7 7 0 [] ≡ text "0")
    × (name_column 0 0 [] ≡ text "0")
    × (map (λ mark. name_column mark 11 (dump "41 00 3D D8 00 DE 42 00")) (0 ∷ 1 ∷ 2 ∷ 3 ∷ []) ≡ text "3" ∷ text "-" ∷ text "11b" ∷ text "3" ∷ [])
    × (map parent_column (0 ∷ 0xFFFFFFFE ∷ 0xFFFFFFFF ∷ []) ≡ text "0" ∷ text "4294967294" ∷ text "-" ∷ [])
    × (map mark_word (0 ∷ 1 ∷ 2 ∷ 3 ∷ 4 ∷ 5 ∷ 6 ∷ 7 ∷ 8 ∷ []) ≡ text "bool" ∷ text "notdefault" ∷ text "short" ∷ text "long" ∷ text "double" ∷ text "guid" ∷ text "text" ∷ text "binary" ∷ text "loose" ∷ [])
    × (line [] ≡ text "\n")
    × (map (word (1 ∷ 2 ∷ [])) (0 ∷ 1 ∷ 2 ∷ []) ≡ 1 ∷ 2 ∷ 0 ∷ [])
unfolding rules_open
fields = (refl, refl, refl, refl, refl, refl, refl, refl, refl, refl, refl, refl, refl)

-- whatever fits the buffer is listed, with room for 256 controls and 1,024 properties
pub lists : (input : List ℕ) → length input ≤ 32768 → 4 + table_length input ≤ length input
    → listing input ≡ printed (blob_in input) (outcome (table_in input) (blob_in input) 256 1024)
unfolding listing
lists input h k = rw (le-ltb 32768 (length input) h, le-ltb (length input) 4 (omega arith), le-ltb (length input) (4 + table_length input) k)

pub too_much : (input : List ℕ) → 32768 < length input → listing input ≡ text "answer 5 0 0 0\n"
unfolding rules_open
too_much input h = rw (lt-ltb 32768 (length input) h)
