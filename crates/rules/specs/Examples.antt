-- Proved examples: K1 to K12, as one list.
use Rattle.std.specs.Prelude.{ℕ, ◌≡◌, true, false, List, [], ◌∷◌, ◌++◌, pos, replicate}
use Rattle.std.proofs.Math.Option.{some}
use Rattle.rules.specs.Lists.{concat, text}
use Rattle.rules.specs.Answer.{answer, refusal}
use Rattle.rules.specs.Utf16.{is_utf16_lem}
use Rattle.rules.specs.Value.{short_value, long_value, not_default, binary_value, entry_value_lem}
use Rattle.rules.specs.Texts.{guid_text_lem}
use Rattle.rules.specs.TypeInfo.{type_info_answer}
use Rattle.rules.specs.Access2000.{length_at}
use Rattle.rules.specs.Blob.{exit}
use Rattle.rules.specs.Listing.{listing}
use Rattle.rules.specs.Dump.{dump}

-- a word that stands in a lent slice before the call
abbrev pub old : ℕ
old = 0xEEEEEEEE

-- ---- K1's input: the code table and the Blob of the worked example
abbrev pub table : List ℕ
table = dump "2A 00 01 00 02 64 00 02 00 60 36 00 00 DC 14 00 01"

abbrev pub blob : List ℕ
blob = dump "2A" ++ replicate 9 0x00 ++ dump "31 05 FE 98 00 FE 64 00 60 FF FF DC 02 41 00 FD"

-- ---- K7's: a top list of one entry, without a list and with an empty one
abbrev pub without_list : List ℕ
without_list = dump "2A" ++ replicate 9 0x00 ++ dump "FE 64 00 FD"

abbrev pub with_empty_list : List ℕ
with_empty_list = dump "2A" ++ replicate 9 0x00 ++ dump "FE 64 00 FF 00 00"

-- ---- K8's: 0x64 stands before a section that is reported, so that the tree must be read
abbrev pub childless : List ℕ
childless =
    replicate 14 0x00
    ++ dump "05 00  01 00 00 00  00 00 00 00  00 00 00 00  FF 00 00 00  02 00"  -- the object: a flag; trailer 255, and two nodes
    ++ dump "64 00  00 00 00 00"  -- node 0x64
    ++ dump "05 00  01 00 00 00  00 00 00 00  00 00 00 00  FF 00 00 00  00 00"  -- a flag; trailer 255, and count 0
    ++ dump "98 00  00 00 00 00"  -- node 0x98
    ++ dump "05 00  01 00 00 00  00 00 00 00  00 00 00 00  FD 00 00 00"  -- a flag; trailer 253, no children

-- ---- K9's: TypeInfo of 40 bytes, with the count 1 and with 2
abbrev pub one_entry : List ℕ
one_entry = dump "F7 EA CD AC" ++ replicate 8 0x00 ++ dump "01 00 00 00" ++ replicate 24 0x00

abbrev pub two_entries : List ℕ
two_entries = dump "F7 EA CD AC" ++ replicate 8 0x00 ++ dump "02 00 00 00" ++ replicate 24 0x00

pub record Examples : Type 0 where
  -- K1: the reading above, word for word, and what the listing prints
  pub k1 : exit table blob (replicate 17 old) (replicate 20 old) ≡ record {
    answer = answer 0 2 3 1;
    controls = 0x98 ∷ 1 ∷ 0 ∷ 9 ∷ 1 ∷ 0 ∷ 0 ∷ 0xFFFFFFFF
        ∷ 0x64 ∷ 0 ∷ 23 ∷ 2 ∷ 1 ∷ 2 ∷ 1 ∷ 0
        ∷ old ∷ [];
    properties = 0x8031 ∷ 2 ∷ 5 ∷ 0 ∷ 11 ∷ 1
        ∷ 0x36 ∷ 2 ∷ 0xFFFFFFFF ∷ 0 ∷ 19 ∷ 2
        ∷ 0x14 ∷ 6 ∷ 0 ∷ 0 ∷ 23 ∷ 2
        ∷ old ∷ old ∷ [];
  }
  pub k1-printed : listing (dump "11 00 00 00" ++ table ++ blob)
      ≡ concat (text "answer 0 2 3 1\n"
      ∷ text "C 0 0098 Detail - 1 0 0 -\n"
      ∷ text "C 1 0064 Label 1 1 2 1 0\n"
      ∷ text "P 0 8031 - short 5\n"
      ∷ text "P 1 0036 Left short -1\n"
      ∷ text "P 2 0014 Name text 1\n" ∷ [])
  -- K2: type 0x02, FF 7F 00 00 is Short 32767; 00 80 00 00 Binary
  pub k2_fits : entry_value_lem 0x02 (dump "FF 7F 00 00") ≡ short_value (pos 32767)
  pub k2_not : entry_value_lem 0x02 (dump "00 80 00 00") ≡ binary_value
  -- K3: 0x02, FF is Short 255
  pub k3 : entry_value_lem 0x02 (dump "FF") ≡ short_value (pos 255)
  -- K4: 0x01, 01 00 is Long 1
  pub k4 : entry_value_lem 0x01 (dump "01 00") ≡ long_value (pos 1)
  -- K5: 0x01 empty is NotDefault
  pub k5 : entry_value_lem 0x01 [] ≡ not_default
  -- K6: length FD is 253; FF 05 00 is 5
  pub k6_one : length_at (dump "FD") 0 ≡ some (1, 253)
  pub k6_two : length_at (dump "FF 05 00") 0 ≡ some (3, 5)
  -- K7: a 2000 top entry 64 00 FD isn't reported, 64 00 FF 00 00 is
  pub k7_no : (exit table without_list (replicate 8 old) []).answer ≡ answer 0 0 0 0
  pub k7_yes : (exit table with_empty_list (replicate 8 old) []).answer ≡ answer 0 1 0 0
  -- K8: a later top node 0x64 with trailer 255 and count 0 isn't reported
  pub k8 : exit table childless (replicate 8 old) (replicate 12 old) ≡ record {
    answer = answer 0 1 2 1;
    controls = 0x98 ∷ 1 ∷ 0 ∷ 9 ∷ 1 ∷ 1 ∷ 0 ∷ 0xFFFFFFFF ∷ [];
    properties = 0x05 ∷ 1 ∷ 0 ∷ 0 ∷ 28 ∷ 0
        ∷ 0x05 ∷ 1 ∷ 0 ∷ 0 ∷ 80 ∷ 0 ∷ [];
  }
  -- K9: TypeInfo of 31 bytes gives 1; 40 bytes with count 1 is read, count 2 gives 3
  pub k9_short : type_info_answer (replicate 31 0x00) 1 ≡ refusal 1
  pub k9_read : type_info_answer one_entry 1 ≡ answer 0 1 0 0
  pub k9_many : type_info_answer two_entries 1 ≡ refusal 3
  -- K10: 3D D8 00 DE is UTF-16, 3D D8 isn't
  pub k10_yes : is_utf16_lem (dump "3D D8 00 DE") ≡ true
  pub k10_no : is_utf16_lem (dump "3D D8") ≡ false
  -- K11: GUID bytes 00 to 0F give {03020100-0504-0706-0809-0A0B0C0D0E0F}
  pub k11 : guid_text_lem (dump "00 01 02 03 04 05 06 07 08 09 0A 0B 0C 0D 0E 0F")
      ≡ text "{03020100-0504-0706-0809-0A0B0C0D0E0F}"
  -- K12: single 00 00 C0 3F is 3FF8000000000000
  pub k12 : entry_value_lem 0x06 (dump "00 00 C0 3F") ≡ record { mark = 4; low = 0x00000000; high = 0x3FF80000 }
