-- Worked streams of "TypeInfo", by computation. Two blanks part the fields of an entry: type code, two bytes, index, names.
use Prim.Native.Nat.{ℕ, ◌-◌, ◌<◌}
use native.Mathlib.Omega.{arith}
use mathlib.Core.Path.{◌≡◌, refl}
use mathlib.Core.Bool.{false}
use mathlib.Core.List.{List, [], ◌∷◌, ◌++◌, map}
use borrow.Author.Tests.{lt-ltb}
use lib.Dec.{eqb}
use lib.ListN.{length, take, drop, replicate}
use Rattle.rules.specs.Lists.{text}
use Rattle.rules.specs.Bytes.{u32}
use Rattle.rules.specs.Answer.{answer, refusal, longest}
use Rattle.rules.specs.TypeInfo.{type_info_of, type_info_answer, type_info_exit}
use Rattle.rules.specs.Dump.{dump}
use Rattle.rules.proofs.OpenBytes.{bytes_open}
use Rattle.rules.proofs.OpenTypeInfo.{type_info_open}

-- a word that stands in a lent slice before the call
abbrev old : ℕ
old = 0xEEEEEEEE

abbrev info : List ℕ
info =
    dump "F7 EA CD AC" ++ replicate 8 0x00 ++ dump "06 00 00 00" ++ replicate 16 0x00  -- the magic; the count says six
    ++ dump "6D 12  09 09  01 00 00 00" ++ text "Ab\0\0"  -- a first name
    ++ dump "FF 1E  00 00  02 00 00 00" ++ text "x\0\0"  -- 0x1EFF: not reported
    ++ dump "77 02  00 00  03 00 00 00" ++ text "p\0Real\0" ++ replicate 36 0x01  -- a second name; 36 bytes more
    ++ dump "64 0C  00 00  04 03 02 01" ++ text "\0cut"  -- a name that the stream's end cuts

pub a_type_info : type_info_exit info (replicate 16 old) ≡ record {
  answer = answer 0 3 0 0;
  rows = 0x126D ∷ 1 ∷ 40 ∷ 2 ∷ 0
      ∷ 0x277 ∷ 3 ∷ 65 ∷ 4 ∷ 0
      ∷ 0xC64 ∷ 0x01020304 ∷ 115 ∷ 3 ∷ 1
      ∷ old ∷ [];
}
unfolding bytes_open type_info_open
a_type_info = refl

-- ---- types, and names that are empty
abbrev types : List ℕ
types =
    dump "F7 EA CD AC" ++ replicate 8 0x00 ++ dump "0A 00 00 00" ++ replicate 16 0x00  -- the count says ten
    ++ dump "FF 00  00 00  01 00 00 00  41 00  00"  -- 0x00FF is reported
    ++ dump "00 1E  00 00  02 00 00 00  00  00"  -- 0x1E00; both names are empty: the first one's place
    ++ dump "FE 1E  00 00  03 00 00 00  00  42 00"  -- 0x1EFE; the second name
    ++ dump "00 1F  00 00  04 00 00 00  43 43 00  44 00"  -- 0x1F00; both: the second
    ++ dump "FF 1E  00 00  05 00 00 00  00  00"  -- 0x1EFF is not reported
    ++ dump "02 77  00 00  06 00 00 00  00  00"  -- 0x7702: no 36 bytes
    ++ dump "76 00  00 00  07 00 00 00  00  00"  -- 0x76: none
    ++ dump "78 00  00 00  08 00 00 00  00  00"  -- 0x78: none
    ++ dump "77 00  00 00  09 00 00 00  00  00" ++ replicate 35 0x41  -- 0x77: of 36 bytes one is missing

pub types_and_names : type_info_exit types (replicate 40 old) ≡ record {
  answer = answer 0 8 0 0;
  rows = 0x00FF ∷ 1 ∷ 40 ∷ 1 ∷ 0
      ∷ 0x1E00 ∷ 2 ∷ 51 ∷ 0 ∷ 0
      ∷ 0x1EFE ∷ 3 ∷ 62 ∷ 1 ∷ 0
      ∷ 0x1F00 ∷ 4 ∷ 75 ∷ 1 ∷ 0
      ∷ 0x7702 ∷ 6 ∷ 95 ∷ 0 ∷ 0
      ∷ 0x76 ∷ 7 ∷ 105 ∷ 0 ∷ 0
      ∷ 0x78 ∷ 8 ∷ 115 ∷ 0 ∷ 0
      ∷ 0x77 ∷ 9 ∷ 125 ∷ 0 ∷ 0 ∷ [];
}
unfolding bytes_open type_info_open
types_and_names = refl

-- ---- names that the stream's end cuts. Wish 6: "1 if the name used ended at the stream's end, 0 if at a NUL"
-- an entry with the names "ab" and "cd", whole and cut at each place after its index
abbrev names : List ℕ
names =
    dump "F7 EA CD AC" ++ replicate 8 0x00 ++ dump "01 00 00 00" ++ replicate 16 0x00
    ++ dump "64 0C  00 00  01 00 00 00" ++ text "ab\0cd\0"

-- start, size and cut of the name of its row, where the stream's last n bytes are lost
abbrev without : ℕ → List ℕ
without n = drop 2 (type_info_exit (take (46 - n) names) (replicate 5 old)).rows

pub names-cut :
    (without 0 ≡ 43 ∷ 2 ∷ 0 ∷ [])  -- whole: the second name
    × (without 1 ≡ 43 ∷ 2 ∷ 1 ∷ [])  -- its NUL is lost
    × (without 2 ≡ 43 ∷ 1 ∷ 1 ∷ [])  -- within the second name
    × (without 3 ≡ 40 ∷ 2 ∷ 0 ∷ [])  -- right after the first name's NUL: the first name is whole, that there was a second isn't told
    × (without 4 ≡ 40 ∷ 2 ∷ 1 ∷ [])  -- the first name's NUL is lost
    × (without 5 ≡ 40 ∷ 1 ∷ 1 ∷ [])  -- within the first name
    × (without 6 ≡ 40 ∷ 0 ∷ 1 ∷ [])  -- no byte of a name is left: both are empty, and the first has no NUL
unfolding bytes_open type_info_open
names-cut = (refl, refl, refl, refl, refl, refl, refl)

-- an entry that isn't reported is cut: the stream lost its tail, and no row says so
abbrev cut_unreported : List ℕ
cut_unreported =
    dump "F7 EA CD AC" ++ replicate 8 0x00 ++ dump "02 00 00 00" ++ replicate 16 0x00
    ++ dump "64 0C  00 00  01 00 00 00" ++ text "ab\0\0"
    ++ dump "FF 1E  00 00  02 00 00 00" ++ text "c"

pub cut_unreported_lem : type_info_exit cut_unreported (replicate 5 old) ≡ record { answer = answer 0 1 0 0; rows = 0x0C64 ∷ 1 ∷ 40 ∷ 2 ∷ 0 ∷ [] }
unfolding bytes_open type_info_open
cut_unreported_lem = refl

-- ---- refusals
-- one byte; 40 of another magic
abbrev one_byte_lem : List ℕ
one_byte_lem = dump "F7"

abbrev other_magic : List ℕ
other_magic = replicate 40 0xFF

-- a count of one, in 40 bytes
abbrev one_entry : List ℕ
one_entry = dump "F7 EA CD AC" ++ replicate 8 0x00 ++ dump "01 00 00 00" ++ replicate 24 0x00

-- a count of two needs 48 bytes: 47 and 48
abbrev forty_seven : List ℕ
forty_seven = dump "F7 EA CD AC" ++ replicate 8 0x00 ++ dump "02 00 00 00" ++ replicate 31 0x00

abbrev forty_eight : List ℕ
forty_eight = dump "F7 EA CD AC" ++ replicate 8 0x00 ++ dump "02 00 00 00" ++ replicate 32 0x00

-- a header and no more; with the count 0x10000
abbrev header_only : List ℕ
header_only = dump "F7 EA CD AC" ++ replicate 28 0x00

abbrev count_third : List ℕ
count_third = dump "F7 EA CD AC" ++ replicate 8 0x00 ++ dump "00 00 01 00" ++ replicate 16 0x00

pub type_info_no-room : type_info_exit info (replicate 14 old) ≡ record { answer = answer 6 3 0 0; rows = replicate 14 old }
unfolding bytes_open type_info_open
type_info_no-room = refl

pub type_info_refusals :
    (type_info_answer one_byte_lem 9 ≡ refusal 1)
    × (type_info_answer other_magic 9 ≡ refusal 2)
    × (type_info_answer (replicate 40 0x00) 9 ≡ refusal 2)
    × (type_info_answer forty_seven 0 ≡ refusal 3)
    × (type_info_answer forty_eight 9 ≡ answer 0 1 0 0)
    × (type_info_answer header_only 0 ≡ refusal 0)
    × (type_info_answer count_third 0 ≡ refusal 3)
unfolding bytes_open type_info_open
type_info_refusals = (refl, refl, refl, refl, refl, refl, refl)

pub type_info_too_long : (s : List ℕ) (n : ℕ) → 16777216 < length s → type_info_answer s n ≡ refusal 5
unfolding type_info_answer
type_info_too_long s n h = rw (lt-ltb longest (length s) (omega arith))

-- 16,777,216 bytes of another magic
pub type_info_not_too_long : (s : List ℕ) (n : ℕ) → length s ≡ 16777216 → eqb (u32 s 0) 0xACCDEAF7 ≡ false → type_info_answer s n ≡ refusal 2
unfolding type_info_answer
type_info_not_too_long s n h other = rw (h, other)

-- ---- counts
-- the count 0 with room for an entry
abbrev count_none : List ℕ
count_none = dump "F7 EA CD AC" ++ replicate 8 0x00 ++ dump "00 00 00 00" ++ replicate 24 0x00

-- the count 1: 0x1EFF uses it up
abbrev count_used : List ℕ
count_used =
    dump "F7 EA CD AC" ++ replicate 8 0x00 ++ dump "01 00 00 00" ++ replicate 16 0x00
    ++ dump "FF 1E  00 00  00 00 00 00  00 00"
    ++ dump "64 00  00 00  00 00 00 00  00 00"

-- the count 2: seven bytes that remain are no entry
abbrev seven_remain : List ℕ
seven_remain =
    dump "F7 EA CD AC" ++ replicate 8 0x00 ++ dump "02 00 00 00" ++ replicate 16 0x00
    ++ dump "64 00  00 00  00 00 00 00  00 00"
    ++ replicate 7 0x64

pub type_info_counts :
    (type_info_answer count_none 9 ≡ answer 0 0 0 0)
    × (type_info_answer count_used 9 ≡ answer 0 0 0 0)
    × (type_info_answer seven_remain 9 ≡ answer 0 1 0 0)
unfolding bytes_open type_info_open
type_info_counts = (refl, refl, refl)

-- all four bytes of the count: of so many entries the stream has one
pub counts_of_four-bytes :
    map (λ count. length (type_info_of (take 12 one_entry ++ dump count ++ drop 16 one_entry)))
    ("00 00 00 00" ∷ "00 01 00 00" ∷ "00 00 01 00" ∷ "00 00 00 01" ∷ [])
    ≡ 0 ∷ 1 ∷ 1 ∷ 1 ∷ []
unfolding bytes_open type_info_open
counts_of_four-bytes = refl
