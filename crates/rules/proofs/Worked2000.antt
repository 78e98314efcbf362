-- Worked streams of "Access 2000 layout", by computation. A line of a stream is one part of it, with what it is; docs/WRONG-READINGS.md says what they notice.
use Prim.Native.Nat.{ℕ}
use mathlib.Core.Path.{◌≡◌, refl}
use mathlib.Core.Bool.{true, false}
use mathlib.Core.List.{List, [], ◌∷◌, ◌++◌, map}
use mathlib.Core.Option.{none, some}
use lib.ListN.{take, drop, replicate}
use Rattle.rules.specs.Lists.{concat}
use Rattle.rules.specs.Answer.{answer, refusal}
use Rattle.rules.specs.Tree.{end, no_parent}
use Rattle.rules.specs.Access2000.{length_at, extent_at, property_at, goes_on_lem, run_at, head_at_lem, stream_of}
use Rattle.rules.specs.Read2000.{Spot}
use Rattle.rules.specs.Blob.{exit, spots}
use Rattle.rules.specs.Dump.{dump}
use Rattle.rules.specs.Examples.{old, table, blob}
use Rattle.rules.proofs.OpenStreams.{blob_open}

-- ---- a report
abbrev report_table : List ℕ
report_table =
    dump "07 01  03 00  99 00"  -- layout byte; one header code; three scopes; header code 0x99
    ++ dump "01 00 00  01 00"  -- report: one row
    ++ dump "02 66 00  01 00"  -- entry 0x66: one row
    ++ dump "02 99 00  06 00"  -- entry 0x99: six rows
    ++ dump "E0  01 01  02"  -- report: 0xE0 Guid
    ++ dump "05  06 01  01"  -- 0x66: 0x05 Text
    ++ dump "61  02 01  00"  -- 0x99: 0x61 Number
    ++ dump "DF  14 00  01"  -- 0xDF Text
    ++ dump "E1  03 01  03"  -- 0xE1 Double
    ++ dump "E2  04 01  01"  -- 0xE2 Text
    ++ dump "E3  05 01  02"  -- 0xE3 Guid
    ++ dump "E4  FF 7F  03"  -- 0xE4 Double, the largest target

abbrev report : List ℕ
report =
    dump "07  00 00 00 00 00 00 00  97 00"  -- layout byte; byte 8: a report
    ++ dump "E0 10" ++ replicate 16 0x05  -- the object: a Guid
    ++ dump "01"  -- a flag
    ++ dump "FF 03 00"  -- a list of three
    ++ dump "99 00"  -- entry 0x99
    ++ dump "DC 02 41 00"  -- not its name
    ++ dump "DF FF 02 00 42 00"  -- its name, its length by a u16
    ++ dump "DF 02 43 00"  -- not its name: the second 0xDF
    ++ dump "61 FE FF"  -- a Short
    ++ dump "E1 08 01 00 00 00 02 00 00 40"  -- a Double
    ++ dump "E2 02 00 D8"  -- Text that isn't UTF-16
    ++ dump "E3 01 00"  -- a Guid of one byte
    ++ dump "E4 01 00"  -- a Double of one byte
    ++ dump "2F"  -- the last id of no bytes
    ++ dump "30 7F  5F FF"  -- the first and the last of one byte
    ++ dump "60 00 80  7F FF FF"  -- the first and the last of two
    ++ dump "80 04 03 02 81  BC 01 00 00 00"  -- the first and the last of four
    ++ dump "FC 00"  -- the last with a length: 0
    ++ dump "BD FE" ++ replicate 254 0x00  -- the first: length 0xFE is 254
    ++ dump "FD"  -- no list
    ++ dump "65 00 01 FD"  -- entry 0x65 has no list: not reported
    ++ dump "66 00"  -- entry 0x66
    ++ dump "05"  -- a flag, tied to Text
    ++ dump "DC 02 00 D8"  -- the first 0xDC isn't UTF-16: no name
    ++ dump "DC 02 44 00"  -- the second doesn't count
    ++ dump "FF 00 00"  -- an empty list: reported

pub a_report : exit report_table report (replicate 17 old) (replicate 133 old) ≡ record {
  answer = answer 0 2 22 2;
  controls = 0x1999 ∷ 0 ∷ 42 ∷ 2 ∷ 2 ∷ 17 ∷ 0 ∷ no_parent
      ∷ 0x66 ∷ 1 ∷ 1 ∷ 9 ∷ 19 ∷ 3 ∷ 0 ∷ no_parent
      ∷ old ∷ [];
  properties = 0x101 ∷ 5 ∷ 0 ∷ 0 ∷ 12 ∷ 16
      ∷ 0x8001 ∷ 1 ∷ 0 ∷ 0 ∷ 29 ∷ 0
      ∷ 0x80DC ∷ 7 ∷ 0 ∷ 0 ∷ 36 ∷ 2
      ∷ 0x14 ∷ 6 ∷ 0 ∷ 0 ∷ 42 ∷ 2
      ∷ 0x14 ∷ 6 ∷ 0 ∷ 0 ∷ 46 ∷ 2
      ∷ 0x102 ∷ 2 ∷ 0xFFFFFFFE ∷ 0 ∷ 49 ∷ 2
      ∷ 0x103 ∷ 4 ∷ 1 ∷ 0x40000002 ∷ 53 ∷ 8
      ∷ 0x104 ∷ 7 ∷ 0 ∷ 0 ∷ 63 ∷ 2
      ∷ 0x105 ∷ 7 ∷ 0 ∷ 0 ∷ 67 ∷ 1
      ∷ 0x7FFF ∷ 7 ∷ 0 ∷ 0 ∷ 70 ∷ 1
      ∷ 0x802F ∷ 1 ∷ 0 ∷ 0 ∷ 72 ∷ 0
      ∷ 0x8030 ∷ 2 ∷ 127 ∷ 0 ∷ 73 ∷ 1
      ∷ 0x805F ∷ 2 ∷ 255 ∷ 0 ∷ 75 ∷ 1
      ∷ 0x8060 ∷ 2 ∷ 0xFFFF8000 ∷ 0 ∷ 77 ∷ 2
      ∷ 0x807F ∷ 2 ∷ 0xFFFFFFFF ∷ 0 ∷ 80 ∷ 2
      ∷ 0x8080 ∷ 3 ∷ 0x81020304 ∷ 0 ∷ 83 ∷ 4
      ∷ 0x80BC ∷ 3 ∷ 1 ∷ 0 ∷ 88 ∷ 4
      ∷ 0x80FC ∷ 7 ∷ 0 ∷ 0 ∷ 94 ∷ 0
      ∷ 0x80BD ∷ 7 ∷ 0 ∷ 0 ∷ 96 ∷ 254
      ∷ 0x106 ∷ 1 ∷ 0 ∷ 0 ∷ 358 ∷ 0
      ∷ 0x80DC ∷ 7 ∷ 0 ∷ 0 ∷ 360 ∷ 2
      ∷ 0x80DC ∷ 7 ∷ 0 ∷ 0 ∷ 364 ∷ 2
      ∷ old ∷ [];
}
unfolding blob_open
a_report = refl

-- ---- a form
abbrev form_table : List ℕ
form_table =
    dump "13 03  03 00  99 00  9A 00  99 18"  -- layout byte; three header codes; three scopes; the header codes 0x99, 0x9A, 0x1899
    ++ dump "00 00 00  02 00"  -- form: two rows
    ++ dump "01 00 00  01 00"  -- report: one row
    ++ dump "02 6D 00  01 00"  -- entry 0x6D: one row
    ++ dump "31  2D 00  00"  -- form: 0x31 Number
    ++ dump "DC  9C 00  01"  -- 0xDC Text
    ++ dump "31  2E 00  00"  -- report: 0x31 Number
    ++ dump "1B  1B 00  04"  -- 0x6D: 0x1B Bytes

abbrev pub form : List ℕ
form =
    dump "13  00 00 00 00 00 00 00  96 00"  -- layout byte; byte 8: a form
    ++ dump "31 01"  -- the object: a Short
    ++ dump "DC 02 51 00"  -- Text
    ++ dump "FF 07 00"  -- a list of seven
    ++ dump "97 00 FD"  -- 0x97 is no section: not reported
    ++ dump "98 00 FF 02 00"  -- 0x98 with two entries
    ++ dump "6D 00 1B FE"  -- 0x6D with one
    ++ dump "6E 00 DC 02 43 00 FD"  -- 0x6E with a name
    ++ dump "6F 00 DC 04 44 00 45 00 FD"  -- 0x6F with a name of two letters
    ++ dump "99 00 DF 00 FD"  -- 0x99 with an empty name
    ++ dump "9A 01 FD"  -- 0x019A: not reported
    ++ dump "9E 00 31 09 FD"  -- 0x9E, the last section
    ++ dump "9F 00 FD"  -- 0x9F is none: not reported
    ++ dump "99 18 FF 00 00"  -- 0x1899 with an empty list

pub a_form : exit form_table form (replicate 61 old) (replicate 49 old) ≡ record {
  answer = answer 0 7 7 2;
  controls = 0x98 ∷ 1 ∷ 0 ∷ 9 ∷ 2 ∷ 0 ∷ 0 ∷ no_parent
      ∷ 0x6D ∷ 1 ∷ 1 ∷ 9 ∷ 2 ∷ 1 ∷ 1 ∷ 0
      ∷ 0x6E ∷ 0 ∷ 35 ∷ 2 ∷ 3 ∷ 1 ∷ 2 ∷ 1
      ∷ 0x6F ∷ 0 ∷ 42 ∷ 4 ∷ 4 ∷ 1 ∷ 1 ∷ 0
      ∷ 0x1899 ∷ 0 ∷ 51 ∷ 0 ∷ 5 ∷ 1 ∷ 0 ∷ no_parent
      ∷ 0x9E ∷ 1 ∷ 5 ∷ 9 ∷ 6 ∷ 1 ∷ 0 ∷ no_parent
      ∷ 0x1899 ∷ 1 ∷ 6 ∷ 9 ∷ 7 ∷ 0 ∷ 0 ∷ no_parent
      ∷ old ∷ old ∷ old ∷ old ∷ old ∷ [];
  properties = 0x2D ∷ 2 ∷ 1 ∷ 0 ∷ 11 ∷ 1
      ∷ 0x9C ∷ 6 ∷ 0 ∷ 0 ∷ 14 ∷ 2
      ∷ 0x1B ∷ 1 ∷ 0 ∷ 0 ∷ 30 ∷ 0
      ∷ 0x80DC ∷ 7 ∷ 0 ∷ 0 ∷ 35 ∷ 2
      ∷ 0x80DC ∷ 7 ∷ 0 ∷ 0 ∷ 42 ∷ 4
      ∷ 0x80DF ∷ 7 ∷ 0 ∷ 0 ∷ 51 ∷ 0
      ∷ 0x8031 ∷ 2 ∷ 9 ∷ 0 ∷ 58 ∷ 1
      ∷ old ∷ old ∷ old ∷ old ∷ old ∷ old ∷ old ∷ [];
}
unfolding blob_open
a_form = refl

-- ---- scopes and header codes
abbrev scope_table : List ℕ
scope_table =
    dump "31 03  05 00  63 00  9A 00  63 6A"  -- layout byte; three header codes; five scopes; the header codes 0x63, 0x9A, 0x6A63
    ++ dump "00 00 00  02 00"  -- form: two rows
    ++ dump "01 00 00  01 00"  -- report: one
    ++ dump "02 00 00  01 00"  -- entry 0x0000: one
    ++ dump "02 63 00  01 00"  -- entry 0x0063: one
    ++ dump "02 63 6A  01 00"  -- entry 0x6A63: one
    ++ dump "40  10 00  00"  -- form: 0x40 Number
    ++ dump "41  15 00  00"  -- 0x41 Number
    ++ dump "40  11 00  00"  -- report: 0x40 Number
    ++ dump "40  12 00  00"  -- entry 0x0000: 0x40 Number
    ++ dump "40  13 00  00"  -- entry 0x0063: 0x40 Number
    ++ dump "40  14 00  00"  -- entry 0x6A63: 0x40 Number

-- what stands in both a form and a report
abbrev scope_entries : List ℕ
scope_entries =
    dump "40 01  41 09"  -- the object: 0x41 is the form's alone
    ++ dump "FF 06 00"  -- a list of six
    ++ dump "63 00 40 02 FF 00 00"  -- 0x0063: a header code that is no section
    ++ dump "63 01 40 03 FF 00 00"  -- 0x0163: no header code, no scope
    ++ dump "63 6A 40 04 FF 00 00"  -- 0x6A63: joined to all of it
    ++ dump "00 00 40 05 FF 00 00"  -- 0x0000: an entry's scope
    ++ dump "98 01 40 06 DF 02 41 00 DC 02 42 00 FE"  -- 0x0198 is no section: its name is 0xDC; one entry below it
    ++ dump "9A 00 40 07 FD"  -- 0x009A: a header code below another entry
    ++ dump "FD FE 40 08 FF 00 00"  -- 0xFEFD: a type's bytes end nothing

abbrev scopes_of_form : List ℕ
scopes_of_form = dump "31  97 97 97 97 97 97 97  96 97" ++ scope_entries  -- byte 8 alone says that it is no report

pub form_scopes : exit scope_table scopes_of_form (replicate 56 old) (replicate 66 old) ≡ record {
  answer = answer 0 7 11 2;
  controls = 0x1863 ∷ 1 ∷ 0 ∷ 9 ∷ 2 ∷ 1 ∷ 0 ∷ no_parent
      ∷ 0x0163 ∷ 1 ∷ 1 ∷ 9 ∷ 3 ∷ 1 ∷ 0 ∷ no_parent
      ∷ 0x7A63 ∷ 1 ∷ 2 ∷ 9 ∷ 4 ∷ 1 ∷ 0 ∷ no_parent
      ∷ 0x0000 ∷ 1 ∷ 3 ∷ 9 ∷ 5 ∷ 1 ∷ 0 ∷ no_parent
      ∷ 0x0198 ∷ 0 ∷ 55 ∷ 2 ∷ 6 ∷ 3 ∷ 0 ∷ no_parent
      ∷ 0x189A ∷ 1 ∷ 5 ∷ 9 ∷ 9 ∷ 1 ∷ 1 ∷ 4
      ∷ 0xFEFD ∷ 1 ∷ 6 ∷ 9 ∷ 10 ∷ 1 ∷ 0 ∷ no_parent ∷ [];
  properties = 0x10 ∷ 2 ∷ 1 ∷ 0 ∷ 11 ∷ 1
      ∷ 0x15 ∷ 2 ∷ 9 ∷ 0 ∷ 13 ∷ 1
      ∷ 0x13 ∷ 2 ∷ 2 ∷ 0 ∷ 20 ∷ 1
      ∷ 0x8040 ∷ 2 ∷ 3 ∷ 0 ∷ 27 ∷ 1
      ∷ 0x14 ∷ 2 ∷ 4 ∷ 0 ∷ 34 ∷ 1
      ∷ 0x12 ∷ 2 ∷ 5 ∷ 0 ∷ 41 ∷ 1
      ∷ 0x8040 ∷ 2 ∷ 6 ∷ 0 ∷ 48 ∷ 1
      ∷ 0x80DF ∷ 7 ∷ 0 ∷ 0 ∷ 51 ∷ 2
      ∷ 0x80DC ∷ 7 ∷ 0 ∷ 0 ∷ 55 ∷ 2
      ∷ 0x8040 ∷ 2 ∷ 7 ∷ 0 ∷ 61 ∷ 1
      ∷ 0x8040 ∷ 2 ∷ 8 ∷ 0 ∷ 66 ∷ 1 ∷ [];
}
unfolding blob_open
form_scopes = refl

abbrev scopes_of_report : List ℕ
scopes_of_report = dump "31  96 96 96 96 96 96 96  97 96" ++ scope_entries  -- byte 8 alone says that it is a report

pub report_scopes : exit scope_table scopes_of_report (replicate 56 old) (replicate 66 old) ≡ record {
  answer = answer 0 7 11 2;
  controls = 0x1963 ∷ 1 ∷ 0 ∷ 9 ∷ 2 ∷ 1 ∷ 0 ∷ no_parent
      ∷ 0x0163 ∷ 1 ∷ 1 ∷ 9 ∷ 3 ∷ 1 ∷ 0 ∷ no_parent
      ∷ 0x7B63 ∷ 1 ∷ 2 ∷ 9 ∷ 4 ∷ 1 ∷ 0 ∷ no_parent
      ∷ 0x0000 ∷ 1 ∷ 3 ∷ 9 ∷ 5 ∷ 1 ∷ 0 ∷ no_parent
      ∷ 0x0198 ∷ 0 ∷ 55 ∷ 2 ∷ 6 ∷ 3 ∷ 0 ∷ no_parent
      ∷ 0x199A ∷ 1 ∷ 5 ∷ 9 ∷ 9 ∷ 1 ∷ 1 ∷ 4
      ∷ 0xFEFD ∷ 1 ∷ 6 ∷ 9 ∷ 10 ∷ 1 ∷ 0 ∷ no_parent ∷ [];
  properties = 0x11 ∷ 2 ∷ 1 ∷ 0 ∷ 11 ∷ 1
      ∷ 0x8041 ∷ 2 ∷ 9 ∷ 0 ∷ 13 ∷ 1
      ∷ 0x13 ∷ 2 ∷ 2 ∷ 0 ∷ 20 ∷ 1
      ∷ 0x8040 ∷ 2 ∷ 3 ∷ 0 ∷ 27 ∷ 1
      ∷ 0x14 ∷ 2 ∷ 4 ∷ 0 ∷ 34 ∷ 1
      ∷ 0x12 ∷ 2 ∷ 5 ∷ 0 ∷ 41 ∷ 1
      ∷ 0x8040 ∷ 2 ∷ 6 ∷ 0 ∷ 48 ∷ 1
      ∷ 0x80DF ∷ 7 ∷ 0 ∷ 0 ∷ 51 ∷ 2
      ∷ 0x80DC ∷ 7 ∷ 0 ∷ 0 ∷ 55 ∷ 2
      ∷ 0x8040 ∷ 2 ∷ 7 ∷ 0 ∷ 61 ∷ 1
      ∷ 0x8040 ∷ 2 ∷ 8 ∷ 0 ∷ 66 ∷ 1 ∷ [];
}
unfolding blob_open
report_scopes = refl

-- byte 8 of 0x98 is no report's either
abbrev ninety_eight : List ℕ
ninety_eight = dump "31  00 00 00 00 00 00 00  98 00" ++ dump "40 01  41 09" ++ dump "FF 00 00"

pub no_report : exit scope_table ninety_eight [] (replicate 12 old) ≡ record { answer = answer 0 0 2 2; controls = []; properties = 0x10 ∷ 2 ∷ 1 ∷ 0 ∷ 11 ∷ 1 ∷ 0x15 ∷ 2 ∷ 9 ∷ 0 ∷ 13 ∷ 1 ∷ [] }
unfolding blob_open
no_report = refl

-- ---- streams that fit no reading
-- the first ten bytes of one under K1's table
abbrev head : List ℕ
head = dump "2A" ++ replicate 9 0x00

pub no-reading :
    (stream_of (head ++ dump "") ≡ none)  -- nothing
    × (stream_of (head ++ dump "01") ≡ none)  -- a run and no list
    × (stream_of (head ++ dump "FD") ≡ none)  -- no list in the place of the top list
    × (stream_of (head ++ dump "30") ≡ none)  -- a value of one byte that isn't there
    × (stream_of (head ++ dump "60 01") ≡ none)  -- one of two
    × (stream_of (head ++ dump "80 01 02 03") ≡ none)  -- one of four
    × (stream_of (head ++ dump "BD") ≡ none)  -- a length that isn't there
    × (stream_of (head ++ dump "BD FF 01") ≡ none)  -- one of two bytes
    × (stream_of (head ++ dump "BD 02 41") ≡ none)  -- bytes that aren't there
    × (stream_of (head ++ dump "FF") ≡ none)  -- a count that isn't there
    × (stream_of (head ++ dump "FF 01") ≡ none)  -- one of two bytes, of which one is
    × (stream_of (head ++ dump "FE") ≡ none)  -- an entry that isn't there
    × (stream_of (head ++ dump "FF 02 00 98 00 FD") ≡ none)  -- the second of two
    × (stream_of (head ++ dump "FE 98") ≡ none)  -- a type of one byte
    × (stream_of (head ++ dump "FE 98 00") ≡ none)  -- an entry that ends by nothing
    × (stream_of (head ++ dump "FF 00 00 00") ≡ none)  -- a byte behind the list
unfolding blob_open
no-reading = (refl, refl, refl, refl, refl, refl, refl, refl, refl, refl, refl, refl, refl, refl, refl, refl)

-- an empty top list is one
pub empty-reading : stream_of (head ++ dump "FF 00 00") ≡ some ([], end)
unfolding blob_open
empty-reading = refl

-- ---- parts of a stream
pub lengths :
    (length_at (dump "00 FC") 1 ≡ some (2, 252))
    × (length_at (dump "00 FE") 1 ≡ some (2, 254))
    × (length_at (dump "00 FF 05 01") 1 ≡ some (4, 0x0105))
    × (length_at (dump "00 FF 05") 1 ≡ none)
    × (length_at (dump "00") 1 ≡ none)
unfolding blob_open
lengths = (refl, refl, refl, refl, refl)

pub heads :
    (head_at_lem (dump "00 FD") 1 ≡ some (none, 2))
    × (head_at_lem (dump "00 FE") 1 ≡ some (some 1, 2))
    × (head_at_lem (dump "00 FF 05 01") 1 ≡ some (some 0x0105, 4))
    × (head_at_lem (dump "00 FC 05 01") 1 ≡ none)
    × (head_at_lem (dump "00 FF 05") 1 ≡ none)
    × (head_at_lem (dump "00") 1 ≡ none)
unfolding blob_open
heads = (refl, refl, refl, refl, refl, refl)

-- where a value starts and how many bytes it has, by an id on either side of each limit; it may end where the stream ends
pub extents :
    map (λ id. extent_at (dump "01 02 03") id 1) (0x00 ∷ 0x2F ∷ 0x30 ∷ 0x5F ∷ 0x60 ∷ 0x7F ∷ 0x80 ∷ 0xBC ∷ 0xBD ∷ 0xFC ∷ [])
    ≡ some (1, 0) ∷ some (1, 0) ∷ some (1, 1) ∷ some (1, 1) ∷ some (1, 2) ∷ some (1, 2) ∷ some (1, 4) ∷ some (1, 4) ∷ some (2, 2) ∷ some (2, 2) ∷ []
unfolding blob_open
extents = refl

pub values-inside :
    (property_at (dump "00 00 60 01") 2 ≡ none)
    × (property_at (dump "00 00 60 01 02") 2 ≡ some (record { id = 0x60; start = 3; size = 2 }))
    × (property_at (dump "00 BD 02 41 00") 1 ≡ some (record { id = 0xBD; start = 3; size = 2 }))
    × (map (goes_on_lem (dump "01 FC FD")) (0 ∷ 1 ∷ 2 ∷ 3 ∷ []) ≡ true ∷ true ∷ false ∷ false ∷ [])
unfolding blob_open
values-inside = (refl, refl, refl, refl)

pub runs :
    (run_at (dump "00 01 30 07") 1 ≡ some (record { id = 0x01; start = 2; size = 0 } ∷ record { id = 0x30; start = 3; size = 1 } ∷ [], 4))
    × (run_at (dump "00 01 FD 02") 1 ≡ some (record { id = 0x01; start = 2; size = 0 } ∷ [], 2))
    × (run_at (dump "FC 00 FE") 0 ≡ some (record { id = 0xFC; start = 2; size = 0 } ∷ [], 2))
    × (run_at (dump "01") 1 ≡ some ([], 1))
unfolding blob_open
runs = (refl, refl, refl, refl)

-- ---- which scope and stored property each property row comes from
abbrev spot : ℕ → ℕ → ℕ → ℕ → ℕ → Spot
spot kind code id start size = record { scope = record { kind = kind; code = code }; prop = record { id = id; start = start; size = size } }

pub spots_of_k1 : spots blob ≡ spot 0 0 0x31 11 1 ∷ spot 2 0x64 0x60 19 2 ∷ spot 2 0x64 0xDC 23 2 ∷ []
unfolding blob_open
spots_of_k1 = refl

-- of 0x65, which isn't reported, there are none
pub spots_of_report :
    (take 2 (spots report) ≡ spot 1 0 0xE0 12 16 ∷ spot 1 0 0x01 29 0 ∷ [])
    × (drop 18 (spots report) ≡ spot 2 0x99 0xBD 96 254 ∷ spot 2 0x66 0x05 358 0 ∷ spot 2 0x66 0xDC 360 2 ∷ spot 2 0x66 0xDC 364 2 ∷ [])
unfolding blob_open
spots_of_report = (refl, refl)

-- ---- eleven sections without a name: the label of the last has ten letters
abbrev sections : List ℕ
sections = head ++ dump "FF 0B 00" ++ concat (replicate 11 (dump "98 00 FD"))

pub eleven : (exit table sections (replicate 88 old) []).controls
    ≡ concat (map (λ n. 0x98 ∷ 1 ∷ n ∷ 9 ∷ 0 ∷ 0 ∷ 0 ∷ no_parent ∷ []) (0 ∷ 1 ∷ 2 ∷ 3 ∷ 4 ∷ 5 ∷ 6 ∷ 7 ∷ 8 ∷ 9 ∷ [])) ++ (0x98 ∷ 1 ∷ 10 ∷ 10 ∷ 0 ∷ 0 ∷ 0 ∷ no_parent ∷ [])
unfolding blob_open
eleven = refl

-- ---- depths: so many entries, each below the one before it, and the deepest at level 255 or 256
abbrev level255 : List ℕ
level255 = head ++ concat (replicate 256 (dump "FE 98 00")) ++ dump "FD"

-- an empty list at level 256
abbrev level255_empty : List ℕ
level255_empty = head ++ concat (replicate 256 (dump "FE 98 00")) ++ dump "FF 00 00"

abbrev level256 : List ℕ
level256 = head ++ concat (replicate 257 (dump "FE 98 00")) ++ dump "FD"

pub depth_255 : (exit table level255 [] []).answer ≡ answer 6 256 0 0
unfolding blob_open
depth_255 = refl

pub depth_255_empty : (exit table level255_empty [] []).answer ≡ answer 6 256 0 0
unfolding blob_open
depth_255_empty = refl

pub depth_256 : (exit table level256 [] []).answer ≡ refusal 4
unfolding blob_open
depth_256 = refl
