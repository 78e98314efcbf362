-- Worked streams of "Later layout", by computation. Two blanks part the fields of a property: id, type, 4 bytes, length, value, trailer.
use Prim.Native.Nat.{ℕ}
use mathlib.Core.Path.{◌≡◌, refl}
use mathlib.Core.Bool.{Bool, true, false}
use mathlib.Core.List.{List, [], ◌∷◌, ◌++◌, map}
use mathlib.Core.Option.{Option, none, some}
use lib.ListN.{replicate}
use Rattle.rules.specs.Lists.{concat}
use Rattle.rules.specs.Answer.{answer}
use Rattle.rules.specs.Tree.{no_parent}
use Rattle.rules.specs.Later.{property_at, end_at, trailer_at, ends_group, group_of, match_at, children_at, nodes_at}
use Rattle.rules.specs.Blob.{exit}
use Rattle.rules.specs.Dump.{dump}
use Rattle.rules.specs.Examples.{old, table}
use Rattle.rules.proofs.OpenStreams.{blob_open}

-- ---- every value mark, in a tree and in a scan
-- the object's properties, but for the last one's trailer
abbrev object : List ℕ
object =
    replicate 14 0x00
    ++ dump "61 00  01 00 00 00  AA AA AA AA  01 00 00 00  07  01 00 00 00"  -- Bool, trailer 1
    ++ dump "1A 00  01 00 00 00  AA AA AA AA  00 00 00 00  02 00 00 00"  -- NotDefault
    ++ dump "36 00  02 00 00 00  AA AA AA AA  02 00 00 00  FE FF  03 00 00 00"  -- Short
    ++ dump "CC 00  04 00 00 00  AA AA AA AA  04 00 00 00  01 02 03 80  04 00 00 00"  -- Long
    ++ dump "05 00  06 00 00 00  AA AA AA AA  04 00 00 00  00 00 C0 BF  05 00 00 00"  -- Double from a single
    ++ dump "06 00  08 00 00 00  AA AA AA AA  08 00 00 00  01 00 00 00 02 00 00 40  06 00 00 00"  -- Double
    ++ dump "78 01  09 00 00 00  AA AA AA AA  10 00 00 00  00 01 02 03 04 05 06 07 08 09 0A 0B 0C 0D 0E 0F  07 00 00 00"  -- Guid
    ++ dump "11 00  0C 00 00 00  AA AA AA AA  04 00 00 00  3D D8 00 DE  08 00 00 00"  -- Text of type 0x0C
    ++ dump "AB 00  0B 00 00 00  AA AA AA AA  03 00 00 00  09 09 09  09 00 00 00"  -- Binary
    ++ dump "14 00  0A 00 00 00  AA AA AA AA  02 00 00 00  5A 00  0A 00 00 00"  -- Text
    ++ dump "9C 00  0A 00 00 00  AA AA AA AA  01 00 00 00  41"  -- Text that isn't UTF-16

abbrev pub tree : List ℕ
tree =
    object ++ dump "FF 00 00 00  04 00"  -- trailer 255, four nodes
    ++ dump "98 00  01 02 03 04"  -- 0x98
    ++ dump "14 00  0A 00 00 00  AA AA AA AA  02 00 00 00  41 00  FE 00 00 00"  -- its name; trailer 254, one child
    ++ dump "6D 00  01 02 03 04"  -- 0x6D
    ++ dump "14 00  03 00 00 00  AA AA AA AA  01 00 00 00  01  00 00 00 00"  -- its first 0x0014 isn't Text
    ++ dump "14 00  0A 00 00 00  AA AA AA AA  02 00 00 00  42 00  FD 00 00 00"  -- the second doesn't count; trailer 253, no children
    ++ dump "64 00  01 02 03 04"  -- 0x64: not reported
    ++ dump "05 00  01 00 00 00  AA AA AA AA  00 00 00 00  FD 00 00 00"
    ++ dump "65 00  01 02 03 04"  -- 0x65: reported for its child
    ++ dump "05 00  01 00 00 00  AA AA AA AA  00 00 00 00  FF 00 00 00  01 00"  -- trailer 255, one child
    ++ dump "66 00  01 02 03 04"  -- 0x66
    ++ dump "14 00  0C 00 00 00  AA AA AA AA  01 00 00 00  43  FD 00 00 00"  -- a name that isn't UTF-16
    ++ dump "9E 00  01 02 03 04"  -- 0x9E
    ++ dump "05 00  01 00 00 00  AA AA AA AA  03 00 00 00  01 00 00  FF 00 00 00  00 00"  -- three bytes of type 0x01: Binary; count 0

pub a_tree : exit table tree (replicate 41 old) (replicate 104 old) ≡ record {
  answer = answer 0 5 17 11;
  controls = 0x98 ∷ 0 ∷ 279 ∷ 2 ∷ 11 ∷ 1 ∷ 0 ∷ no_parent
      ∷ 0x6D ∷ 1 ∷ 1 ∷ 9 ∷ 12 ∷ 2 ∷ 1 ∷ 0
      ∷ 0x65 ∷ 1 ∷ 2 ∷ 9 ∷ 14 ∷ 1 ∷ 0 ∷ no_parent
      ∷ 0x66 ∷ 2 ∷ 400 ∷ 1 ∷ 15 ∷ 1 ∷ 1 ∷ 2
      ∷ 0x9E ∷ 1 ∷ 4 ∷ 9 ∷ 16 ∷ 1 ∷ 0 ∷ no_parent
      ∷ old ∷ [];
  properties = 0x61 ∷ 0 ∷ 1 ∷ 0 ∷ 28 ∷ 1
      ∷ 0x1A ∷ 1 ∷ 0 ∷ 0 ∷ 47 ∷ 0
      ∷ 0x36 ∷ 2 ∷ 0xFFFFFFFE ∷ 0 ∷ 65 ∷ 2
      ∷ 0xCC ∷ 3 ∷ 0x80030201 ∷ 0 ∷ 85 ∷ 4
      ∷ 0x5 ∷ 4 ∷ 0 ∷ 0xBFF80000 ∷ 107 ∷ 4
      ∷ 0x6 ∷ 4 ∷ 1 ∷ 0x40000002 ∷ 129 ∷ 8
      ∷ 0x178 ∷ 5 ∷ 0 ∷ 0 ∷ 155 ∷ 16
      ∷ 0x11 ∷ 6 ∷ 0 ∷ 0 ∷ 189 ∷ 4
      ∷ 0xAB ∷ 7 ∷ 0 ∷ 0 ∷ 211 ∷ 3
      ∷ 0x14 ∷ 6 ∷ 0 ∷ 0 ∷ 232 ∷ 2
      ∷ 0x9C ∷ 8 ∷ 0 ∷ 0 ∷ 252 ∷ 1
      ∷ 0x14 ∷ 6 ∷ 0 ∷ 0 ∷ 279 ∷ 2
      ∷ 0x14 ∷ 3 ∷ 1 ∷ 0 ∷ 305 ∷ 1
      ∷ 0x14 ∷ 6 ∷ 0 ∷ 0 ∷ 324 ∷ 2
      ∷ 0x5 ∷ 1 ∷ 0 ∷ 0 ∷ 374 ∷ 0
      ∷ 0x14 ∷ 8 ∷ 0 ∷ 0 ∷ 400 ∷ 1
      ∷ 0x5 ∷ 7 ∷ 0 ∷ 0 ∷ 425 ∷ 3
      ∷ old ∷ old ∷ [];
}
unfolding blob_open
a_tree = refl

abbrev scanned : List ℕ
scanned =
    object ++ dump "00 00 00 00"  -- trailer 0
    ++ dump "01 02"  -- no property: the scan starts here
    ++ dump "14 00  0A 00 00 00  AA AA AA AA  02 00 00 00  44 00  01 00 00 00"  -- a match: a name
    ++ dump "36 00  02 00 00 00  AA AA AA AA  02 00 00 00  00 80  02 00 00 00"  -- a Short
    ++ dump "14 00  0A 00 00 00  AA AA AA AA  01 00 00 00  45  01 00 00 00"  -- a match: a name that isn't UTF-16
    ++ dump "05 00  03 00 00 00  AA AA AA AA  01 00 00 00  FF  FD 00 00 00"  -- a Long, whose trailer ends the group
    ++ dump "06 00  03 00 00 00  AA AA AA AA  01 00 00 00  01  00 00 00 00"  -- of no group
    ++ dump "FF FF FF"  -- of no group
    ++ dump "14 00  0A 00 00 00"  -- a match without a property
    ++ dump "14 00  0A 00 00 00  AA AA AA AA  02 00 00 00  46 00  05 00 00 00"  -- a match: a name
    ++ dump "05 00  01 00 00 00  AA AA AA AA  00 00 00 00  14 00 0A 00"  -- a flag, whose trailer would be a match if it weren't cut off

pub a_scan : exit table scanned (replicate 26 old) (replicate 103 old) ≡ record {
  answer = answer 0 3 17 11;
  controls = 0x0 ∷ 0 ∷ 273 ∷ 2 ∷ 11 ∷ 2 ∷ 0 ∷ no_parent
      ∷ 0x0 ∷ 2 ∷ 313 ∷ 1 ∷ 13 ∷ 2 ∷ 0 ∷ no_parent
      ∷ 0x0 ∷ 0 ∷ 379 ∷ 2 ∷ 15 ∷ 2 ∷ 0 ∷ no_parent
      ∷ old ∷ old ∷ [];
  properties = 0x61 ∷ 0 ∷ 1 ∷ 0 ∷ 28 ∷ 1
      ∷ 0x1A ∷ 1 ∷ 0 ∷ 0 ∷ 47 ∷ 0
      ∷ 0x36 ∷ 2 ∷ 0xFFFFFFFE ∷ 0 ∷ 65 ∷ 2
      ∷ 0xCC ∷ 3 ∷ 0x80030201 ∷ 0 ∷ 85 ∷ 4
      ∷ 0x5 ∷ 4 ∷ 0 ∷ 0xBFF80000 ∷ 107 ∷ 4
      ∷ 0x6 ∷ 4 ∷ 1 ∷ 0x40000002 ∷ 129 ∷ 8
      ∷ 0x178 ∷ 5 ∷ 0 ∷ 0 ∷ 155 ∷ 16
      ∷ 0x11 ∷ 6 ∷ 0 ∷ 0 ∷ 189 ∷ 4
      ∷ 0xAB ∷ 7 ∷ 0 ∷ 0 ∷ 211 ∷ 3
      ∷ 0x14 ∷ 6 ∷ 0 ∷ 0 ∷ 232 ∷ 2
      ∷ 0x9C ∷ 8 ∷ 0 ∷ 0 ∷ 252 ∷ 1
      ∷ 0x14 ∷ 6 ∷ 0 ∷ 0 ∷ 273 ∷ 2
      ∷ 0x36 ∷ 2 ∷ 0xFFFF8000 ∷ 0 ∷ 293 ∷ 2
      ∷ 0x14 ∷ 8 ∷ 0 ∷ 0 ∷ 313 ∷ 1
      ∷ 0x5 ∷ 3 ∷ 255 ∷ 0 ∷ 332 ∷ 1
      ∷ 0x14 ∷ 6 ∷ 0 ∷ 0 ∷ 379 ∷ 2
      ∷ 0x5 ∷ 1 ∷ 0 ∷ 0 ∷ 399 ∷ 0
      ∷ old ∷ [];
}
unfolding blob_open
a_scan = refl

-- ---- numbers of more than one byte
abbrev wide : List ℕ
wide =
    replicate 14 0x00
    ++ dump "14 01  0A 01 00 00  AA AA AA AA  02 00 00 00  41 00  FC 00 00 00"  -- type 0x010A is Binary; trailer 252
    ++ dump "14 00  0B 00 00 00  AA AA AA AA  00 01 00 00" ++ replicate 256 0x00 ++ dump "00 01 00 00"  -- 256 bytes; trailer 256
    ++ dump "05 00  01 00 00 00  AA AA AA AA  00 00 00 00  FD 01 00 00"  -- trailer 0x01FD
    ++ dump "06 00  01 00 00 01  AA AA AA AA  00 00 00 00  FF 00 00 00  01 00"  -- type 0x01000001; trailer 255, one node
    ++ dump "98 01  00 00 00 00"  -- 0x0198
    ++ dump "05 00  01 00 00 00  00 00 00 00  00 00 00 00  FE 00 00 00"  -- a flag; trailer 254, one child
    ++ dump "64 00  00 00 00 00"  -- 0x64
    ++ dump "05 00  05 00 00 00  AA AA AA AA  01 00 00 00  01  FD 00 00 00"  -- type 0x05 is Binary

pub a_wide_tree : exit table wide (replicate 16 old) (replicate 36 old) ≡ record {
  answer = answer 0 2 6 4;
  controls = 0x198 ∷ 1 ∷ 0 ∷ 9 ∷ 4 ∷ 1 ∷ 0 ∷ no_parent
      ∷ 0x64 ∷ 1 ∷ 1 ∷ 9 ∷ 5 ∷ 1 ∷ 1 ∷ 0 ∷ [];
  properties = 0x114 ∷ 7 ∷ 0 ∷ 0 ∷ 28 ∷ 2
      ∷ 0x14 ∷ 7 ∷ 0 ∷ 0 ∷ 48 ∷ 256
      ∷ 5 ∷ 1 ∷ 0 ∷ 0 ∷ 322 ∷ 0
      ∷ 6 ∷ 7 ∷ 0 ∷ 0 ∷ 340 ∷ 0
      ∷ 5 ∷ 1 ∷ 0 ∷ 0 ∷ 366 ∷ 0
      ∷ 5 ∷ 7 ∷ 0 ∷ 0 ∷ 390 ∷ 1 ∷ [];
}
unfolding blob_open
a_wide_tree = refl

-- a node of type 0 with children, whose first property isn't its name
abbrev type_zero : List ℕ
type_zero =
    replicate 14 0x00
    ++ dump "05 00  01 00 00 00  AA AA AA AA  00 00 00 00  FE 00 00 00"  -- the object: a flag; trailer 254, one node
    ++ dump "00 00  01 02 03 04"  -- 0x0000
    ++ dump "11 00  0A 00 00 00  AA AA AA AA  02 00 00 00  41 00  00 00 00 00"  -- Text
    ++ dump "14 00  0A 00 00 00  AA AA AA AA  00 00 00 00  FF 00 00 00  02 00"  -- an empty name; trailer 255, two children
    ++ dump "64 00  01 02 03 04"  -- 0x64
    ++ dump "14 01  0A 00 00 00  AA AA AA AA  02 00 00 00  42 00  FD 00 00 00"  -- 0x0114 is not its name
    ++ dump "65 00  01 02 03 04"  -- 0x65
    ++ dump "14 00  0C 00 00 00  AA AA AA AA  02 00 00 00  43 00  FD 00 00 00"  -- a name of type 0x0C

pub type-zero : exit table type_zero (replicate 24 old) (replicate 30 old) ≡ record {
  answer = answer 0 3 5 1;
  controls = 0 ∷ 0 ∷ 72 ∷ 0 ∷ 1 ∷ 2 ∷ 0 ∷ no_parent
      ∷ 0x64 ∷ 1 ∷ 1 ∷ 9 ∷ 3 ∷ 1 ∷ 1 ∷ 0
      ∷ 0x65 ∷ 0 ∷ 124 ∷ 2 ∷ 4 ∷ 1 ∷ 1 ∷ 0 ∷ [];
  properties = 0x05 ∷ 1 ∷ 0 ∷ 0 ∷ 28 ∷ 0
      ∷ 0x11 ∷ 6 ∷ 0 ∷ 0 ∷ 52 ∷ 2
      ∷ 0x14 ∷ 6 ∷ 0 ∷ 0 ∷ 72 ∷ 0
      ∷ 0x114 ∷ 6 ∷ 0 ∷ 0 ∷ 98 ∷ 2
      ∷ 0x14 ∷ 6 ∷ 0 ∷ 0 ∷ 124 ∷ 2 ∷ [];
}
unfolding blob_open
type-zero = refl

-- the third and the fourth byte of a trailer and of a length
abbrev third_byte : List ℕ
third_byte =
    replicate 14 0x00
    ++ dump "05 00  01 00 00 00  AA AA AA AA  00 00 00 00  FD 00 01 00"  -- trailer 0x000100FD ends no group
    ++ dump "06 00  01 00 00 00  AA AA AA AA  00 00 00 00  FE 00 00 01"  -- nor does 0x010000FE
    ++ dump "07 00  01 00 01 00  AA AA AA AA  01 00 00 00  01  FF 01 00 00"  -- nor 0x01FF; type 0x00010001 is Binary
    ++ dump "08 00  01 00 00 00  AA AA AA AA  01 00 01 00  01  FD 00 00 00"  -- length 0x00010001: not inside

abbrev fourth_byte : List ℕ
fourth_byte =
    replicate 14 0x00
    ++ dump "05 00  01 00 00 00  AA AA AA AA  01 00 00 00  01  00 00 00 00"  -- a Bool
    ++ dump "08 00  01 00 00 00  AA AA AA AA  01 00 00 01  01  FD 00 00 00"  -- length 0x01000001: not inside

pub third-byte : exit table third_byte [] (replicate 18 old) ≡ record {
  answer = answer 0 0 3 3;
  controls = [];
  properties = 5 ∷ 1 ∷ 0 ∷ 0 ∷ 28 ∷ 0
      ∷ 6 ∷ 1 ∷ 0 ∷ 0 ∷ 46 ∷ 0
      ∷ 7 ∷ 7 ∷ 0 ∷ 0 ∷ 64 ∷ 1 ∷ [];
}
unfolding blob_open
third-byte = refl

pub fourth_byte_lem : exit table fourth_byte [] (replicate 6 old) ≡ record { answer = answer 0 0 1 1; controls = []; properties = 5 ∷ 0 ∷ 1 ∷ 0 ∷ 28 ∷ 1 ∷ [] }
unfolding blob_open
fourth_byte_lem = refl

-- lengths that would be inside if their sums had 32 bits
abbrev wrapping : List ℕ
wrapping = replicate 14 0x00 ++ dump "05 00  01 00 00 00  AA AA AA AA  F0 FF FF FF  FD 00 00 00"

pub no_wrapping : (exit table wrapping [] []).answer ≡ answer 0 0 0 0
unfolding blob_open
no_wrapping = refl

-- ---- what is no tree is scanned
-- the object's group ends by a trailer, but 0x0101 nodes aren't there
abbrev fewer : List ℕ
fewer =
    replicate 14 0x00
    ++ dump "07 00  01 00 00 00  AA AA AA AA  01 00 00 00  01  FF 00 00 00  01 01"  -- a Bool; trailer 255, 0x0101 nodes
    ++ dump "98 00  01 02 03 04"  -- 0x98
    ++ dump "14 00  0A 00 00 00  AA AA AA AA  02 00 00 00  47 00  FD 00 00 00"  -- a name

abbrev pub unfit : List ℕ
unfit =
    fewer
    ++ dump "14 00  0A 00 01 00  AA AA AA AA  01 00 00 00  01  00 00 00 00"  -- no match

-- all of a property but its trailer
abbrev untrailed : List ℕ
untrailed = replicate 14 0x00 ++ dump "07 00  01 00 00 00  AA AA AA AA  00 00 00 00"

-- a byte behind the nodes
abbrev byte_more : List ℕ
byte_more =
    replicate 14 0x00
    ++ dump "05 00  01 00 00 00  00 00 00 00  00 00 00 00  FE 00 00 00"  -- a flag; trailer 254, one node
    ++ dump "98 00  01 02 03 04"  -- 0x98
    ++ dump "05 00  01 00 00 00  00 00 00 00  00 00 00 00  FD 00 00 00"  -- a flag; trailer 253
    ++ dump "00"

pub scan_unfit : exit table unfit (replicate 8 old) (replicate 12 old) ≡ record {
  answer = answer 0 1 2 1;
  controls = 0 ∷ 0 ∷ 55 ∷ 2 ∷ 1 ∷ 1 ∷ 0 ∷ no_parent ∷ [];
  properties = 7 ∷ 0 ∷ 1 ∷ 0 ∷ 28 ∷ 1
      ∷ 0x14 ∷ 6 ∷ 0 ∷ 0 ∷ 55 ∷ 2 ∷ [];
}
unfolding blob_open
scan_unfit = refl

pub scan-fewer : (exit table fewer (replicate 8 old) (replicate 12 old)).controls ≡ 0 ∷ 0 ∷ 55 ∷ 2 ∷ 1 ∷ 1 ∷ 0 ∷ no_parent ∷ []
unfolding blob_open
scan-fewer = refl

pub scan_untrailed : (exit table untrailed [] []).answer ≡ answer 0 0 0 0
unfolding blob_open
scan_untrailed = refl

pub scan-byte-more : (exit table byte_more (replicate 8 old) (replicate 12 old)).answer ≡ answer 0 0 1 1
unfolding blob_open
scan-byte-more = refl

-- ---- where the scan starts, and what it finds
-- the object has no property: what stands before 14 is not scanned
abbrev no_object : List ℕ
no_object =
    replicate 13 0x00
    ++ dump "14 00  0A 00 00 00  AA AA AA AA  02 00 00 00  41 00  01 00 00 00"  -- at 13; from 14 on it is no property
    ++ dump "14 00  0A 00 00 00  AA AA AA AA  02 00 00 00  42 00  05 00 00 00"  -- a match: a name

pub from-fourteen : exit table no_object (replicate 8 old) (replicate 6 old) ≡ record {
  answer = answer 0 1 1 0;
  controls = 0 ∷ 0 ∷ 47 ∷ 2 ∷ 0 ∷ 1 ∷ 0 ∷ no_parent ∷ [];
  properties = 0x14 ∷ 6 ∷ 0 ∷ 0 ∷ 47 ∷ 2 ∷ [];
}
unfolding blob_open
from-fourteen = refl

abbrev near : List ℕ
near =
    replicate 14 0x00
    ++ dump "05 00  01 00 00 00  AA AA AA AA  00 00 00 00  00 00 00 00"  -- the object: a flag
    ++ dump "FF FF FF"  -- no property
    ++ dump "14 00  0A 00 00 00  AA AA AA AA  00 00 00 00  01 00 00 00"  -- a match: an empty name
    ++ dump "14 01  0A 00 00 00  AA AA AA AA  00 00 00 00  01 00 00 00"  -- no match: id 0x0114
    ++ dump "13 00  0A 00 00 00  AA AA AA AA  00 00 00 00  01 00 00 00"  -- id 0x0013
    ++ dump "14 00  0B 00 00 00  AA AA AA AA  00 00 00 00  01 00 00 00"  -- type 0x0B
    ++ dump "14 00  09 00 00 00  AA AA AA AA  00 00 00 00  01 00 00 00"  -- type 0x09
    ++ dump "14 00  0A 01 00 00  AA AA AA AA  00 00 00 00  01 00 00 00"  -- type 0x010A
    ++ dump "14 00  0A 00 01 00  AA AA AA AA  00 00 00 00  01 00 00 00"  -- type 0x0001000A
    ++ dump "14 00  0A 00 00 01  AA AA AA AA  00 00 00 00  01 00 00 00"  -- type 0x0100000A
    ++ dump "11 00  0B 00 00 00  AA AA AA AA  06 00 00 00"  -- cut off by the match in its value
    ++ dump "14 00  0A 00 00 00  01 00 00 00  02 00 00 00  43 00  FE 00 00 00"  -- a match: a name; trailer 254 ends the group
    ++ dump "64 00  01 02 03 04"  -- its child is not looked for

pub near_matches : exit table near (replicate 16 old) (replicate 60 old) ≡ record {
  answer = answer 0 2 10 1;
  controls = 0 ∷ 0 ∷ 49 ∷ 0 ∷ 1 ∷ 8 ∷ 0 ∷ no_parent
      ∷ 0 ∷ 0 ∷ 207 ∷ 2 ∷ 9 ∷ 1 ∷ 0 ∷ no_parent ∷ [];
  properties = 0x05 ∷ 1 ∷ 0 ∷ 0 ∷ 28 ∷ 0
      ∷ 0x14 ∷ 6 ∷ 0 ∷ 0 ∷ 49 ∷ 0
      ∷ 0x114 ∷ 6 ∷ 0 ∷ 0 ∷ 67 ∷ 0
      ∷ 0x13 ∷ 6 ∷ 0 ∷ 0 ∷ 85 ∷ 0
      ∷ 0x14 ∷ 7 ∷ 0 ∷ 0 ∷ 103 ∷ 0
      ∷ 0x14 ∷ 7 ∷ 0 ∷ 0 ∷ 121 ∷ 0
      ∷ 0x14 ∷ 7 ∷ 0 ∷ 0 ∷ 139 ∷ 0
      ∷ 0x14 ∷ 7 ∷ 0 ∷ 0 ∷ 157 ∷ 0
      ∷ 0x14 ∷ 7 ∷ 0 ∷ 0 ∷ 175 ∷ 0
      ∷ 0x14 ∷ 6 ∷ 0 ∷ 0 ∷ 207 ∷ 2 ∷ [];
}
unfolding blob_open
near_matches = refl

-- a match of which the stream has all six bytes, and no more: it ends the group before it
abbrev ends_by_match : List ℕ
ends_by_match =
    replicate 14 0x00
    ++ dump "05 00  01 00 00 00  AA AA AA AA  00 00 00 00  00 00 00 00"  -- the object: a flag
    ++ dump "FF FF FF"  -- no property
    ++ dump "14 00  0A 00 00 00  AA AA AA AA  00 00 00 00  01 00 00 00"  -- a match: an empty name
    ++ dump "11 00  0B 00 00 00  AA AA AA AA  02 00 00 00  14 00  0A 00 00 00"  -- cut off by the match at its end

pub ends-by-match : exit table ends_by_match (replicate 8 old) (replicate 12 old) ≡ record {
  answer = answer 0 1 2 1;
  controls = 0 ∷ 0 ∷ 49 ∷ 0 ∷ 1 ∷ 1 ∷ 0 ∷ no_parent ∷ [];
  properties = 0x05 ∷ 1 ∷ 0 ∷ 0 ∷ 28 ∷ 0
      ∷ 0x14 ∷ 6 ∷ 0 ∷ 0 ∷ 49 ∷ 0 ∷ [];
}
unfolding blob_open
ends-by-match = refl

-- five of them are no match
abbrev ends_by_five : List ℕ
ends_by_five =
    replicate 14 0x00
    ++ dump "05 00  01 00 00 00  AA AA AA AA  00 00 00 00  00 00 00 00"  -- the object: a flag
    ++ dump "FF FF FF"  -- no property
    ++ dump "14 00  0A 00 00 00  AA AA AA AA  00 00 00 00  01 00 00 00"  -- a match: an empty name
    ++ dump "11 00  0B 00 00 00  AA AA AA AA  01 00 00 00  14  00 0A 00 00"  -- Binary; trailer 0x0A00

pub ends-by-five : exit table ends_by_five (replicate 8 old) (replicate 18 old) ≡ record {
  answer = answer 0 1 3 1;
  controls = 0 ∷ 0 ∷ 49 ∷ 0 ∷ 1 ∷ 2 ∷ 0 ∷ no_parent ∷ [];
  properties = 0x05 ∷ 1 ∷ 0 ∷ 0 ∷ 28 ∷ 0
      ∷ 0x14 ∷ 6 ∷ 0 ∷ 0 ∷ 49 ∷ 0
      ∷ 0x11 ∷ 7 ∷ 0 ∷ 0 ∷ 67 ∷ 1 ∷ [];
}
unfolding blob_open
ends-by-five = refl

-- a node's group that ends by no trailer: the tree fails, and the scan finds the name
abbrev unended : List ℕ
unended =
    replicate 14 0x00
    ++ dump "05 00  01 00 00 00  AA AA AA AA  00 00 00 00  FE 00 00 00"  -- the object: a flag; trailer 254, one node
    ++ dump "98 00  01 02 03 04"  -- 0x98
    ++ dump "14 00  0A 00 00 00  AA AA AA AA  02 00 00 00  43 00  FC 00 00 00"  -- a name; trailer 252

pub unended-node : (exit table unended (replicate 8 old) (replicate 12 old)).controls ≡ 0 ∷ 0 ∷ 52 ∷ 2 ∷ 1 ∷ 1 ∷ 0 ∷ no_parent ∷ []
unfolding blob_open
unended-node = refl

-- a node's count that isn't there
abbrev cut_count : List ℕ
cut_count =
    replicate 14 0x00
    ++ dump "05 00  01 00 00 00  AA AA AA AA  00 00 00 00  FE 00 00 00"  -- the object: a flag; trailer 254, one node
    ++ dump "98 00  01 02 03 04"  -- 0x98
    ++ dump "14 00  0A 00 00 00  AA AA AA AA  02 00 00 00  43 00  FF 00 00 00"  -- a name; trailer 255 and no count

pub cut-count : (exit table cut_count (replicate 8 old) (replicate 12 old)).controls ≡ 0 ∷ 0 ∷ 52 ∷ 2 ∷ 1 ∷ 1 ∷ 0 ∷ no_parent ∷ []
unfolding blob_open
cut-count = refl

-- a tree that reports nothing is no reason to scan
abbrev silent : List ℕ
silent =
    replicate 14 0x00
    ++ dump "05 00  01 00 00 00  AA AA AA AA  00 00 00 00  FE 00 00 00"  -- the object: a flag; trailer 254, one node
    ++ dump "64 00  01 02 03 04"  -- 0x64: not reported
    ++ dump "14 00  0A 00 00 00  AA AA AA AA  02 00 00 00  43 00  FD 00 00 00"  -- its name; trailer 253

pub silent_tree : (exit table silent [] (replicate 6 old)).answer ≡ answer 0 0 1 1
unfolding blob_open
silent_tree = refl

-- the scan starts behind the trailer that speaks of nodes which aren't there, not behind their count: a match may begin in it
abbrev count_is_match : List ℕ
count_is_match =
    replicate 14 0x00
    ++ dump "05 00  01 00 00 00  AA AA AA AA  00 00 00 00  FF 00 00 00"  -- the object: a flag; trailer 255
    ++ dump "14 00  0A 00 00 00  AA AA AA AA  02 00 00 00  44 00  00 00 00 00"  -- 20 nodes aren't there: a match, a name

pub count-is-match : (exit table count_is_match (replicate 8 old) (replicate 12 old)).controls ≡ 0 ∷ 0 ∷ 46 ∷ 2 ∷ 1 ∷ 1 ∷ 0 ∷ no_parent ∷ []
unfolding blob_open
count-is-match = refl

-- ---- parts of a stream
-- a property at 1, by its bytes
pub later-property :
    (property_at (dump "00  82 83  84 85 86 87  08 09 0A 0B  8C 8D 8E 8F") 1 ≡ record { id = 0x8382; type = 0x87868584; start = 15; size = 0x8F8E8D8C })
    × (trailer_at (dump "00  02 03  04 05 06 07  08 09 0A 0B  01 00 00 00  99  92 93 94 95") 1 ≡ 0x95949392)
    × (end_at (dump "00  02 03  04 05 06 07  08 09 0A 0B  01 00 00 00") 1 ≡ 20)
    × (map ends_group (252 ∷ 253 ∷ 254 ∷ 255 ∷ 256 ∷ []) ≡ false ∷ true ∷ true ∷ true ∷ false ∷ [])
unfolding blob_open
later-property = (refl, refl, refl, refl)

-- how far a group is read, and where it stops
pub groups :
    ((group_of 0 (replicate 40 0x00) 40 3).stop ≡ 3)
    × ((group_of 1 (replicate 40 0x00) 40 3).stop ≡ 21)
    × ((group_of 2 (replicate 40 0x00) 38 3).stop ≡ 21)
    × ((group_of 2 (replicate 40 0x00) 39 3).stop ≡ 39)
unfolding blob_open
groups = (refl, refl, refl, refl)

pub matches :
    map (match_at (dump "00  14 00  0A 00 00 00  14 00  0A 00 00")) (0 ∷ 1 ∷ 2 ∷ 7 ∷ []) ≡ false ∷ true ∷ false ∷ false ∷ []
unfolding blob_open
matches = refl

pub children :
    (children_at (dump "05 01 02") 253 1 ≡ some (0, 1))
    × (children_at (dump "05 01 02") 254 1 ≡ some (1, 1))
    × (children_at (dump "05 01 02") 255 1 ≡ some (0x0201, 3))
    × (children_at (dump "05 01 02") 255 2 ≡ none)
unfolding blob_open
children = (refl, refl, refl, refl)

-- ---- depths
-- three nodes, each below the one before it
abbrev pub chain : List ℕ
chain =
    replicate 14 0x00
    ++ dump "05 00  01 00 00 00  00 00 00 00  00 00 00 00  FE 00 00 00"  -- a flag; trailer 254, one node
    ++ concat (replicate 2 (dump "98 00  01 02 03 04  05 00  01 00 00 00  00 00 00 00  00 00 00 00  FE 00 00 00"))
    ++ dump "98 00  01 02 03 04  05 00  01 00 00 00  00 00 00 00  00 00 00 00  FD 00 00 00"

-- it is read where there is a level for each of its nodes; that a whole stream has 256 levels is a law (`DepthLaws.depth`)
abbrev pub is_read_lem : {A : Type 0} → Option A → Bool
is_read_lem none = false
is_read_lem (some x) = true

pub deep_nodes : map (λ d. is_read_lem (nodes_at d chain 1 32)) (0 ∷ 1 ∷ 2 ∷ 3 ∷ 4 ∷ []) ≡ false ∷ false ∷ false ∷ true ∷ true ∷ []
unfolding blob_open
deep_nodes = refl
