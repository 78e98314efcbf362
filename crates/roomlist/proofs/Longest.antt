-- Room by a length is small, and what is printed of it short.
use mathlib.Core.List.{List}
use Prim.Native.Nat.{ℕ, ◌+◌, ◌≤◌}
use native.Mathlib.Nat.{min-le_right}
use native.Mathlib.Omega.{arith}
use lib.ListN.{length, length-append}
use Rattle.rules.specs.Answer.{longest}
use Rattle.rules.specs.Lists.{text}
use Rattle.rules.specs.Room.{readable, room2000, room_later_lem, room_for, type_info_room_lem}
use Rattle.rules.specs.declared.Room.{Room}
use Rattle.listing.proofs.Longest.{Word32, decimal-short}
use Rattle.roomlist.specs.Rooms.{Small, blob_bytes, info_bytes, blob_line, info_line, length_line, room_lines}

readable-small : (n : ℕ) → readable n ≤ longest
readable-small n = min-le_right n longest

pub small_2000 : (n : ℕ) → Small (room2000 n)
unfolding room2000
small_2000 n = let h = readable-small n in record { controls = omega arith; properties = omega arith }

pub small-later : (n : ℕ) → Small (room_later_lem n)
unfolding room_later_lem
small-later n = let h = readable-small n in record { controls = omega arith; properties = omega arith }

pub small-either : (n : ℕ) → Small (room_for n)
unfolding room2000 room_later_lem room_for
small-either n = let h = readable-small n in record { controls = omega arith; properties = omega arith }

pub small_info : (n : ℕ) → type_info_room_lem n ≤ longest
unfolding type_info_room_lem
small_info n = let h = readable-small n in omega arith

blob-short : (layout : List ℕ) (r : Room) → Small r → length (blob_line layout r) ≤ length layout + 68
unfolding blob_line
blob-short layout r s =
    let c = s.controls in
    let p = s.properties in
    simp length-append (omega (arith, decimal-short r.controls (omega arith), decimal-short r.properties (omega arith), decimal-short (blob_bytes r) (omega arith)))

info_short : (n : ℕ) → n ≤ longest → length (info_line n) ≤ 44
unfolding info_line
info_short n h = simp length-append (omega (arith, decimal-short n (omega arith), decimal-short (info_bytes n) (omega arith)))

length-short : (n : ℕ) → Word32 n → length (length_line n) ≤ 23
unfolding length_line
length-short n h = simp length-append (omega (arith, decimal-short n h))

pub lines_short : (n : ℕ) → Word32 n → length (room_lines n) ≤ 324
unfolding room_lines
lines_short n h =
    simp length-append
    (omega (
      arith,
      length-short n h,
      blob-short (text "Blob, either layout: ") (room_for n) (small-either n),
      blob-short (text "Blob, Access 2000: ") (room2000 n) (small_2000 n),
      blob-short (text "Blob, later: ") (room_later_lem n) (small-later n),
      info_short (type_info_room_lem n) (small_info n),
    ))
