-- Rooms, worked.
use mathlib.Core.Path.{◌≡◌, refl}
use Rattle.rules.specs.Room.{rows, room2000, room_later_lem, room_for, type_info_room_lem}

-- 10 KB
pub ten_kilobytes : (room2000 10240 ≡ rows 3409 10229) × (room_later_lem 10240 ≡ rows 568 568) × (room_for 10240 ≡ rows 3409 10229) × (type_info_room_lem 10240 ≡ 1276)
unfolding room2000 room_later_lem room_for type_info_room_lem
ten_kilobytes = (refl, refl, refl, refl)

-- the longest stream that is read, and the same for all that are longer
pub longest-stream : (room_for 16777216 ≡ rows 5592401 16777205) × (room_later_lem 16777216 ≡ rows 932066 932066) × (type_info_room_lem 16777216 ≡ 2097148)
unfolding room2000 room_later_lem room_for type_info_room_lem
longest-stream = (refl, refl, refl)

pub longer-streams : (room_for 16777217 ≡ room_for 16777216) × (room_later_lem 4294967296 ≡ room_later_lem 16777216) × (type_info_room_lem 4294967296 ≡ type_info_room_lem 16777216)
unfolding room2000 room_later_lem room_for type_info_room_lem
longer-streams = (refl, refl, refl)

-- the shortest that need a row, and one byte less
pub first_rows : (room2000 14 ≡ rows 1 3) × (room2000 13 ≡ rows 0 2) × (room_later_lem 32 ≡ rows 1 1) × (room_later_lem 31 ≡ rows 0 0) × (type_info_room_lem 40 ≡ 1) × (type_info_room_lem 39 ≡ 0) × (room_for 0 ≡ rows 0 0)
unfolding room2000 room_later_lem room_for type_info_room_lem
first_rows = (refl, refl, refl, refl, refl, refl, refl)
