-- Wish 14 of document 02: rows enough for every stream of at most n bytes. They are rows and not words; a difference that would be below 0 is 0.
use Rattle.std.specs.Prelude.{ℕ, ◌-◌, ◌/◌, min, max}
use Rattle.rules.specs.Answer.{longest}
use Rattle.rules.specs.declared.Room.{Room}

abbrev pub rows : ℕ → ℕ → Room
rows controls properties = record { controls = controls; properties = properties }

-- a longer stream is refused (5) before it needs a row
abbrev pub readable : ℕ → ℕ
readable n = min n longest

-- "if Access 2000, 3C + P + 11 is at most the length"
unfoldable pub room2000 : ℕ → Room
room2000 n = rows ((readable n - 11) / 3) (readable n - 11)

-- "if a later tree, 6C + 18P + 14; if a scan after at least 14 bytes, 18P + 14, with C at most P". In a tree C is at most P too: each node's group
-- ends by a trailer, so it has a property
unfoldable pub room_later_lem : ℕ → Room
room_later_lem n = rows ((readable n - 14) / 18) ((readable n - 14) / 18)

-- for a caller who doesn't know the layout
unfoldable pub room_for : ℕ → Room
room_for n = rows (max (room2000 n).controls (room_later_lem n).controls) (max (room2000 n).properties (room_later_lem n).properties)

-- TypeInfo: its count is at most "(length − 32) / 8, rounded down"
unfoldable pub type_info_room_lem : ℕ → ℕ
type_info_room_lem n = (readable n - 32) / 8
