-- What `roomlist` prints of a length: rows that are enough for every stream of at most so many bytes, and the bytes that the rows take.
use Rattle.std.specs.Prelude.{ℕ, ◌+◌, ◌*◌, ◌≤◌, List, ◌++◌}
use Rattle.rules.specs.Lists.{text}
use Rattle.rules.specs.Answer.{longest}
use Rattle.rules.specs.Digits.{decimal}
use Rattle.rules.specs.Rows.{control_width, property_width, type_info_width}
use Rattle.rules.specs.Room.{room2000, room_later_lem, room_for, type_info_room_lem}
use Rattle.rules.specs.declared.Room.{Room}

-- a word of a row has four bytes
abbrev pub blob_bytes : Room → ℕ
blob_bytes r = 4 * (control_width * r.controls + property_width * r.properties)

abbrev pub info_bytes : ℕ → ℕ
info_bytes n = 4 * (type_info_width * n)

-- no room by a length has more rows
pub record Small (r : Room) : Type 0 where
  pub controls : r.controls ≤ longest
  pub properties : r.properties ≤ longest

-- the rows of a Blob; `layout` says of which
unfoldable pub blob_line : List ℕ → Room → List ℕ
blob_line layout r =
    layout
    ++ (decimal r.controls ++ (text " control rows, " ++ (decimal r.properties ++ (text " property rows, " ++ (decimal (blob_bytes r) ++ text " bytes\n")))))

unfoldable pub info_line : ℕ → List ℕ
info_line n = text "TypeInfo: " ++ (decimal n ++ (text " rows, " ++ (decimal (info_bytes n) ++ text " bytes\n")))

unfoldable pub length_line : ℕ → List ℕ
length_line n = text "up to " ++ (decimal n ++ text " bytes\n")

unfoldable pub room_lines : ℕ → List ℕ
room_lines n =
    length_line n
    ++ (blob_line (text "Blob, either layout: ") (room_for n)
    ++ (blob_line (text "Blob, Access 2000: ") (room2000 n)
    ++ (blob_line (text "Blob, later: ") (room_later_lem n)
    ++ info_line (type_info_room_lem n))))
