use Rattle.text.proofs.Chain.{◌⨟◌}
use Rattle.roomlist.specs.Rooms.{room_lines}
use Rattle.roomlist.proofs.Longest.{small_2000, small-later, small-either, small_info}
use Rattle.roomlist.proofs.put_rooms.Goals as goal

pub put_blob-p-requires : goal.put_blob-p-requires
put_blob-p-requires c = rw c.room_for.ensures (small-either _)

pub put_blob-p-requires-2 : goal.put_blob-p-requires-2
put_blob-p-requires-2 c = rw c.room_2000.ensures (small_2000 _)

pub put_blob-p-requires-3 : goal.put_blob-p-requires-3
put_blob-p-requires-3 c = rw c.room_later.ensures (small-later _)

pub put_info-requires : goal.put_info-requires
put_info-requires c = rw c.type_info_room.ensures (small_info _)

pub returns : goal.returns
unfolding room_lines
returns c =
    c.put_length-p.ensures
    ⨟ (rw c.room_for.ensures at c.put_blob-p.ensures)
    ⨟ (rw c.room_2000.ensures at c.put_blob-p-2.ensures)
    ⨟ (rw c.room_later.ensures at c.put_blob-p-3.ensures)
    ⨟ (rw c.type_info_room.ensures at c.put_info.ensures)
