use Rattle.std.proofs.Common.{sym, arith}
use Rattle.std.proofs.Math.ListN.{length-replicate}
use Rattle.std.proofs.Math.Seq.{length-take-le}
use Rattle.listing.proofs.Placed.{within, held}
use Rattle.roomlist.proofs.Longest.{lines_short}
use Rattle.roomlist.proofs.main.Goals as goal

pub slice_bounds-out-end : goal.slice_bounds-out-end
slice_bounds-out-end c = within c.put_rooms-end.ensures

pub slice_bounds-print-end : goal.slice_bounds-print-end
slice_bounds-print-end c = sym (length-take-le _ _ (within c.put_rooms-end.ensures))

pub print-requires : goal.print-requires
print-requires c =
    held c.put_rooms-end.ensures (simp length-replicate (omega (arith, lines_short c.from_le_bytes-length.result c.from_le_bytes-length.type_inv)))
