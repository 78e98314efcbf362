use Rattle.std.proofs.Common.{arith, sym}
use Rattle.std.proofs.Math.ListN.{length-replicate}
use Rattle.std.proofs.Math.Seq.{length-take-le}
use Rattle.listing.proofs.Placed.{within}
use Rattle.totalling.proofs.Printing.{all-printed}
use Rattle.totalling.proofs.count.Goals as goal

pub slice_bounds-out-end : goal.slice_bounds-out-end
slice_bounds-out-end c = within c.write_counted-end.ensures.wrote

pub slice_bounds-print-end : goal.slice_bounds-print-end
slice_bounds-print-end c = sym (length-take-le _ _ (within c.write_counted-end.ensures.wrote))

pub print-requires : goal.print-requires
print-requires c = all-printed c.write_counted-end.ensures (simp length-replicate (omega arith)) c.requires
