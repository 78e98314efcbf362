use Rattle.std.proofs.Common.{sym}
use Rattle.std.proofs.Math.Seq.{length-take-le}
use Rattle.listing.proofs.Placed.{within}
use Rattle.difflist.proofs.Printing.{all-printed}
use Rattle.difflist.proofs.list.Goals as goal

pub slice_bounds-print-end : goal.slice_bounds-print-end
slice_bounds-print-end c = within c.write_listed-end.ensures.wrote

pub slice_bounds-print-end-2 : goal.slice_bounds-print-end-2
slice_bounds-print-end-2 c = sym (length-take-le _ _ (within c.write_listed-end.ensures.wrote))

pub print-requires : goal.print-requires
print-requires c = all-printed c.write_listed-end.ensures c.requires
