-- What was written is printed.
use Rattle.std.proofs.Common.{sym}
use lib.Seq.{length-take-le}
use Rattle.listing.proofs.Placed.{within}
use Rattle.inputs.proofs.Came.{all-printed}
use Rattle.pairlines.specs.Pairs.{pair_listing}
use Rattle.pairlist.proofs.Printing.{all_listed}
use Rattle.pairlist.proofs.list.Goals as goal

pub slice_bounds-print-end : goal.slice_bounds-print-end
slice_bounds-print-end c = within c.write-end.ensures.wrote

pub slice_bounds-print-end-2 : goal.slice_bounds-print-end-2
slice_bounds-print-end-2 c = sym (length-take-le c.write-end.result _ (within c.write-end.ensures.wrote))

pub print-requires : goal.print-requires
print-requires c = all-printed pair_listing c.write-end.ensures c.requires.for_lines (all_listed c.requires)
