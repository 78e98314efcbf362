use mathlib.Core.Path.{sym}
use lib.Seq.{length-take-le}
use Rattle.listing.proofs.Placed.{within}
use Rattle.tableshow.proofs.Printed.{printed}
use Rattle.tableshow.proofs.show.Goals as goal

pub slice_bounds-print-end : goal.slice_bounds-print-end
slice_bounds-print-end c = within c.show_table-end.ensures.wrote

pub slice_bounds-print-end-2 : goal.slice_bounds-print-end-2
slice_bounds-print-end-2 c = let w = c.show_table-end in sym (length-take-le w.result _ (within w.ensures.wrote))

pub print-requires : goal.print-requires
print-requires c = printed c.requires c.show_table-end.ensures
