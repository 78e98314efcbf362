use mathlib.Core.Path.{sym}
use lib.Seq.{length-take-le}
use Rattle.listing.proofs.Placed.{within}
use Rattle.tablejoin.proofs.Printing.{all-printed}
use Rattle.tablejoin.proofs.run.Goals as goal

pub slice_bounds-print-end : goal.slice_bounds-print-end
slice_bounds-print-end c = within c.write_input-end.ensures

pub slice_bounds-print-end-2 : goal.slice_bounds-print-end-2
slice_bounds-print-end-2 c = let w = c.write_input-end in sym (length-take-le w.result _ (within w.ensures))

pub print-requires : goal.print-requires
print-requires c =
    let p = c.requires in all-printed p.reads_all c.write_input-end.ensures p.says_all
