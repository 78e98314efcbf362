use Rattle.std.proofs.Common.{sym, arith}
use Rattle.std.proofs.Math.Seq.{length-take-le}
use Rattle.listing.proofs.Placed.{within}
use Rattle.showform.proofs.Printing.{all-printed, none-printed}
use Rattle.showform.proofs.show.Goals as goal

pub refuse-requires : goal.refuse-requires
refuse-requires c = none-printed c.write_shown-end.ensures c.requires (sym c.filled-out.ensures.size) (omega arith)

pub slice_bounds-print-end : goal.slice_bounds-print-end
slice_bounds-print-end c = sym (length-take-le _ _ (within c.write_shown-end.ensures))

pub print-requires : goal.print-requires
print-requires c =
    all-printed c.write_shown-end.ensures c.requires (omega (arith, c.filled-out.ensures.size)) (omega (arith, c.filled-out.ensures.size))
