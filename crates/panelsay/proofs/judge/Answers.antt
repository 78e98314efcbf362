-- What was written is printed.
use native.Mathlib.Omega.{arith}
use Rattle.std.proofs.Common.{sym}
use lib.ListN.{length-replicate}
use lib.Seq.{length-take-le}
use Rattle.listing.proofs.Placed.{within}
use Rattle.panelsay.proofs.Printing.{all-printed}
use Rattle.panelsay.proofs.judge.Goals as goal

pub slice_bounds-out-end : goal.slice_bounds-out-end
slice_bounds-out-end c = within c.write_judged-end.ensures.wrote

pub slice_bounds-print-end : goal.slice_bounds-print-end
slice_bounds-print-end c = sym (length-take-le _ _ (within c.write_judged-end.ensures.wrote))

pub print-requires : goal.print-requires
print-requires c = all-printed c.write_judged-end.ensures (simp length-replicate (omega arith)) c.requires
