-- The line of the refusal.
use native.Mathlib.Omega.{arith}
use Rattle.std.proofs.Common.{sym}
use lib.ListN.{length-replicate}
use lib.Seq.{length-take-le}
use Rattle.listing.proofs.Placed.{within}
use Rattle.inputs.proofs.Came.{refusal-printed}
use Rattle.bloblist.proofs.Printing.{too_long}
use Rattle.bloblist.proofs.refuse.Goals as goal

pub slice_bounds-out-end : goal.slice_bounds-out-end
slice_bounds-out-end c = within c.refusal_line-end.ensures

pub slice_bounds-print-end : goal.slice_bounds-print-end
slice_bounds-print-end c = sym (length-take-le _ _ (within c.refusal_line-end.ensures))

pub print-requires : goal.print-requires
print-requires c = refusal-printed too_long c.refusal_line-end.ensures (simp length-replicate (omega arith)) c.requires
