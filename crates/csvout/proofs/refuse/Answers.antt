-- The line of the refusal.
use Rattle.std.proofs.Common.{sym, arith}
use Rattle.std.proofs.Math.ListN.{length-replicate}
use Rattle.std.proofs.Math.Seq.{length-take-le}
use Rattle.listing.proofs.Placed.{within}
use Rattle.csvout.proofs.Printing.{refusal-printed}
use Rattle.csvout.proofs.refuse.Goals as goal

pub slice_bounds-line-end : goal.slice_bounds-line-end
slice_bounds-line-end c = within c.refusal_line-end.ensures

pub slice_bounds-print-end : goal.slice_bounds-print-end
slice_bounds-print-end c = sym (length-take-le _ _ (within c.refusal_line-end.ensures))

pub print-requires : goal.print-requires
print-requires c = refusal-printed c.refusal_line-end.ensures (simp length-replicate (omega arith)) (omega arith) c.requires
