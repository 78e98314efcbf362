-- What was written is printed.
use native.Mathlib.Omega.{arith}
use Rattle.std.proofs.Common.{sym}
use lib.Seq.{length-take-le}
use Rattle.listing.proofs.Placed.{within}
use Rattle.infolist.proofs.Printing.{all-printed}
use Rattle.infolist.proofs.list.Goals as goal

pub slice_bounds-print-end : goal.slice_bounds-print-end
slice_bounds-print-end c = within c.write_infos-end.ensures

pub slice_bounds-print-end-2 : goal.slice_bounds-print-end-2
slice_bounds-print-end-2 c = sym (length-take-le c.write_infos-end.result _ (within c.write_infos-end.ensures))

pub print-requires : goal.print-requires
print-requires c = all-printed c.write_infos-end.ensures (λ i. omega (arith, c.type_inv.input i)) c.requires
