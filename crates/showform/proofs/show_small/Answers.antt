use Rattle.std.proofs.Common.{sym, arith}
use Rattle.std.proofs.Math.Seq.{length-take-le}
use Rattle.listing.proofs.Placed.{within}
use Rattle.showform.proofs.Printing.{small-ready, all-printed}
use Rattle.showform.proofs.show_small.Goals as goal

pub slice_bounds-print-end : goal.slice_bounds-print-end
slice_bounds-print-end c = sym (length-take-le _ _ (within c.write_shown-end.ensures))

pub print-requires : goal.print-requires
print-requires c =
    let room = c.filled-out.ensures.size in
    let ready = small-ready c.requires c.filled-infos.ensures.value c.filled-controls.ensures.value c.filled-properties.ensures.value in
    all-printed c.write_shown-end.ensures ready (omega (arith, room)) (omega (arith, room))
