use Rattle.std.proofs.Common.{sym, arith}
use Rattle.std.proofs.Math.Seq.{length-take-le}
use Rattle.listing.proofs.Placed.{within}
use Rattle.formlist.proofs.Printing.{all-printed}
use Rattle.formlist.proofs.list.Goals as goal

pub slice_bounds-print-end : goal.slice_bounds-print-end
slice_bounds-print-end c = within c.write_form_listing-end.ensures.wrote

pub slice_bounds-print-end-2 : goal.slice_bounds-print-end-2
slice_bounds-print-end-2 c = sym (length-take-le _ _ (within c.write_form_listing-end.ensures.wrote))

pub print-requires : goal.print-requires
print-requires c =
    let room = c.requires.roomy in
    let r = c.read_full-size in
    all-printed c.write_form_listing-end.ensures room.for_lines λ e. omega (arith, c.has_more-more.ensures e, r.ensures.1, r.auto.buf, room.for_input)
