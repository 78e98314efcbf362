-- What was written is printed.
use Rattle.std.proofs.Common.{rules, sym, arith}
use Rattle.std.proofs.Math.ListN.{length-replicate}
use Rattle.std.proofs.Math.Seq.{length-take-le}
use Rattle.listing.proofs.Longest.{answer-short}
use Rattle.listing.proofs.Placed.{within}
use Rattle.csvout.proofs.Printing.{size_fits, all-printed}
use Rattle.csvout.proofs.put_sheet.Goals as goal

pub slice_bounds-line-end : goal.slice_bounds-line-end
slice_bounds-line-end c = within c.answer_line-end.ensures

pub slice_bounds-print-end : goal.slice_bounds-print-end
slice_bounds-print-end c = sym (length-take-le _ _ (within c.answer_line-end.ensures))

pub slice_bounds-out-end : goal.slice_bounds-out-end
slice_bounds-out-end c =
    omega (arith, c.text_size-size.ensures, size_fits _ _ _ _ _ c.filled-controls.ensures.size c.filled-properties.ensures.size c.filled-out.ensures.size c.write_csv-a.ensures)

pub slice_bounds-print-end-2 : goal.slice_bounds-print-end-2
slice_bounds-print-end-2 c =
    let fits = size_fits _ _ _ _ _ c.filled-controls.ensures.size c.filled-properties.ensures.size c.filled-out.ensures.size c.write_csv-a.ensures in
    sym (length-take-le _ _ (omega (arith, c.text_size-size.ensures, fits)))

pub print-requires : goal.print-requires
print-requires c =
    let short = answer-short c.write_csv-a.result (search rules) (search rules) (search rules) (search rules) in
    rw c.text_size-size.ensures
    (all-printed _ _ _ _ _ c.filled-controls.ensures.size c.filled-properties.ensures.size c.filled-out.ensures.size c.write_csv-a.ensures
    c.answer_line-end.ensures (simp length-replicate (omega (arith, short))) c.requires)
