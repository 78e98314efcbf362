use Rattle.std.proofs.Common.{rules, sym, arith}
use Rattle.std.proofs.Math.ListN.{length-replicate}
use Rattle.std.proofs.Math.Seq.{length-take-le}
use Rattle.listing.proofs.Longest.{answer-short}
use Rattle.listing.proofs.Placed.{within}
use Rattle.respell.proofs.Printing.{all-printed, first_fits}
use Rattle.respell.proofs.respell.Goals as goal

pub slice_bounds-line-end : goal.slice_bounds-line-end
slice_bounds-line-end c = within c.answer_line-end.ensures

pub slice_bounds-print-end : goal.slice_bounds-print-end
slice_bounds-print-end c = sym (length-take-le _ _ (within c.answer_line-end.ensures))

pub slice_bounds-print-end-2 : goal.slice_bounds-print-end-2
slice_bounds-print-end-2 c = let w = c.rewrite-a in omega (arith, first_fits _ _ w.ensures.value, w.auto.out)

pub slice_bounds-print-end-3 : goal.slice_bounds-print-end-3
slice_bounds-print-end-3 c = let w = c.rewrite-a in sym (length-take-le _ _ (omega (arith, first_fits _ _ w.ensures.value, w.auto.out)))

pub print-requires : goal.print-requires
print-requires c =
    let w = c.rewrite-a in
    let short = answer-short w.result (search rules) (search rules) (search rules) (search rules) in
    all-printed _ _ w.ensures.value w.ensures.out_after c.answer_line-end.ensures (simp length-replicate (omega (arith, short))) (λ i. omega (arith, c.type_inv.input i)) c.requires
