use Rattle.std.proofs.Common.{sym, ◌∙◌, arith}
use lib.Seq.{length-take-le}
use Rattle.listing.proofs.Placed.{within}
use Rattle.listing.proofs.Longest.{Word32}
use Rattle.tablewhy.proofs.Reasons.{whole-why}
use Rattle.tablemake.proofs.Printing.{all-printed}
use Rattle.tablemake.proofs.say_refused.Goals as goal

pub slice_bounds-print_refusal-end : goal.slice_bounds-print_refusal-end
slice_bounds-print_refusal-end c = within c.why_line-end.ensures

pub slice_bounds-print_refusal-end-2 : goal.slice_bounds-print_refusal-end-2
slice_bounds-print_refusal-end-2 c = let l = c.why_line-end in sym (length-take-le l.result _ (within l.ensures))

pub print_refusal-requires : goal.print_refusal-requires
print_refusal-requires c =
    let small : Word32 c.args.refusal.line = omega arith in
    λ all b. rw c.number.ensures at (whole-why _ _ small c.why_line-end.ensures c.requires.line_room) ∙ c.requires.refused.said ∙ all-printed c.requires.all_read b
