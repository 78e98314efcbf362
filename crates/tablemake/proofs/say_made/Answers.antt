use Rattle.std.proofs.Common.{sym, ap, ◌∙◌, ◌++◌, take, arith}
use lib.Seq.{length-take-le}
use Rattle.listing.proofs.Placed.{within}
use Rattle.listing.proofs.Longest.{Word32}
use Rattle.tablewhy.proofs.Reasons.{whole-size}
use Rattle.tablemake.proofs.Printing.{all-printed}
use Rattle.tablemake.proofs.say_made.Goals as goal

pub overflow_cast-size : goal.overflow_cast-size
overflow_cast-size c = omega (arith, c.requires.made.small)

pub slice_bounds-print_table-end : goal.slice_bounds-print_table-end
slice_bounds-print_table-end c = within c.size_line-end.ensures

pub slice_bounds-print_table-end-2 : goal.slice_bounds-print_table-end-2
slice_bounds-print_table-end-2 c = let l = c.size_line-end in sym (length-take-le l.result _ (within l.ensures))

pub slice_bounds-print_table-end-3 : goal.slice_bounds-print_table-end-3
slice_bounds-print_table-end-3 c = sym (length-take-le c.args.size _ c.requires.made.size-fits)

pub print_table-requires : goal.print_table-requires
print_table-requires c =
    let small : Word32 c.args.size = omega (arith, c.requires.made.small) in
    λ all b. ap (λ first. first ++ take c.args.size c.args.out.now) (whole-size c.args.size small c.size_line-end.ensures c.requires.line_room) ∙ c.requires.made.said ∙ all-printed c.requires.all_read b
