use Rattle.std.proofs.Common.{ap, ◌∙◌, arith}
use Rattle.tablelines.specs.Items.{Layout, said, layout_item}
use Rattle.tablelines.specs.declared.faults.Fault.TheVariants.{TwoDigits}
use Rattle.tablelines.proofs.ItemLaws.{one_number, raised}
use Rattle.tablelines.proofs.layout_item.Goals as goal

pub returns-in_err-byte : goal.returns-in_err-byte
unfolding layout_item
returns-in_err-byte c =
    ap said (raised _ _ c.from_residual.ensures.1) ∙ one_number Layout 255 _ TwoDigits _ (λ e. omega arith) c.two_of.ensures c.in_err-byte.ensures

pub returns : goal.returns
unfolding layout_item
returns c = one_number Layout 255 _ TwoDigits _ (λ e. omega arith) c.two_of.ensures c.in_ok-byte.ensures
