use Rattle.std.proofs.Common.{ap, ◌∙◌, arith}
use Rattle.tablelines.specs.Items.{Header, said, header_item}
use Rattle.tablelines.specs.declared.faults.Fault.TheVariants.{FourDigits}
use Rattle.tablelines.proofs.ItemLaws.{one_number, raised}
use Rattle.tablelines.proofs.header_item.Goals as goal

pub returns-in_err-code : goal.returns-in_err-code
unfolding header_item
returns-in_err-code c =
    ap said (raised _ _ c.from_residual.ensures.1) ∙ one_number Header 65535 _ FourDigits _ (λ e. omega arith) c.four_of.ensures c.in_err-code.ensures

pub returns : goal.returns
unfolding header_item
returns c = one_number Header 65535 _ FourDigits _ (λ e. omega arith) c.four_of.ensures c.in_ok-code.ensures
