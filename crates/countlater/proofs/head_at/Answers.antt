use Rattle.std.proofs.Common.{arith, ◌∙◌}
use Rattle.countlater.proofs.NodeLaws.{head_none, head_bad, head_of}
use Rattle.countlater.proofs.head_at.Goals as goal

pub returns-then-s-at : goal.returns-then-s-at
returns-then-s-at c = head_none _ _ (omega arith)

pub returns-in_err-below : goal.returns-in_err-below
returns-in_err-below c = c.from_residual.ensures ∙ head_bad _ _ c.parse_group-group.ensures c.in_err-below.ensures

pub returns : goal.returns
returns c = head_of _ _ c.parse_group-group.ensures c.in_ok-below.ensures
