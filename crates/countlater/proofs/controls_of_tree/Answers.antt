use Rattle.std.proofs.Common.{◌∙◌}
use Rattle.countlater.proofs.CountLaws.{tree_bad, tree_none, tree_over, tree_whole}
use Rattle.countlater.proofs.controls_of_tree.Goals as goal

pub returns-in_err-top : goal.returns-in_err-top
returns-in_err-top c = c.from_residual.ensures ∙ tree_bad _ _ c.in_err-top.ensures

pub returns-in_err-all : goal.returns-in_err-all
returns-in_err-all c = c.from_residual-in_err-all.ensures ∙ tree_none _ _ c.in_ok-top.ensures c.in_err-all.ensures

pub returns-then-all-s : goal.returns-then-all-s
returns-then-all-s c = tree_whole _ _ c.in_ok-top.ensures c.in_ok-all.ensures c.if-all-s.true

pub returns-else-all-s : goal.returns-else-all-s
returns-else-all-s c = tree_over _ _ c.in_ok-top.ensures c.in_ok-all.ensures c.if-all-s.false
