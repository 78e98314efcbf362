use Rattle.std.proofs.Common.{◌∙◌, ap}
use Rattle.rules.specs.Tree.{is_section}
use Rattle.countlater.proofs.NodeLaws.{shown_type, shown_none, shown_leaf, shown_filled}
use Rattle.countlater.proofs.top_node_at.Goals as goal

pub returns-then-is_section : goal.returns-then-is_section
returns-then-is_section c = shown_type _ _ _ (c.if-is_section.ensures ∙ ap is_section c.u16_at.ensures)

pub returns-in_err-head : goal.returns-in_err-head
returns-in_err-head c = c.from_residual.ensures ∙ shown_none _ _ _ c.in_err-head.ensures

pub returns-then-head-eq0 : goal.returns-then-head-eq0
returns-then-head-eq0 c = shown_leaf _ _ _ c.in_ok-head.ensures c.if-head-eq0.true (c.if-is_section.ensures ∙ ap is_section c.u16_at.ensures)

pub returns-else-head-eq0 : goal.returns-else-head-eq0
returns-else-head-eq0 c = shown_filled _ _ _ c.in_ok-head.ensures c.if-head-eq0.false
