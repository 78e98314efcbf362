use Rattle.std.proofs.Common.{arith, ◌∙◌}
use Rattle.countlater.proofs.NodeLaws.{counted_none, counted_bad, counted_of, node_fits, node_room, summed_all, summed_deep, summed_bad, summed_more}
use Rattle.countlater.proofs.+parse_node_parse_nodes.Goals as goal

pub parse_node-returns-in_err-head : goal.parse_node-returns-in_err-head
parse_node-returns-in_err-head t c = c.from_residual.ensures ∙ counted_none _ _ _ c.in_err-head.ensures

pub parse_node-returns-in_err-below : goal.parse_node-returns-in_err-below
parse_node-returns-in_err-below t c = c.from_residual-in_err-below.ensures ∙ counted_bad _ _ _ c.in_ok-head.ensures c.in_err-below.ensures

pub parse_node-overflow_add-result : goal.parse_node-overflow_add-result
parse_node-overflow_add-result t c = omega (arith, node_room _ _ _ c.in_ok-head.ensures c.in_ok-below.ensures)

pub parse_node-overflow_add-result-2 : goal.parse_node-overflow_add-result-2
parse_node-overflow_add-result-2 t c = omega (arith, node_room _ _ _ c.in_ok-head.ensures c.in_ok-below.ensures)

pub parse_node-returns : goal.parse_node-returns
parse_node-returns t c = counted_of _ _ _ c.in_ok-head.ensures c.in_ok-below.ensures

pub parse_nodes-returns-then-left-eq0 : goal.parse_nodes-returns-then-left-eq0
parse_nodes-returns-then-left-eq0 t c = summed_deep c.loop.invariant c.loop-test.true c.if-left-eq0.true

pub parse_nodes-returns-in_err-node : goal.parse_nodes-returns-in_err-node
parse_nodes-returns-in_err-node t c = c.from_residual.ensures ∙ summed_bad c.loop.invariant c.loop-test.true c.if-left-eq0.false c.in_err-node.ensures

pub parse_nodes-overflow_add-all : goal.parse_nodes-overflow_add-all
parse_nodes-overflow_add-all t c = omega (arith, c.loop.invariant.few, node_fits _ _ _ c.in_ok-node.ensures)

pub parse_nodes-overflow_add-all-in-loop : goal.parse_nodes-overflow_add-all-in-loop
parse_nodes-overflow_add-all-in-loop t c = omega (arith, c.loop.invariant.few, node_fits _ _ _ c.in_ok-node.ensures)

pub parse_nodes-loop-preserved : goal.parse_nodes-loop-preserved
parse_nodes-loop-preserved t c = summed_more c.loop.invariant c.loop-test.true c.if-left-eq0.false c.in_ok-node.ensures

pub parse_nodes-returns : goal.parse_nodes-returns
parse_nodes-returns t c = summed_all c.loop.invariant c.loop-test.false
