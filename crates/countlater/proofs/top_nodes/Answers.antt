use Rattle.std.proofs.Common.{arith, ◌∙◌}
use Rattle.countlater.proofs.NodeLaws.{node_fits, chosen_all, chosen_skipped, chosen_bad, chosen_more}
use Rattle.countlater.proofs.top_nodes.Goals as goal
use Rattle.countlater.proofs.top_nodes.Goals.{in-Some, in_default+in_ok-node}

pub returns-in_err-node : goal.returns-in_err-node
returns-in_err-node c = c.from_residual.ensures ∙ chosen_bad c.loop.invariant c.loop-test.true c.in_default.ensures c.in_err-node.ensures

pub overflow_add-all : goal.overflow_add-all
overflow_add-all c = omega (arith, c.loop.invariant.few, node_fits _ _ _ c.in_ok-node.ensures)

pub overflow_add-all-in_default : goal.overflow_add-all-in_default
overflow_add-all-in_default c = omega (arith, c.loop.invariant.few, node_fits _ _ _ c.in_ok-node.ensures)

pub loop-preserved : goal.loop-preserved
loop-preserved c =
    elim c.match-top_node_at.branch [
      | in-Some w ↦ rw w.all-is (chosen_skipped c.loop.invariant c.loop-test.true w.in-Some.ensures)
      | in_default+in_ok-node w ↦ rw w.all-is (chosen_more c.loop.invariant c.loop-test.true w.in_default.ensures w.in_ok-node.ensures)
    ]

pub returns : goal.returns
returns c = chosen_all c.loop.invariant c.loop-test.false
