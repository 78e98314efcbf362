use Rattle.std.proofs.Common.{◌+◌}
use Rattle.countlater.proofs.NodeLaws.{Summed}
use Rattle.countlater.proofs.+parse_node_parse_nodes.Given as goal

abbrev pub decreases-parse_node : goal.decreases-parse_node
decreases-parse_node l = l.left + l.left + 1

abbrev pub decreases-parse_nodes : goal.decreases-parse_nodes
decreases-parse_nodes l = l.left + l.left

abbrev pub invariant-parse_nodes-loop : goal.invariant-parse_nodes-loop
invariant-parse_nodes-loop l = Summed l.left l.s l.n l.at l.counter l.all
