use Rattle.countlater.proofs.NodeLaws.{Chosen}
use Rattle.countlater.proofs.top_nodes.Given as goal

abbrev pub invariant-loop : goal.invariant-loop
invariant-loop l = Chosen l.s l.n l.at l.counter l.all
