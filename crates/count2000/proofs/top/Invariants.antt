use Rattle.count2000.proofs.Lists.{Topping}
use Rattle.count2000.proofs.top.Given as goal

abbrev pub invariant-loop : goal.invariant-loop
invariant-loop l = Topping l.s l.n l.at l.counter l.all
