use Rattle.std.proofs.Common.{◌-◌}
use Rattle.showlines.proofs.Steps.{MarkedLeft}
use Rattle.showlines.proofs.marked.Given as goal

abbrev pub invariant-loop-i : goal.invariant-loop-i
invariant-loop-i l = MarkedLeft l.rows l.count l.found l.i (l.count - l.i)
