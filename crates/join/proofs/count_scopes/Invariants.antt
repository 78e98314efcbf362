use Rattle.std.proofs.Common.{◌+◌}
use Rattle.join.proofs.ScopeLaws.{SizedTo}
use Rattle.join.proofs.count_scopes.Given as goal

abbrev pub invariant-loop-a : goal.invariant-loop-a
invariant-loop-a l = SizedTo l.one l.other l.a l.b l.scopes l.rows

abbrev pub decreases-loop-a : goal.decreases-loop-a
decreases-loop-a l = l.a.left + l.b.left
