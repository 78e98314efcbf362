use Rattle.std.proofs.Common.{◌+◌}
use Rattle.join.proofs.RowLaws.{CountedTo}
use Rattle.join.proofs.count_rows.Given as goal

abbrev pub invariant-loop-a : goal.invariant-loop-a
invariant-loop-a l = CountedTo l.one l.initial.a l.other l.initial.b l.a l.b l.rows

abbrev pub decreases-loop-a : goal.decreases-loop-a
decreases-loop-a l = l.a.left + l.b.left
