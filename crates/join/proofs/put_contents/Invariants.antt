use Rattle.std.proofs.Common.{◌+◌}
use Rattle.join.proofs.ScopeLaws.{ContentsTo}
use Rattle.join.proofs.put_contents.Given as goal

abbrev pub invariant-loop-a : goal.invariant-loop-a
invariant-loop-a l = ContentsTo l.one l.a l.other l.b l.initial.out l.at l.out l.o

abbrev pub decreases-loop-a : goal.decreases-loop-a
decreases-loop-a l = l.a.left + l.b.left
