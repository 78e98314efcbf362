use Rattle.std.proofs.Common.{◌+◌, ◌-◌, ◌*◌}
use Rattle.join.proofs.HeadLaws.{ComparedTo}
use Rattle.join.proofs.same_codes.Given as goal

abbrev pub invariant-loop-i : goal.invariant-loop-i
invariant-loop-i l = ComparedTo l.one l.other l.n (4 + 2 * l.i) (l.n - l.i)
