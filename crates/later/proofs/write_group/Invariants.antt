use Rattle.std.proofs.Common.{◌-◌}
use Rattle.later.proofs.Visits.{Writing}
use Rattle.later.proofs.write_group.Given as goal

abbrev pub invariant-loop-next : goal.invariant-loop-next
invariant-loop-next l = Writing l.s l.limit l.at l.fn.rows l.first l.rows l.group.count l.group.stop l.group.trailer

abbrev pub decreases-loop-next : goal.decreases-loop-next
decreases-loop-next l = l.limit - l.group.stop
