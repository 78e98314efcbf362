use Rattle.std.proofs.Common.{◌-◌}
use Rattle.csvlater.proofs.GroupRoom.{Taking}
use Rattle.csvlater.proofs.group_left.Given as goal

abbrev pub invariant-loop-next : goal.invariant-loop-next
invariant-loop-next l = Taking l.s l.limit l.at l.owner l.all l.group l.left

abbrev pub decreases-loop-next : goal.decreases-loop-next
decreases-loop-next l = l.limit - l.group.stop
