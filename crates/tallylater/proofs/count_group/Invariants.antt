use Rattle.std.proofs.Common.{◌-◌}
use Rattle.tallylater.proofs.GroupLaws.{Counting}
use Rattle.tallylater.proofs.count_group.Given as goal

abbrev pub invariant-loop-next : goal.invariant-loop-next
invariant-loop-next l = Counting l.s l.limit l.at l.fn.words l.group l.words

abbrev pub decreases-loop-next : goal.decreases-loop-next
decreases-loop-next l = l.limit - l.group.stop
