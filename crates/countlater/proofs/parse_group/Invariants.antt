use Rattle.std.proofs.Common.{◌-◌}
use Rattle.countlater.proofs.PassedLaws.{Passed}
use Rattle.countlater.proofs.parse_group.Given as goal

abbrev pub invariant-loop-property : goal.invariant-loop-property
invariant-loop-property l = Passed l.s l.limit l.at l.count l.p

abbrev pub decreases-loop-property : goal.decreases-loop-property
decreases-loop-property l = l.limit - l.p
