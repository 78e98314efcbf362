use Rattle.std.proofs.Common.{length, ◌-◌}
use Rattle.tallylater.proofs.GroupLaws.{Scanning}
use Rattle.tallylater.proofs.count_scanned.Given as goal

abbrev pub invariant-loop-a : goal.invariant-loop-a
invariant-loop-a l = Scanning l.s l.from l.fn.words l.a l.words

abbrev pub decreases-loop-a : goal.decreases-loop-a
decreases-loop-a l = length l.s - l.a
