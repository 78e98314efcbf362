use Rattle.std.proofs.Common.{length, ◌-◌}
use Rattle.countlater.proofs.ScanLaws.{Scanning}
use Rattle.countlater.proofs.scan_control_sections.Given as goal

abbrev pub invariant-loop-a : goal.invariant-loop-a
invariant-loop-a l = Scanning l.s l.from l.a l.all l.theirs

abbrev pub decreases-loop-a : goal.decreases-loop-a
decreases-loop-a l = length l.s - l.a
