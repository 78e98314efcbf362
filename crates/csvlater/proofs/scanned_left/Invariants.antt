use Rattle.std.proofs.Common.{length, ◌-◌}
use Rattle.csvlater.proofs.GroupRoom.{Scanning}
use Rattle.csvlater.proofs.scanned_left.Given as goal

abbrev pub invariant-loop-a : goal.invariant-loop-a
invariant-loop-a l = Scanning l.s l.from l.all l.a l.i l.left

abbrev pub decreases-loop-a : goal.decreases-loop-a
decreases-loop-a l = length l.s - l.a
