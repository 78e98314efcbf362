use Rattle.std.proofs.Common.{length, ◌-◌}
use Rattle.csv2000.proofs.RunRoom.{Taking}
use Rattle.csv2000.proofs.run_left.Given as goal

abbrev pub invariant-loop-q : goal.invariant-loop-q
invariant-loop-q l = Taking l.table l.body l.s l.at l.owner l.all l.p l.left

abbrev pub decreases-loop-q : goal.decreases-loop-q
decreases-loop-q l = length l.s - l.p
