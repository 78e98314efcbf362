use Rattle.std.proofs.Common.{length, ◌-◌}
use Rattle.matchlater.specs.Match.{Leapt}
use Rattle.matchlater.proofs.past_blocks.Given as goal

abbrev pub invariant-loop-p : goal.invariant-loop-p
invariant-loop-p l = Leapt l.s l.from (length l.s) l.p

abbrev pub decreases-loop-p : goal.decreases-loop-p
decreases-loop-p l = length l.s - l.p
