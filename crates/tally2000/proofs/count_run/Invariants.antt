use Rattle.std.proofs.Common.{length, ◌-◌}
use Rattle.tally2000.proofs.RunLaws.{Counting}
use Rattle.tally2000.proofs.count_run.Given as goal

abbrev pub invariant-loop-q : goal.invariant-loop-q
invariant-loop-q l = Counting l.table l.body l.s l.at l.initial.words l.p l.words

abbrev pub decreases-loop-q : goal.decreases-loop-q
decreases-loop-q l = length l.s - l.p
