use Rattle.matchlater.specs.Match.{Leapt}
use Rattle.matchlater.proofs.match_before.Given as goal

abbrev pub invariant-loop-p : goal.invariant-loop-p
invariant-loop-p l = Leapt l.s l.from l.stop l.p
