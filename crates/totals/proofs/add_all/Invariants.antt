use Rattle.totals.proofs.SumLaws.{Adding}
use Rattle.totals.proofs.add_all.Given as goal

abbrev pub invariant-loop-i : goal.invariant-loop-i
invariant-loop-i l = Adding l.fn.into l.more l.into l.i
