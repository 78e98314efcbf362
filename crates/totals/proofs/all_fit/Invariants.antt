use Rattle.std.proofs.Common.{◌≡◌, drop}
use Rattle.rules.specs.Lists.{all}
use Rattle.rules.specs.Totals.{holds, sums}
use Rattle.totals.proofs.all_fit.Given as goal

abbrev pub invariant-loop-i : goal.invariant-loop-i
invariant-loop-i l = all holds (sums l.old l.more) ≡ all holds (sums (drop l.i l.old) (drop l.i l.more))
