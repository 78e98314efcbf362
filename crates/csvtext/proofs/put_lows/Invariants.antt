use Rattle.std.proofs.Common.{length}
use Rattle.text.proofs.Remains.{Remains}
use Rattle.csvtext.specs.Units.{lows}
use Rattle.csvtext.proofs.put_lows.Given as goal

abbrev pub invariant-loop-four : goal.invariant-loop-four
invariant-loop-four l = Remains l.initial.out l.at (lows l.bytes) l.out l.p (lows l.rest)

abbrev pub decreases-loop-four : goal.decreases-loop-four
decreases-loop-four l = length l.rest
