use Rattle.std.proofs.Common.{◌<◌, ℕ, false, get_or}
use Rattle.tablelines.proofs.cut.Given as goal

-- none of those in front passes the test
abbrev pub invariant-loop-at : goal.invariant-loop-at
invariant-loop-at g l = (k : ℕ) → k < l.at → goal.F-post g l.stops (get_or l.s k 0) false
