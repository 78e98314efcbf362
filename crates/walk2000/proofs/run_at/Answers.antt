use Rattle.std.proofs.Common.{arith}
use Rattle.walk2000.proofs.Runs.{passed_more, starts}
use Rattle.walk2000.proofs.run_at.Goals as goal

pub loop-next-preserved : goal.loop-next-preserved
loop-next-preserved c = passed_more c.loop-next.invariant (starts _ _ (omega arith) (omega arith)) c.value.ensures c.in_ok-v.was
