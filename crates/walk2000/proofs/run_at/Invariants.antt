use lib.ListN.{length}
use Prim.Native.Nat.{◌-◌}
use Rattle.walk2000.proofs.Runs.{Passed}
use Rattle.walk2000.proofs.run_at.Given as goal

abbrev pub invariant-loop-next : goal.invariant-loop-next
invariant-loop-next l = Passed l.s l.at l.count l.next

abbrev pub decreases-loop-next : goal.decreases-loop-next
decreases-loop-next l = length l.s - l.next
