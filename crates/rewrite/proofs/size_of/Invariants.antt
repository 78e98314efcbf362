use lib.ListN.{length}
use Prim.Native.Nat.{◌-◌}
use Rattle.rewrite.proofs.Walks.{Counting}
use Rattle.rewrite.proofs.size_of.Given as goal

abbrev pub invariant-loop-p : goal.invariant-loop-p
invariant-loop-p l = Counting l.s l.n l.p

abbrev pub decreases-loop-p : goal.decreases-loop-p
decreases-loop-p l = length l.s - l.p
