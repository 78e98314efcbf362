use lib.ListN.{length}
use Prim.Native.Nat.{◌-◌}
use Rattle.rewrite.proofs.Walks.{Writing}
use Rattle.rewrite.proofs.put_pieces.Given as goal

abbrev pub invariant-loop-p : goal.invariant-loop-p
invariant-loop-p l = Writing l.s l.fn.out l.at l.out l.o l.p

abbrev pub decreases-loop-p : goal.decreases-loop-p
decreases-loop-p l = length l.s - l.p
