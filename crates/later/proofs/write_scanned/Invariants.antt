use Rattle.std.proofs.Common.{length, ◌-◌}
use Rattle.rows.specs.Writing.{state}
use Rattle.later.proofs.WriteNodeLaws.{Sweeping}
use Rattle.later.proofs.write_scanned.Given as goal

abbrev pub invariant-loop-a : goal.invariant-loop-a
invariant-loop-a l = Sweeping l.s l.from (state l.fn.controls 0 l.fn.properties l.property) l.a (state l.controls l.i l.properties l.j)

abbrev pub decreases-loop-a : goal.decreases-loop-a
decreases-loop-a l = length l.s - l.a
