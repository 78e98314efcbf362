use Rattle.std.proofs.Common.{take}
use Rattle.text.specs.Writer.{Wrote}
use Rattle.text.proofs.put_each.Given as goal

abbrev pub invariant-loop-b : goal.invariant-loop-b
invariant-loop-b l = Wrote l.initial.out l.at (take l.b-index l.s) l.out l.o
