use Rattle.std.proofs.Common.{take}
use Rattle.text.specs.Writer.{Wrote}
use Rattle.totalling.specs.Counted.{number_bytes}
use Rattle.totalling.proofs.put_numbers.Given as goal

abbrev pub invariant-loop-n : goal.invariant-loop-n
invariant-loop-n l = Wrote l.fn.out l.at (number_bytes (take l.n-index l.numbers)) l.out l.p
