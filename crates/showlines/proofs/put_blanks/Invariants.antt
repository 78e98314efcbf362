use Rattle.std.proofs.Common.{◌-◌}
use Rattle.text.proofs.Remains.{Remains}
use Rattle.showlines.specs.Lines.{blanks}
use Rattle.showlines.proofs.put_blanks.Given as goal

abbrev pub invariant-loop : goal.invariant-loop
invariant-loop l = Remains l.fn.out l.at (blanks l.depth) l.out l.p (blanks (l.depth - l.counter))
