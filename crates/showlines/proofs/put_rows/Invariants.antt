use Rattle.std.proofs.Common.{◌+◌, ◌-◌}
use Rattle.csvrows.proofs.Turns.{RowsLeft}
use Rattle.showlines.specs.Lines.{property_line}
use Rattle.showlines.proofs.put_rows.Given as goal

abbrev pub invariant-loop-i : goal.invariant-loop-i
invariant-loop-i l =
    RowsLeft (property_line l.stream l.fn.owner) l.rows l.fn.first l.fn.count l.fn.out l.fn.at l.out l.p l.i (l.fn.first + l.fn.count - l.i)
