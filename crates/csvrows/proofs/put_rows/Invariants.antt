use Rattle.std.proofs.Common.{◌++◌, ◌-◌}
use Rattle.csvrecord.specs.Parts.{tail_text}
use Rattle.csvrows.proofs.Turns.{RowsLeft}
use Rattle.csvrows.proofs.put_rows.Given as goal

abbrev pub invariant-loop-i : goal.invariant-loop-i
invariant-loop-i l = RowsLeft (λ row. l.owner ++ tail_text l.stream row) l.rows l.fn.run.first l.fn.run.count l.initial.out l.at l.out l.p l.i (l.end - l.i)
