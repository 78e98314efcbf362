use Rattle.cursor.proofs.RowLaws.{left, how_many}
use Rattle.cursor2000.specs.Steps.{step_at}
use Rattle.form2000.proofs.Walking.{Going}
use Rattle.form2000.proofs.put_top.Given as goal

abbrev pub invariant-loop-c : goal.invariant-loop-c
invariant-loop-c l = Going l.table l.scopes l.s l.n l.fn.controls l.fn.rows l.fn.start l.stack l.c l.controls l.rows l.next

abbrev pub decreases-loop-c : goal.decreases-loop-c
decreases-loop-c l = how_many (left (step_at l.s) l.next.control l.stack l.c)
