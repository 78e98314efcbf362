use Rattle.cursor.proofs.RowLaws as rows
use Rattle.cursor.proofs.RowLaws.{how_many}
use Rattle.cursorlater.specs.Steps.{step_at}
use Rattle.csvlater.proofs.GroupRoom.{Going}
use Rattle.csvlater.proofs.sections_left.Given as goal

abbrev pub invariant-loop-c : goal.invariant-loop-c
invariant-loop-c l = Going l.s l.n l.at l.all l.stack l.c l.i l.left

abbrev pub decreases-loop-c : goal.decreases-loop-c
decreases-loop-c l = how_many (rows.left (step_at l.s) l.i l.stack l.c)
