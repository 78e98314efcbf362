use Rattle.cursor.proofs.RowLaws.{left, how_many}
use Rattle.cursorlater.specs.Steps.{step_at}
use Rattle.tallylater.proofs.GroupLaws.{Going}
use Rattle.tallylater.proofs.count_sections.Given as goal

abbrev pub invariant-loop-c : goal.invariant-loop-c
invariant-loop-c l = Going l.s l.n l.at l.fn.words l.stack l.c l.i l.words

abbrev pub decreases-loop-c : goal.decreases-loop-c
decreases-loop-c l = how_many (left (step_at l.s) l.i l.stack l.c)
