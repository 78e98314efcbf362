use Rattle.rules.specs.Tree.{is_reported}
use Rattle.cursor.proofs.CursorLaws.{Passing}
use Rattle.cursorlater.specs.Steps.{step_at}
use Rattle.cursorlater.proofs.reported.Given as goal

abbrev pub invariant-loop-left : goal.invariant-loop-left
invariant-loop-left l = Passing (step_at l.s) is_reported l.c l.at l.left
