use Rattle.cursor2000.specs.Steps.{step_at}
use Rattle.rules.specs.Tree.{is_reported}
use Rattle.cursor.proofs.CursorLaws.{Skipping}
use Rattle.cursor2000.proofs.reported.Given as goal

abbrev pub invariant-loop-left : goal.invariant-loop-left
invariant-loop-left l = Skipping (step_at l.s) is_reported l.c l.here l.left
