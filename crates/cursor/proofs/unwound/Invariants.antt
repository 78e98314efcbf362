use Rattle.cursor.proofs.StackLaws.{Closing}
use Rattle.cursor.proofs.unwound.Given as goal

abbrev pub invariant-loop-level : goal.invariant-loop-level
invariant-loop-level l = Closing l.stack l.c l.inner l.level
