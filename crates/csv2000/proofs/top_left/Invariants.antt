use Rattle.std.proofs.Common.{◌≡◌}
use Rattle.cursor.proofs.LeftLaws as laws
use Rattle.cursor2000.specs.Steps.{step_at}
use Rattle.csv2000.proofs.RunRoom.{Going}
use Rattle.csv2000.proofs.top_left.Given as goal

-- what is left of the entries, in the table that was lent
abbrev pub invariant-loop-c : goal.invariant-loop-c
invariant-loop-c l = record {
  going : Going l.initial.scopes.table.now l.s l.n l.at l.all l.stack l.c l.i l.left;
  same : l.scopes.table.now ≡ l.initial.scopes.table.now;
}

abbrev pub decreases-loop-c : goal.decreases-loop-c
decreases-loop-c l = laws.how_many (laws.left (step_at l.s) l.i l.stack l.c)
