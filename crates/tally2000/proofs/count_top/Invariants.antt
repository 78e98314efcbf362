use Rattle.std.proofs.Common.{◌≡◌}
use Rattle.cursor.proofs.LeftLaws.{left, how_many}
use Rattle.cursor2000.specs.Steps.{step_at}
use Rattle.tally2000.proofs.RunLaws.{Going}
use Rattle.tally2000.proofs.count_top.Given as goal

-- what is left of the entries, in the table that was lent
abbrev pub invariant-loop-c : goal.invariant-loop-c
invariant-loop-c l = record {
  going : Going l.initial.scopes.table.now l.s l.n l.at l.initial.words l.stack l.c l.i l.words;
  same : l.scopes.table.now ≡ l.initial.scopes.table.now;
}

abbrev pub decreases-loop-c : goal.decreases-loop-c
decreases-loop-c l = how_many (left (step_at l.s) l.i l.stack l.c)
