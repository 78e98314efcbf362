use Rattle.std.proofs.Common.{◌∙◌, arith}
use Rattle.rules.proofs.Access2000Laws.{past_end}
use Rattle.walk2000.proofs.Runs.{starts, stops}
use Rattle.shown2000.proofs.NextLaws.{next_none, next_some, next_bad}
use Rattle.shown2000.proofs.stored_at.Goals as goal
use Rattle.shown2000.proofs.stored_at.Goals.{else-at-s-via-then-at-s+else-s-at-le-LAST_ID, else-at-s-via-else-at-s}

pub returns-then-s-at-le-LAST_ID : goal.returns-then-s-at-le-LAST_ID
returns-then-s-at-le-LAST_ID c = next_some _ _ _ _ (starts _ _ (omega arith) (omega arith)) c.value.ensures c.in_ok-v.was

pub returns-in_err-v : goal.returns-in_err-v
returns-in_err-v c = c.from_residual.ensures ∙ next_bad _ _ _ (starts _ _ (omega arith) (omega arith)) c.value.ensures c.in_err-v.was

pub returns : goal.returns
returns c = elim c.else-at-s.branch [
  | else-at-s-via-then-at-s+else-s-at-le-LAST_ID w ↦ next_none _ _ (stops _ _ (omega arith) (omega arith))
  | else-at-s-via-else-at-s w ↦ next_none _ _ (past_end _ _ (omega arith))
]
