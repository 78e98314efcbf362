use Rattle.coderows.proofs.ScopeList.{Filled}
use Rattle.coderows.proofs.list_scopes.Given as goal

-- the first i scopes are written down
abbrev pub invariant-loop-i : goal.invariant-loop-i
invariant-loop-i l = Filled l.table l.scopes l.contents l.initial.body l.body l.i
