use Rattle.std.proofs.Common.{◌+◌, ◌≤◌}
use Rattle.coderows.specs.Look.{key_at}
use Rattle.coderows.proofs.Halves.{Narrowed}
use Rattle.coderows.proofs.seek_scope.Given as goal

-- what is looked up is among those that are left
abbrev pub invariant-loop-scopes : goal.invariant-loop-scopes
invariant-loop-scopes l = record {
  narrowed : Narrowed (λ i. i) (key_at l.table l.contents) 1 0 l.n l.wanted l.first l.scopes;
  inside : l.first + l.scopes ≤ l.n;
}

abbrev pub decreases-loop-scopes : goal.decreases-loop-scopes
decreases-loop-scopes l = l.scopes
