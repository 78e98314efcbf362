use Rattle.std.proofs.Common.{◌≡◌}
use Rattle.rules.specs.CodeTable.{ties_at, ties_ok}
use Rattle.codetable.specs.Reads.{ties_from}
use Rattle.codetable.proofs.Steps.{ties_left}
use Rattle.codetable.proofs.ties_ok.Given as goal

-- the rows that are left decide
abbrev pub invariant-loop-i : goal.invariant-loop-i
invariant-loop-i l = ties_ok (ties_at l.table l.start l.n) ≡ ties_from l.least (ties_left l.table l.start l.n l.i)
