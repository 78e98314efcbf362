use Rattle.std.proofs.Common.{◌+◌, ◌-◌, ◌*◌}
use Rattle.rules.specs.CodeTable.{ties_at}
use Rattle.succession.proofs.Rows.{RowsTo}
use Rattle.succession.proofs.rows_other.Given as goal

abbrev pub invariant-loop-i : goal.invariant-loop-i
invariant-loop-i l = RowsTo l.missing l.kind l.code (ties_at l.other l.from l.rows) l.one l.start l.n (l.start + 4 * l.i) (l.n - l.i)
