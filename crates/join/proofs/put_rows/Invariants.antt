use Rattle.std.proofs.Common.{◌+◌}
use Rattle.rules.specs.Join.{join_rows, tie_bytes, ties_bytes}
use Rattle.join.specs.Walk.{rows_in_lem, RowsWalk}
use Rattle.join.proofs.Writing.{Writing}
use Rattle.join.proofs.put_rows.Given as goal

abbrev pub invariant-loop-a : goal.invariant-loop-a
invariant-loop-a l =
    Writing RowsWalk tie_bytes l.one l.a l.other l.b l.initial.out l.at (ties_bytes (join_rows (rows_in_lem l.one l.initial.a) (rows_in_lem l.other l.initial.b))) l.out l.o
    (join_rows (rows_in_lem l.one l.a) (rows_in_lem l.other l.b))

abbrev pub decreases-loop-a : goal.decreases-loop-a
decreases-loop-a l = l.a.left + l.b.left
