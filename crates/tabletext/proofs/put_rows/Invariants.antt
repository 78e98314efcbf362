use Rattle.std.proofs.Common.{◌+◌, ◌-◌, ◌*◌, ◌^◌}
use Rattle.text.proofs.Remains.{Left}
use Rattle.rules.specs.CodeTable.{ties_at}
use Rattle.tabletext.specs.Text.{row_lines}
use Rattle.tabletext.proofs.put_rows.Given as goal

abbrev pub invariant-loop-i : goal.invariant-loop-i
invariant-loop-i l = Left (λ q k. row_lines (ties_at l.table q k)) 4 (2 ^ 59) l.start l.n l.initial.out l.at l.out l.p (l.start + 4 * l.i) (l.n - l.i)
