use Rattle.std.proofs.Common.{◌+◌, ◌-◌, ◌*◌, ◌^◌}
use Rattle.text.proofs.Remains.{Left}
use Rattle.rules.specs.CodeTable.{codes_at}
use Rattle.tabletext.specs.Text.{header_lines}
use Rattle.tabletext.proofs.put_headers.Given as goal

abbrev pub invariant-loop-i : goal.invariant-loop-i
invariant-loop-i l = Left (λ q k. header_lines (codes_at l.table q k)) 2 (2 ^ 32) l.start l.n l.initial.out l.at l.out l.p (l.start + 2 * l.i) (l.n - l.i)
