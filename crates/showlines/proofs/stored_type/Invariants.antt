use Rattle.std.proofs.Common.{◌≡◌, ◌+◌, ◌*◌, ◌-◌}
use Rattle.rules.specs.CodeTable.{header}
use Rattle.showlines.specs.Lines.{stored_type}
use Rattle.showlines.proofs.LineLaws.{stored_from}
use Rattle.showlines.proofs.stored_type.Given as goal

-- the codes that are left decide
abbrev pub invariant-loop-k : goal.invariant-loop-k
invariant-loop-k l = stored_from l.table l.mark l.type_code (4 + 2 * l.k) (l.count - l.k) ≡ stored_type (header l.table) l.mark l.type_code
