use Rattle.std.proofs.Common.{◌≡◌, ◌≤◌}
use Rattle.rules.specs.Lists.{ascends}
use Rattle.rules.specs.CodeTable.{codes_at}
use Rattle.codetable.proofs.Steps.{codes_from}
use Rattle.codetable.proofs.codes_ascend.Given as goal

-- the codes that are left decide, and the code stays small
abbrev pub invariant-loop-i : goal.invariant-loop-i
invariant-loop-i l = record {
  decide : ascends 0 (codes_at l.table l.start l.n) ≡ ascends l.least (codes_from l.table l.start l.n l.i);
  code_small : l.least ≤ 65536;
}
