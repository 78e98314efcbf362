use Rattle.std.proofs.Common.{◌+◌, ◌*◌, ◌^◌, ◌≤◌, ◌<◌}
use Rattle.rules.specs.CodeTable.{id_of, tie_at}
use Rattle.coderows.proofs.Halves.{Narrowed}
use Rattle.coderows.proofs.seek_row.Given as goal

-- what is looked up is among those that are left
abbrev pub invariant-loop-rows : goal.invariant-loop-rows
invariant-loop-rows l = record {
  narrowed : Narrowed (tie_at l.table) id_of 4 l.start l.n l.wanted l.at l.rows;
  at_small : l.at + 4 * l.rows < 2 ^ 60;
  from_start : l.start ≤ l.at;
}

abbrev pub decreases-loop-rows : goal.decreases-loop-rows
decreases-loop-rows l = l.rows
