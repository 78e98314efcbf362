use Rattle.std.proofs.Common.{◌≡◌, ◌+◌, ◌-◌, ◌*◌, ◌<◌, ◌≤◌, ◌^◌, List, ℕ}
use Rattle.tablebreak.specs.Rules.{row_break}
use Rattle.tablebreak.proofs.row_break.Given as goal

-- the rows that are left decide
pub record Left (t : List ℕ) (start n scope kind code at left number least : ℕ) : Type 0 where
  pub decide : row_break t start 0 scope kind code 1 n ≡ row_break t at least scope kind code number left
  pub near : at + 4 * left + 4 < 2 ^ 32
  pub low : least ≤ 256

abbrev pub invariant-loop-i : goal.invariant-loop-i
invariant-loop-i l = Left l.table l.start l.n l.scope l.kind l.code (l.start + 4 * l.i) (l.n - l.i) (l.i + 1) l.least
