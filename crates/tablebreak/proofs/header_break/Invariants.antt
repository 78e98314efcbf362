use Rattle.std.proofs.Common.{◌≡◌, ◌+◌, ◌-◌, ◌*◌, ◌<◌, ◌≤◌, ◌^◌, List, ℕ}
use Rattle.tablebreak.specs.Rules.{header_break}
use Rattle.tablebreak.proofs.header_break.Given as goal

-- the header codes that are left decide
pub record Left (t : List ℕ) (n at left least : ℕ) : Type 0 where
  pub decide : header_break t 4 0 n ≡ header_break t at least left
  pub near : at + 2 * left < 2 ^ 32
  pub low : least ≤ 65536

abbrev pub invariant-loop-i : goal.invariant-loop-i
invariant-loop-i l = Left l.table l.n (4 + 2 * l.i) (l.n - l.i) l.least
