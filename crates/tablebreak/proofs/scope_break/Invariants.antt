use Rattle.std.proofs.Common.{◌≡◌, ◌+◌, ◌-◌, ◌*◌, ◌<◌, ◌≤◌, ◌^◌, List, ℕ}
use Rattle.tablebreak.specs.Rules.{scope_break}
use Rattle.tablebreak.proofs.scope_break.Given as goal

-- the scopes that are left decide
pub record Left (t : List ℕ) (start n at left number least : ℕ) : Type 0 where
  pub decide : scope_break t start 0 1 n ≡ scope_break t at least number left
  pub near : at + 5 * left + 2 < 2 ^ 32
  pub low : least ≤ 16777216

abbrev pub invariant-loop-i : goal.invariant-loop-i
invariant-loop-i l = Left l.table l.start l.n (l.start + 5 * l.i) (l.n - l.i) (l.i + 1) l.least
