use Rattle.std.proofs.Common.{◌≡◌, ◌+◌, ◌-◌, ◌*◌, ◌<◌, ◌^◌, List, ℕ}
use Rattle.rules.specs.CodeTable.{scopes_at, row_count_lem}
use Rattle.tablebreak.proofs.bodies_end.Given as goal

-- the rows of the scopes that are left follow
pub record Left (t : List ℕ) (start bodies n at end left : ℕ) : Type 0 where
  pub total : bodies + 4 * row_count_lem (scopes_at t start bodies n) ≡ end + 4 * row_count_lem (scopes_at t at end left)
  pub near : at + 5 * left < 2 ^ 32
  pub end-near : end + 262144 * left < 2 ^ 32

abbrev pub invariant-loop-i : goal.invariant-loop-i
invariant-loop-i l = Left l.table l.start l.bodies l.n (l.start + 5 * l.i) l.end (l.n - l.i)
