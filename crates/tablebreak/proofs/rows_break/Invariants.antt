use Rattle.std.proofs.Common.{◌≡◌, ◌+◌, ◌-◌, ◌*◌, ◌<◌, ◌^◌, List, ℕ}
use Rattle.tablebreak.specs.Rules.{rows_break}
use Rattle.tablebreak.proofs.rows_break.Given as goal

-- the rows of the scopes that are left decide
pub record Left (t : List ℕ) (start bodies n at body left number : ℕ) : Type 0 where
  pub decide : rows_break t start bodies 1 n ≡ rows_break t at body number left
  pub near : at + 5 * left + 2 < 2 ^ 32
  pub body_near : body + 262144 * left + 4 < 2 ^ 32

abbrev pub invariant-loop-i : goal.invariant-loop-i
invariant-loop-i l = Left l.table l.start l.bodies l.n (l.start + 5 * l.i) l.body (l.n - l.i) (l.i + 1)
