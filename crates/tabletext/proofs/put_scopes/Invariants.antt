use Rattle.std.proofs.Common.{ℕ, List, ◌+◌, ◌-◌, ◌*◌, ◌^◌, ◌<◌}
use Rattle.text.proofs.Remains.{Remains}
use Rattle.rules.specs.CodeTable.{scopes_at}
use Rattle.tabletext.specs.Text.{scope_lines}
use Rattle.tabletext.proofs.put_scopes.Given as goal

pub record Left (old : List ℕ) (at : ℕ) (table : List ℕ) (start bodies n : ℕ) (now : List ℕ) (p place body left : ℕ) : Type 0 where
  pub rest : Remains old at (scope_lines (scopes_at table start bodies n)) now p (scope_lines (scopes_at table place body left))
  pub body_near : body + 262144 * left < 2 ^ 58

abbrev pub invariant-loop-i : goal.invariant-loop-i
invariant-loop-i l = Left l.initial.out l.at l.table l.start l.bodies l.n l.out l.p (l.start + 5 * l.i) l.body (l.n - l.i)
