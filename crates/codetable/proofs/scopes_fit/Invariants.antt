use Rattle.std.proofs.Common.{◌≡◌, ◌+◌, ◌*◌, ◌≤◌, ◌^◌}
use Rattle.rules.specs.CodeTable.{scopes_fit}
use Rattle.codetable.proofs.Steps.{scopes_left}
use Rattle.codetable.proofs.scopes_fit.Given as goal

-- the scopes that are left decide, and the place of the bodies and the key stay small
abbrev pub invariant-loop-i : goal.invariant-loop-i
invariant-loop-i l = record {
  decide : scopes_fit l.table l.start l.bodies l.n ≡ scopes_left l.table l.start l.n l.i l.least l.body;
  body_small : l.body ≤ l.bodies + 262144 * l.i;
  key_small : l.least ≤ 2 ^ 24;
}
