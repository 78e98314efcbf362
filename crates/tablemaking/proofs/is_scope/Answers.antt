use Rattle.std.proofs.Common.{true, false, refl}
use Rattle.tablemaking.specs.Made.{by_part_lem, is_scope}
use Rattle.tablemaking.proofs.Parts.{no-scope}
use Rattle.tablemaking.proofs.is_scope.Goals as goal

pub returns-in_default : goal.returns-in_default
unfolding is_scope by_part_lem
returns-in_default c = rw c.in_default.is refl

pub returns-in-Scope : goal.returns-in-Scope
unfolding is_scope by_part_lem
returns-in-Scope c = rw (c.in-Ok.is, c.in-Scope.is) refl

pub returns-in_default-matches : goal.returns-in_default-matches
unfolding is_scope
returns-in_default-matches c = rw (c.in-Ok.is, no-scope false (λ kind code. true) c.in-Ok.item c.in_default-matches.not-Scope) refl
