use Rattle.std.proofs.Common.{arith}
use Rattle.tablebreak.proofs.Turns.{told_broken, told_as, scope-kind, scope-entry, scope-code, scope-plain}
use Rattle.tablebreak.proofs.scope_rule.Goals as goal

pub returns-then-kind-gt-SCOPE_ENTRY : goal.returns-then-kind-gt-SCOPE_ENTRY
returns-then-kind-gt-SCOPE_ENTRY c = let a = c.args in told_broken (λ z. omega arith) c.broken.ensures (scope-kind a.at a.kind a.code a.least (omega arith))

pub returns-then-kind-eq-SCOPE_ENTRY : goal.returns-then-kind-eq-SCOPE_ENTRY
returns-then-kind-eq-SCOPE_ENTRY c = let a = c.args in told_as _ (scope-entry a.at a.kind a.code a.least (omega arith)) c.order_rule.ensures

pub returns-then-code-gt0 : goal.returns-then-code-gt0
returns-then-code-gt0 c =
    let a = c.args in
    told_broken (λ z. omega arith) c.broken-then-code-gt0.ensures (scope-code a.at a.kind a.code a.least (omega arith) (omega arith))

pub returns : goal.returns
returns c = let a = c.args in told_as _ (scope-plain a.at a.kind a.code a.least (omega arith) (omega arith)) c.order_rule-2.ensures
