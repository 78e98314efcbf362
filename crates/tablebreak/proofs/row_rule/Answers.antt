use Rattle.std.proofs.Common.{arith}
use Rattle.tablebreak.proofs.Turns.{told_broken, row-order, row-high, row_target, row-kind, row-none}
use Rattle.tablebreak.proofs.row_rule.Goals as goal

pub returns-then-id-least : goal.returns-then-id-least
returns-then-id-least c = let a = c.args in told_broken (λ z. omega arith) c.broken.ensures (row-order a.at a.id a.target a.kind a.least (omega arith))

pub returns-then-id-gt-LAST_ID : goal.returns-then-id-gt-LAST_ID
returns-then-id-gt-LAST_ID c =
    let a = c.args in
    told_broken (λ z. omega arith) c.broken-then-id-gt-LAST_ID.ensures (row-high a.at a.id a.target a.kind a.least (omega arith) (omega arith))

pub returns-then-target-gt-LAST_TARGET : goal.returns-then-target-gt-LAST_TARGET
returns-then-target-gt-LAST_TARGET c =
    let a = c.args in
    told_broken (λ z. omega arith) c.broken-then-target-gt-LAST_TARGET.ensures (row_target a.at a.id a.target a.kind a.least (omega arith) (omega arith) (omega arith))

pub returns-then-kind-gt-KIND_BYTES : goal.returns-then-kind-gt-KIND_BYTES
returns-then-kind-gt-KIND_BYTES c =
    let a = c.args in
    told_broken (λ z. omega arith) c.broken-then-kind-gt-KIND_BYTES.ensures (row-kind a.at a.id a.target a.kind a.least (omega arith) (omega arith) (omega arith) (omega arith))

pub returns : goal.returns
returns c = let a = c.args in row-none a.at a.id a.target a.kind a.least (omega arith) (omega arith) (omega arith) (omega arith)
