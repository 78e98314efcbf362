use Rattle.std.proofs.Common.{arith}
use Rattle.tablebreak.proofs.Turns.{told_broken, order_fails, order-holds}
use Rattle.tablebreak.proofs.order_rule.Goals as goal

pub returns-then-key-least : goal.returns-then-key-least
returns-then-key-least c = let a = c.args in told_broken (λ z. omega arith) c.broken.ensures (order_fails a.at a.key a.least c.if-key-least.true)

pub returns : goal.returns
returns c = let a = c.args in order-holds a.at a.key a.least c.if-key-least.false
