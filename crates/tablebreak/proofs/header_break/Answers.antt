use Rattle.std.proofs.Common.{◌≡◌, ◌+◌, ◌-◌, ◌*◌, ◌<◌, ◌∙◌, arith}
use Rattle.tablebreak.proofs.Turns.{told_broken, headers_fail, headers-step, headers-done}
use Rattle.tablebreak.proofs.header_break.Goals as goal

pub returns-then-code-least : goal.returns-then-code-least
returns-then-code-least c =
    let l = c.loop-i in
    let more : 0 < c.args.n - l.i = omega arith in
    told_broken (λ z. omega arith) c.broken.ensures (l.invariant.decide ∙ headers_fail (record { more = more; code_is = c.u16_number-code.ensures.is }) l.least c.if-code-least.true)

pub loop-i-preserved : goal.loop-i-preserved
loop-i-preserved c =
    let a = c.args in
    let l = c.loop-i in
    let i = l.i in
    let more : 0 < a.n - i = omega arith in
    let e : 4 + 2 * i + 2 ≡ 4 + 2 * (i + 1) = omega arith in
    let f : a.n - i - 1 ≡ a.n - (i + 1) = omega arith in
    rw (← e, ← f)
    (record {
      decide = l.invariant.decide ∙ headers-step (record { more = more; code_is = c.u16_number-code.ensures.is }) l.least c.if-code-least.false;
      near = omega arith;
      low = omega (arith, c.u16_number-code.ensures.small);
    })

pub returns : goal.returns
returns c =
    let l = c.loop-i in
    l.invariant.decide ∙ headers-done c.args.table.now (4 + 2 * l.i) l.least (c.args.n - l.i) (omega arith)
