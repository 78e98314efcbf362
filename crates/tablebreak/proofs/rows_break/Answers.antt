use Rattle.std.proofs.Common.{◌≡◌, ◌+◌, ◌-◌, ◌*◌, ◌<◌, refl, sym, ◌∙◌, arith}
use Rattle.tablebreak.proofs.Turns.{bodies_fail, bodies_step, bodies_done}
use Rattle.tablebreak.proofs.rows_break.Goals as goal

pub returns-in-Some : goal.returns-in-Some
returns-in-Some c =
    let l = c.loop-i in
    let n = c.in-Some.ensures in
    let more : 0 < c.args.n - l.i = omega arith in
    record { is = sym (l.invariant.decide ∙ bodies_fail (record { more = more; kind-is = c.byte_number-kind.ensures.is; code_is = c.u16_number-code.ensures.is; count-is = c.u16_number-count.ensures.is }) l.body (l.i + 1) n.is n.some); some = n.some }

pub loop-i-preserved : goal.loop-i-preserved
loop-i-preserved c =
    let a = c.args in
    let l = c.loop-i in
    let i = l.i in
    let more : 0 < a.n - i = omega arith in
    let e : a.start + 5 * i + 5 ≡ a.start + 5 * (i + 1) = omega arith in
    let f : a.n - i - 1 ≡ a.n - (i + 1) = omega arith in
    rw (← e, ← f)
    (record {
      decide = l.invariant.decide ∙ bodies_step (record { more = more; kind-is = c.byte_number-kind.ensures.is; code_is = c.u16_number-code.ensures.is; count-is = c.u16_number-count.ensures.is }) l.body (i + 1) (sym c.in_default.ensures) refl;
      near = omega arith;
      body_near = omega (arith, c.u16_number-count.ensures.small);
    })

pub returns : goal.returns
returns c =
    let l = c.loop-i in
    l.invariant.decide ∙ bodies_done c.args.table.now (c.args.start + 5 * l.i) l.body (l.i + 1) (c.args.n - l.i) (omega arith)
