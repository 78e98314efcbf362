use Rattle.std.proofs.Common.{◌≡◌, ◌+◌, ◌-◌, ◌*◌, ◌<◌, refl, sym, ◌∙◌, arith}
use Rattle.tablebreak.proofs.Turns.{told_placed, scopes_fail, scopes-step, scopes-done}
use Rattle.tablebreak.proofs.scope_break.Goals as goal

pub returns-in-Some : goal.returns-in-Some
returns-in-Some c =
    let l = c.loop-i in
    let n = c.in-Some.ensures in
    let more : 0 < c.args.n - l.i = omega arith in
    told_placed c.in-Some.found n.some c.placed.ensures (l.invariant.decide ∙ scopes_fail (record { more = more; kind-is = c.byte_number-kind.ensures.is; code_is = c.u16_number-code.ensures.is }) l.least (l.i + 1) n.is n.some)

pub loop-i-preserved : goal.loop-i-preserved
loop-i-preserved c =
    let a = c.args in
    let l = c.loop-i in
    let i = l.i in
    let more : 0 < a.n - i = omega arith in
    let e : a.start + 5 * i + 5 ≡ a.start + 5 * (i + 1) = omega arith in
    let f : a.n - i - 1 ≡ a.n - (i + 1) = omega arith in
    rw (← e, ← f)
    (record {
      decide = l.invariant.decide ∙ scopes-step (record { more = more; kind-is = c.byte_number-kind.ensures.is; code_is = c.u16_number-code.ensures.is }) l.least (i + 1) (sym c.in_default.ensures) refl;
      near = omega arith;
      low = omega (arith, c.byte_number-kind.ensures.small, c.u16_number-code.ensures.small);
    })

pub returns : goal.returns
returns c =
    let l = c.loop-i in
    l.invariant.decide ∙ scopes-done c.args.table.now (c.args.start + 5 * l.i) l.least (l.i + 1) (c.args.n - l.i) (omega arith)
