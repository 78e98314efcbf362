use Rattle.std.proofs.Common.{◌≡◌, ◌+◌, ◌-◌, ◌*◌, sym, arith}
use Rattle.join.proofs.HeadLaws.{code-differs, code_same, all_compared}
use Rattle.join.proofs.same_codes.Goals as goal

pub returns-then-u16_number : goal.returns-then-u16_number
returns-then-u16_number c =
    sym (code-differs c.loop-i.invariant (omega arith) c.u16_number.ensures.is c.u16_number-in-loop-i.ensures.is c.if-u16_number.true)

pub loop-i-preserved : goal.loop-i-preserved
loop-i-preserved c =
    let i = c.loop-i.i in
    let e : 4 + 2 * i + 2 ≡ 4 + 2 * (i + 1) = omega arith in
    let f : c.args.n - i - 1 ≡ c.args.n - (i + 1) = omega arith in
    rw (← e, ← f) (code_same c.loop-i.invariant (omega arith) c.u16_number.ensures.is c.u16_number-in-loop-i.ensures.is c.if-u16_number.false)

pub returns : goal.returns
returns c = sym (all_compared c.loop-i.invariant (omega arith))
