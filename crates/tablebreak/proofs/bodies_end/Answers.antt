use Rattle.std.proofs.Common.{◌≡◌, ◌+◌, ◌-◌, ◌*◌, ◌<◌, refl, sym, ◌∙◌, arith}
use Rattle.tablebreak.proofs.Turns.{ends-step, ends-done}
use Rattle.tablebreak.proofs.bodies_end.Goals as goal

pub loop-i-init : goal.loop-i-init
loop-i-init c =
    let e : c.args.start + 0 ≡ c.args.start = omega arith in
    let f : c.args.n - 0 ≡ c.args.n = omega arith in
    rw (e, f) (record { total = refl; near = omega arith; end-near = omega arith })

pub loop-i-preserved : goal.loop-i-preserved
loop-i-preserved c =
    let a = c.args in
    let l = c.loop-i in
    let i = l.i in
    let more : 0 < a.n - i = omega arith in
    let e : a.start + 5 * i + 5 ≡ a.start + 5 * (i + 1) = omega arith in
    let f : a.n - i - 1 ≡ a.n - (i + 1) = omega arith in
    rw (← e, ← f)
    (record {
      total = l.invariant.total ∙ ends-step a.table.now (a.start + 5 * i) l.end (a.n - i) more c.u16_number.ensures.is;
      near = omega arith;
      end-near = omega (arith, c.u16_number.ensures.small);
    })

pub returns : goal.returns
returns c =
    let l = c.loop-i in
    record { is = sym (l.invariant.total ∙ ends-done c.args.table.now (c.args.start + 5 * l.i) l.end (c.args.n - l.i) (omega arith)); small = omega arith }
