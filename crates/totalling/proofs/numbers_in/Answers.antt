use Rattle.std.proofs.Common.{arith}
use Rattle.totalling.proofs.Numbers.{numbers_are}
use Rattle.totalling.proofs.numbers_in.Goals as goal

pub returns : goal.returns
returns g c =
    let l = c.loop-i in
    numbers_are c.args.input.now c.args.at g.row.N l.n-items l.invariant.0 (λ k h. l.invariant.1 k (omega arith))
