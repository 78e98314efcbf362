use Rattle.std.proofs.Common.{refl, arith}
use Rattle.totalling.proofs.Printing.{short-written, cut-written, whole-written}
use Rattle.totalling.proofs.write_counted.Goals as goal

pub returns-then-input-lt-TABLE_AT : goal.returns-then-input-lt-TABLE_AT
returns-then-input-lt-TABLE_AT c = short-written c.args.input.now (omega arith) c.refusal_line.ensures

pub returns-then-input-size : goal.returns-then-input-size
returns-then-input-size c =
    cut-written c.args.input.now (omega arith) (omega (arith, c.u32_at-size.ensures)) c.refusal_line-then-input-size.ensures

pub returns : goal.returns
returns c =
    let z = c.u32_at-size in whole-written c.args.input.now (omega arith) z.result z.ensures (omega arith) refl refl c.write_said.ensures
