-- By what the input has of its table.
use Rattle.std.proofs.Common.{refl, arith}
use Rattle.panelsay.proofs.Printing.{short-written, cut-written, whole-written}
use Rattle.panelsay.proofs.write_judged.Goals as goal

pub returns-then-input-lt4 : goal.returns-then-input-lt4
returns-then-input-lt4 c = short-written _ _ _ (omega arith) c.refusal_line.ensures

pub returns-then-input-size : goal.returns-then-input-size
returns-then-input-size c =
    cut-written _ _ _ (omega arith) (omega (arith, c.u32_at-size.ensures)) c.refusal_line-then-input-size.ensures

pub returns : goal.returns
returns c =
    let z = c.u32_at-size in
    whole-written _ _ _ (omega arith) z.result z.ensures (omega arith) refl refl c.write_said.ensures
