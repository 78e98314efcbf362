use mathlib.Core.Path.{refl}
use native.Mathlib.Omega.{arith}
use Rattle.tablejoin.proofs.Printing.{input_short, input_cut, tables_wrote}
use Rattle.tablejoin.proofs.write_input.Goals as goal

pub returns-then-input-lt-LENGTH_SIZE : goal.returns-then-input-lt-LENGTH_SIZE
returns-then-input-lt-LENGTH_SIZE c = rw (input_short c.args.input.now (omega arith)) c.write_refusal.ensures

pub returns-then-input-size : goal.returns-then-input-size
returns-then-input-size c =
    rw (input_cut c.args.input.now (omega arith) (omega (arith, c.u32_at-size.ensures))) c.write_refusal-then-input-size.ensures

pub returns : goal.returns
returns c =
    let z = c.u32_at-size in tables_wrote c.args.input.now (omega arith) z.result z.ensures (omega arith) refl refl c.write_said.ensures
