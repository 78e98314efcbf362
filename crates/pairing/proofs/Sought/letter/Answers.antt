-- Letter `i`, of two bytes or of one.
use native.Mathlib.Omega.{arith}
use Rattle.pairing.proofs.NameLaws.{wide_other, wide_same, narrow_same}
use Rattle.pairing.proofs.Sought.letter.Goals as goal

pub returns-then-s-at-ne0 : goal.returns-then-s-at-ne0
returns-then-s-at-ne0 c = wide_other c.args.self.stream.now c.args.self.name c.args.i c.if-self.true c.if-s-at-ne0.true

pub returns-then-self : goal.returns-then-self
returns-then-self c = wide_same c.args.self.stream.now c.args.self.name c.args.i c.if-self.true (omega arith) (omega arith)

pub returns : goal.returns
returns c = narrow_same c.args.self.stream.now c.args.self.name c.args.i c.if-self.false (omega arith)
