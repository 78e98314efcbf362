-- A NUL at `i` ends the search, another byte goes on, and so does the end.
use Rattle.std.proofs.Common.{refl, arith}
use Rattle.typeinfo.proofs.NulLaws.{nul_here, nul_next, nul_end}
use Rattle.typeinfo.proofs.nul_from.Goals as goal

pub returns-then-s-i-eq0 : goal.returns-then-s-i-eq0
returns-then-s-i-eq0 c = omega (arith, nul_here c.args.s.now c.loop-i.i c.loop-i-test.true c.if-s-i-eq0.true, c.loop-i.invariant)

pub loop-i-preserved : goal.loop-i-preserved
loop-i-preserved c = (refl, omega (arith, nul_next c.args.s.now c.loop-i.i c.loop-i-test.true c.if-s-i-eq0.false, c.loop-i.invariant))

pub returns-after-loop-i : goal.returns-after-loop-i
returns-after-loop-i c = omega (arith, nul_end c.args.s.now c.loop-i.i (omega arith), c.loop-i.invariant, c.loop-i.auto.i-end c.requires)
