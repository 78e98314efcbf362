-- The first unit of those left, and where none is.
use native.Mathlib.Omega.{arith}
use Rattle.std.proofs.Common.{◌∙◌}
use Rattle.pairlines.proofs.NameLaws.{spelled_more, spelled_all}
use Rattle.pairlines.proofs.put_units.Goals as goal

pub loop-unit-preserved : goal.loop-unit-preserved
loop-unit-preserved c =
    let steps = c.in-Some.ensures.steps in
    let two = c.loop-unit.invariant.1 in
    (spelled_more c.in-Some.unit.now c.loop-unit.invariant.0 steps.1.0 (steps.1.1 ∙ two) c.put_unit-p.ensures, steps.0 ∙ two)

pub returns : goal.returns
returns c = spelled_all c.loop-unit.invariant.0 (omega (arith, c.in-None.ensures.steps.1.0, c.loop-unit.invariant.1))
