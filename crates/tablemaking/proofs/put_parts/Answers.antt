use Rattle.std.proofs.Common.{arith}
use Rattle.tablemaking.proofs.Parts.{all_left, line-put, no-line-left, part-said, no_parts}
use Rattle.tablemaking.proofs.put_parts.Goals as goal

pub loop-place-init : goal.loop-place-init
loop-place-init c = all_left

pub loop-place-smaller : goal.loop-place-smaller
loop-place-smaller c = omega (arith, c.line_at-line.ensures.on)

pub loop-place-preserved : goal.loop-place-preserved
loop-place-preserved c = line-put c.loop-place.invariant c.line_at-line.ensures (part-said _ _ _) c.put_part-p.ensures

pub returns : goal.returns
returns c = no-line-left c.loop-place.invariant (omega (arith, c.loop-place-test.false)) (no_parts _)
