use native.Mathlib.Omega.{arith}
use Rattle.utf16.proofs.Units.{unit_more, units_from}
use Rattle.utf16.proofs.past_plain.Goals as goal

pub loop-n-preserved : goal.loop-n-preserved
loop-n-preserved c =
    let units = units_from c.args.bytes.now c.past_fours-start.result c.as_chunks.ensures.front in
    unit_more units c.loop-n-test.true (omega (arith, c.from_le_bytes.ensures)) c.loop-n.invariant
