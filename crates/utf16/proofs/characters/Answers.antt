use native.Mathlib.Omega.{arith}
use Rattle.utf16.proofs.Units.{counted, units_from}
use Rattle.utf16.proofs.characters.Goals as goal

pub returns : goal.returns
returns c =
    let units = units_from c.args.bytes.now c.past_plain-start.result c.as_chunks.ensures.front in
    omega (arith, c.ended.ensures, c.past_plain-start.ensures.count, counted units)
