use native.Mathlib.Omega.{arith}
use Rattle.csvtext.proofs.UnitLaws.{length-hexes}
use Rattle.csvtext.proofs.hexes_left.Goals as goal

pub returns : goal.returns
returns c = omega (arith, length-hexes c.args.bytes.now, c.saturating_sub-2.ensures, c.saturating_sub.ensures)
