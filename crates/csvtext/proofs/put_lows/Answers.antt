use native.Mathlib.Omega.{arith}
use Rattle.text.proofs.Remains.{all_remains, on}
use Rattle.csvtext.proofs.LetterLaws.{lows_piece}
use Rattle.csvtext.proofs.put_lows.Goals as goal

pub loop-four-init : goal.loop-four-init
loop-four-init c = all_remains

pub loop-four-preserved : goal.loop-four-preserved
loop-four-preserved c =
    let e = c.in-Some.ensures.cases in
    on c.loop-four.invariant (lows_piece c.loop-four.rest.now (omega (arith, e)) e.0 e.1) c.put_bytes-p.ensures

pub returns : goal.returns
returns c = c.loop-four.invariant.so _ _ c.put_lows_each.ensures
