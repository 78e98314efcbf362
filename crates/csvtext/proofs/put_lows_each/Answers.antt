use Rattle.utf16.proofs.Units.{Units}
use Rattle.text.proofs.Remains.{all_remains, on, done}
use Rattle.csvtext.proofs.LetterLaws.{lows_unit, lows_over}
use Rattle.csvtext.proofs.put_lows_each.Goals as goal

pub loop-unit-init : goal.loop-unit-init
loop-unit-init c = all_remains

pub loop-unit-preserved : goal.loop-unit-preserved
loop-unit-preserved c =
    let U : Units c.args.bytes.now _ = record { are = c.as_chunks.ensures.front } in
    on c.loop-unit.invariant (lows_unit U c.loop-unit.unit-index c.loop-unit-test.true) c.put_byte-p.ensures

pub returns : goal.returns
returns c =
    let U : Units c.args.bytes.now _ = record { are = c.as_chunks.ensures.front } in
    done c.loop-unit.invariant (lows_over U c.loop-unit.unit-index c.loop-unit-test.false)
