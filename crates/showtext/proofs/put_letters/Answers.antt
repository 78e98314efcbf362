use Rattle.utf16.proofs.Units.{Units}
use Rattle.text.proofs.Chain.{wrote_as}
use Rattle.csvtext.proofs.Spelling.{spells_start, spells_more, spells_done}
use Rattle.showtext.proofs.ShownLaws.{letters-all}
use Rattle.showtext.proofs.put_letters.Goals as goal

pub put_unit-p-requires : goal.put_unit-p-requires
put_unit-p-requires c = c.loop-unit.invariant.low

pub loop-unit-init : goal.loop-unit-init
loop-unit-init c = spells_start

pub loop-unit-preserved : goal.loop-unit-preserved
loop-unit-preserved c =
    let U : Units c.args.bytes.now _ = record { are = c.as_chunks.ensures.front } in
    spells_more c.loop-unit.invariant U c.loop-unit-test.true c.from_le_bytes-u.ensures c.waiting-high.ensures c.put_unit-p.ensures

pub returns : goal.returns
returns c =
    let U : Units c.args.bytes.now _ = record { are = c.as_chunks.ensures.front } in
    wrote_as (spells_done c.loop-unit.invariant U c.loop-unit-test.false) (letters-all _)
