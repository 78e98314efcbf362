use Rattle.form2000.proofs.Whole.{counts-small}
use Rattle.tally2000.proofs.Whole.{tally_bad, tally-there, tally-refused, tally-done}
use Rattle.tally2000.proofs.tally.Goals as goal

pub returns-in_default : goal.returns-in_default
returns-in_default c = tally_bad c.args.table.now c.args.stream.now c.count.ensures c.args.control_room c.args.property_room c.args.words.now c.in_default.is c.counted.ensures

pub judge-a-requires : goal.judge-a-requires
judge-a-requires c = counts-small c.args.table.now c.args.stream.now c.count.ensures c.in-Some.is c.requires.small

pub returns-then-a-ne0 : goal.returns-then-a-ne0
returns-then-a-ne0 c = tally-refused c.args.table.now c.args.stream.now c.count.ensures c.in-Some.is c.args.control_room c.args.property_room c.judge-a.ensures c.args.words.now c.if-a-ne0.true

pub count_stream-requires : goal.count_stream-requires
count_stream-requires c = tally-there c.args.table.now c.args.stream.now c.count.ensures c.in-Some.is c.requires

pub returns : goal.returns
returns c =
    tally-done c.args.table.now c.args.stream.now c.count.ensures c.in-Some.is c.args.control_room c.args.property_room c.judge-a.ensures c.args.words.now c.requires.small c.if-a-ne0.false c.count_stream.ensures
