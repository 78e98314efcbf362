use Rattle.tallylater.proofs.ReadLaws.{tally-short, blob-ready, tally-refused, tally-done}
use Rattle.tallylater.proofs.tally.Goals as goal

pub returns-then-stream-lt-OBJECT_AT : goal.returns-then-stream-lt-OBJECT_AT
returns-then-stream-lt-OBJECT_AT c = tally-short _ _ _ _ c.if-stream-lt-OBJECT_AT.true c.counted.ensures

pub returns-then-a-ne-READ : goal.returns-then-a-ne-READ
returns-then-a-ne-READ c = tally-refused c.if-stream-lt-OBJECT_AT.false c.count-n.ensures c.args.control_room c.args.property_room c.judge-a.ensures c.args.words.now c.if-a-ne-READ.true

pub count_blob-requires : goal.count_blob-requires
count_blob-requires c = blob-ready c.if-stream-lt-OBJECT_AT.false c.count-n.ensures c.requires

pub returns : goal.returns
returns c = tally-done c.if-stream-lt-OBJECT_AT.false c.count-n.ensures c.args.control_room c.args.property_room c.judge-a.ensures c.args.words.now c.requires c.if-a-ne-READ.false c.count_blob.ensures
