use Rattle.later.proofs.ReadLaws.{read_short, read-refused, blob-ready, read_done}
use Rattle.later.proofs.read.Goals as goal

pub returns-then-stream-lt-OBJECT_AT : goal.returns-then-stream-lt-OBJECT_AT
returns-then-stream-lt-OBJECT_AT c = read_short _ _ _ c.if-stream-lt-OBJECT_AT.true _ c.counted.ensures

pub returns-then-a-ne-READ : goal.returns-then-a-ne-READ
returns-then-a-ne-READ c = read-refused c.if-stream-lt-OBJECT_AT.false c.count-n.ensures _ _ _ c.judge-a.ensures c.if-a-ne-READ.true

pub write_blob-requires : goal.write_blob-requires
write_blob-requires c = blob-ready c.if-stream-lt-OBJECT_AT.false c.count-n.ensures _ _ _ c.judge-a.ensures c.if-a-ne-READ.false c.requires

pub returns : goal.returns
returns c = read_done c.if-stream-lt-OBJECT_AT.false c.count-n.ensures _ _ _ c.judge-a.ensures c.if-a-ne-READ.false _ _ c.write_blob.ensures
