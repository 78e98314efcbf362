use Rattle.form2000.proofs.Whole.{counts-small}
use Rattle.form2000.proofs.Writes.{read_bad, read-refused, read-ready, read_done}
use Rattle.form2000.proofs.read.Goals as goal

pub returns-in_default : goal.returns-in_default
returns-in_default c = read_bad _ _ _ _ c.count.ensures c.in_default.is c.counted.ensures

pub judge-a-requires : goal.judge-a-requires
judge-a-requires c = counts-small c.args.table.now _ c.count.ensures c.in-Some.is c.requires.small

pub returns-then-a-ne0 : goal.returns-then-a-ne0
returns-then-a-ne0 c = read-refused _ _ _ _ c.count.ensures c.in-Some.is c.judge-a.ensures c.if-a-ne0.true

pub write-requires : goal.write-requires
write-requires c = read-ready _ _ _ _ c.count.ensures c.in-Some.is c.judge-a.ensures c.if-a-ne0.false c.requires

pub returns : goal.returns
returns c = read_done _ _ _ _ c.count.ensures c.in-Some.is c.judge-a.ensures c.if-a-ne0.false c.write.ensures
