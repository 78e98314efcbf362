use Rattle.differences.proofs.Exits.{list_over, list-fits}
use Rattle.differences.proofs.listed.Goals as goal

pub returns-then-rows-n : goal.returns-then-rows-n
returns-then-rows-n c = list_over c.requires c.list_stream-n.ensures _ _ c.if-rows-n.true c.counted.ensures

pub returns : goal.returns
returns c = list-fits c.requires c.list_stream-n.ensures _ _ c.if-rows-n.false c.counted-2.ensures c.list_stream.ensures
