use Rattle.listing.proofs.InfoName.{spelled_none, spelled-more, spelled-all}
use Rattle.listing.proofs.put_name_bytes.Goals as goal

pub loop-b-init : goal.loop-b-init
loop-b-init c = spelled_none

pub loop-b-preserved : goal.loop-b-preserved
loop-b-preserved c = spelled-more c.loop-b.invariant c.loop-b-test.true c.put_name_byte-o.ensures

pub returns : goal.returns
returns c = spelled-all c.loop-b.invariant c.loop-b-test.false
