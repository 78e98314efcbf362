use Rattle.listing.proofs.Walked.{walked_none, walked_more, walked_all}
use Rattle.difflist.proofs.difference_lines.Goals as goal

pub loop-n-init : goal.loop-n-init
loop-n-init c = walked_none

pub loop-n-preserved : goal.loop-n-preserved
loop-n-preserved c = walked_more c.loop-n.invariant c.loop-n-test.true c.difference_line-p.ensures

pub returns : goal.returns
returns c = walked_all c.loop-n.invariant c.loop-n-test.false
