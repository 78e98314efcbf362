use Rattle.rewrite.proofs.Walks.{count_end}
use Rattle.rewrite.proofs.size_of.Goals as goal

pub returns : goal.returns
returns c = count_end c.loop-p.invariant (λ i. (c.type_inv.s i).fits) c.loop-p-test.false
