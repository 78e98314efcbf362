use Rattle.rewrite.proofs.Walks.{write_end}
use Rattle.rewrite.proofs.put_pieces.Goals as goal

pub returns : goal.returns
returns c = write_end c.loop-p.invariant (λ i. (c.type_inv.s i).fits) c.loop-p-test.false
