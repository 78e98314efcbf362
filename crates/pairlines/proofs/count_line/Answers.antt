-- The line with the number.
use Rattle.pairlines.proofs.UnpairedLaws.{count-wrote}
use Rattle.pairlines.proofs.count_line.Goals as goal

pub returns : goal.returns
returns c = count-wrote c.args.n c.put_text-p.ensures c.put_decimal-p.ensures c.put_end.ensures
