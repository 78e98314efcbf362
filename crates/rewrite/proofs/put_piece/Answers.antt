use Rattle.text.proofs.Chain.{◌⨟◌}
use Rattle.rewrite.proofs.put_piece.Goals as goal

pub returns : goal.returns
returns c = c.put_part-o.ensures ⨟ c.put_byte-o.ensures ⨟ c.put_part.ensures
