use Rattle.text.proofs.Chain.{◌⨟◌}
use Rattle.tablebytes.proofs.put_row.Goals as goal

pub returns : goal.returns
returns c = c.put_byte-p.ensures ⨟ c.put_two-p.ensures ⨟ c.put_byte.ensures
