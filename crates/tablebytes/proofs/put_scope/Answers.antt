use Rattle.text.proofs.Chain.{◌⨟◌}
use Rattle.tablebytes.proofs.put_scope.Goals as goal

pub returns : goal.returns
returns c = c.put_byte-p.ensures ⨟ c.put_two-p.ensures ⨟ c.put_two.ensures
