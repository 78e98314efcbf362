use Rattle.text.proofs.Chain.{◌⨟◌}
use Rattle.tablewhy.specs.Why.{size_text}
use Rattle.tablewhy.proofs.size_line.Goals as goal

pub returns : goal.returns
unfolding size_text
returns c = c.put_text-p.ensures ⨟ c.put_decimal-p.ensures ⨟ c.put_byte.ensures
