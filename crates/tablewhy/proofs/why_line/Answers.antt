use Rattle.text.proofs.Chain.{◌⨟◌}
use Rattle.tablewhy.specs.Why.{why_text}
use Rattle.tablewhy.proofs.why_line.Goals as goal

pub returns : goal.returns
unfolding why_text
returns c = c.put_line-p.ensures ⨟ c.put_why-p.ensures ⨟ c.put_byte.ensures
