use Rattle.text.proofs.Chain.{◌⨟◌}
use Rattle.showtext.specs.Shown.{loose_text}
use Rattle.showtext.proofs.put_loose.Goals as goal

pub returns : goal.returns
unfolding loose_text
returns c =
    c.put_text-p.ensures ⨟ c.put_bytes.ensures
