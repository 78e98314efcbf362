use Rattle.text.proofs.Chain.{◌⨟◌}
use Rattle.showtext.specs.Shown.{quoted}
use Rattle.showtext.proofs.put_quoted.Goals as goal

pub returns : goal.returns
unfolding quoted
returns c =
    c.put_byte-p.ensures ⨟ c.put_letters-p.ensures ⨟ c.put_byte.ensures
