use Rattle.text.proofs.Chain.{◌⨟◌}
use Rattle.showtext.specs.Shown.{bytes_text}
use Rattle.showtext.proofs.put_bytes.Goals as goal

pub returns : goal.returns
unfolding bytes_text
returns c =
    c.put_decimal-p.ensures ⨟ c.put_text-p.ensures ⨟ c.put_first.ensures
