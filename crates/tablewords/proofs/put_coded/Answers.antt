use Rattle.text.proofs.Chain.{◌⨟◌}
use Rattle.tablewords.proofs.put_coded.Goals as goal

pub returns : goal.returns
returns c =
    c.put_text-p.ensures ⨟ c.put_hex-p.ensures ⨟ c.put_text.ensures
