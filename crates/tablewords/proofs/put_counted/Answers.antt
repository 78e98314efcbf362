use Rattle.text.proofs.Chain.{◌⨟◌}
use Rattle.tablewords.proofs.put_counted.Goals as goal

pub returns : goal.returns
returns c =
    c.put_text-p.ensures ⨟ c.put_decimal-p.ensures ⨟ c.put_text.ensures
