use Rattle.text.proofs.Chain.{◌⨟◌}
use Rattle.tablewords.proofs.put_ordered.Goals as goal

pub returns : goal.returns
returns c =
    c.put_text-p.ensures
    ⨟ c.put_hex-p.ensures
    ⨟ c.put_text-p-2.ensures
    ⨟ c.put_hex-p-2.ensures
    ⨟ c.put_text.ensures
