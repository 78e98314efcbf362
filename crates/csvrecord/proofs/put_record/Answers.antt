use Rattle.text.proofs.Chain.{◌⨟◌}
use Rattle.csvrecord.proofs.put_record.Goals as goal

pub returns : goal.returns
returns c =
    c.put_text-q.ensures ⨟ c.put_tail.ensures
