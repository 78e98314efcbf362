use Rattle.text.proofs.Chain.{◌⨟◌}
use Rattle.csvrecord.specs.Parts.{tail_text}
use Rattle.csvrecord.proofs.put_tail.Goals as goal

pub returns : goal.returns
unfolding tail_text
returns c =
    c.put_named-q.ensures ⨟ c.put_value_field-q.ensures ⨟ c.put_bytes.ensures
