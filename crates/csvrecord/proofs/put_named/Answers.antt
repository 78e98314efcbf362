use Rattle.text.proofs.Chain.{◌⨟◌}
use Rattle.csvrecord.specs.Parts.{named_text}
use Rattle.csvrecord.proofs.put_named.Goals as goal

pub returns : goal.returns
unfolding named_text
returns c =
    c.put_property-q.ensures ⨟ c.put_marked.ensures
