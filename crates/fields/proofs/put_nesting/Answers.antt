use Rattle.text.proofs.Chain.{◌⨟◌}
use Rattle.fields.proofs.put_nesting.Goals as goal

pub returns : goal.returns
returns c =
    c.put_decimal-p.ensures ⨟ c.put_byte-p.ensures ⨟ c.put_parent.ensures
