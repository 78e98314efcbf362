use Rattle.text.proofs.Chain.{◌⨟◌}
use Rattle.fields.specs.Parts.{shown_fields}
use Rattle.fields.proofs.put_shown.Goals as goal

pub returns : goal.returns
unfolding shown_fields
returns c =
    c.put_word-next.ensures ⨟ c.put_byte-next.ensures ⨟ c.put_value.ensures
