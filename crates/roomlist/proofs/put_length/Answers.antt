use Rattle.text.proofs.Chain.{◌⨟◌}
use Rattle.roomlist.specs.Rooms.{length_line}
use Rattle.roomlist.proofs.put_length.Goals as goal

pub returns : goal.returns
unfolding length_line
returns c = c.put_text-p.ensures ⨟ c.put_decimal-p.ensures ⨟ c.put_text.ensures
