use Rattle.text.proofs.Chain.{◌⨟◌}
use Rattle.showlines.specs.Lines.{property_line}
use Rattle.showlines.proofs.property_line.Goals as goal

pub returns : goal.returns
unfolding property_line
returns c = c.put_blanks-q.ensures ⨟ c.put_key-q.ensures ⨟ c.put_text-q.ensures ⨟ c.put_shown-q.ensures ⨟ c.put_end.ensures
