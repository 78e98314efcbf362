use Rattle.rules.specs.Listing.{value_column}
use Rattle.text.proofs.Chain.{◌⨟◌}
use Rattle.values.proofs.put_value.Goals as goal

pub returns-in-4 : goal.returns-in-4
unfolding value_column
returns-in-4 c = rw c.in-4.is (c.put_hex-p.ensures ⨟ c.put_hex.ensures)
