use Rattle.text.proofs.Chain.{◌⨟◌}
use Rattle.tablewords.specs.Words.{row_place}
use Rattle.tablewords.proofs.put_row_place.Goals as goal

pub returns : goal.returns
unfolding row_place
returns c =
    c.put_text-p.ensures ⨟ c.put_decimal-p.ensures ⨟ c.put_text-p-2.ensures ⨟ c.put_scope_name.ensures
