use Rattle.text.proofs.Chain.{◌⨟◌}
use Rattle.tabletext.specs.Text.{row_line}
use Rattle.tabletext.proofs.put_row.Goals as goal

pub returns : goal.returns
unfolding row_line
returns c =
    c.put_hex-p.ensures
    ⨟ c.put_byte-p.ensures
    ⨟ c.put_hex-p-2.ensures
    ⨟ c.put_byte-p-2.ensures
    ⨟ c.put_kind-p.ensures
    ⨟ rw c.mark_of.ensures at c.put_target_name-p.ensures
    ⨟ c.put_byte.ensures
