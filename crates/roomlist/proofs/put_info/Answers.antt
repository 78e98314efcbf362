use Rattle.text.proofs.Chain.{◌⨟◌}
use Rattle.roomlist.specs.Rooms.{info_line}
use Rattle.roomlist.proofs.put_info.Goals as goal

pub returns : goal.returns
unfolding info_line
returns c =
    c.put_text-p.ensures
    ⨟ c.put_decimal-p.ensures
    ⨟ c.put_text-p-2.ensures
    ⨟ (rw c.info_bytes.ensures at c.put_decimal-p-2.ensures)
    ⨟ c.put_text.ensures
