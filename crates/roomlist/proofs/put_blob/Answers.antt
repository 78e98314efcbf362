use Rattle.text.proofs.Chain.{◌⨟◌}
use Rattle.roomlist.specs.Rooms.{blob_line}
use Rattle.roomlist.proofs.put_blob.Goals as goal

pub returns : goal.returns
unfolding blob_line
returns c =
    c.put_text-p.ensures
    ⨟ c.put_decimal-p.ensures
    ⨟ c.put_text-p-2.ensures
    ⨟ c.put_decimal-p-2.ensures
    ⨟ c.put_text-p-3.ensures
    ⨟ (rw c.blob_bytes.ensures at c.put_decimal-p-3.ensures)
    ⨟ c.put_text.ensures
