use Rattle.text.proofs.Chain.{◌⨟◌}
use Rattle.text.proofs.Written.{guid_parts}
use Rattle.text.proofs.put_guid.Goals as goal

pub returns : goal.returns
returns c =
    rw guid_parts
    (c.put_byte-p.ensures
    ⨟ c.put_pair-p.ensures
    ⨟ c.put_pair-p-2.ensures
    ⨟ c.put_byte-p-2.ensures
    ⨟ c.put_pair-p-3.ensures
    ⨟ c.put_byte-p-3.ensures
    ⨟ c.put_pair-p-4.ensures
    ⨟ c.put_byte-p-4.ensures
    ⨟ c.put_pair-p-5.ensures
    ⨟ c.put_byte-p-5.ensures
    ⨟ c.put_pair-p-6.ensures
    ⨟ c.put_pair-p-7.ensures
    ⨟ c.put_pair-p-8.ensures
    ⨟ c.put_byte.ensures)
