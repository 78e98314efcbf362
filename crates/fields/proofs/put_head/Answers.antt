use Rattle.text.proofs.Chain.{◌⨟◌}
use Rattle.fields.proofs.put_head.Goals as goal

pub returns : goal.returns
returns c =
    c.put_byte-p.ensures
    ⨟ c.put_byte-p-2.ensures
    ⨟ c.put_decimal-p.ensures
    ⨟ c.put_byte-p-3.ensures
    ⨟ c.put_hex-p.ensures
    ⨟ c.put_byte.ensures
