use Rattle.text.proofs.Chain.{◌⨟◌, wrote_as}
use Rattle.join.proofs.HeadLaws.{head-is}
use Rattle.join.proofs.put_head.Goals as goal

pub returns : goal.returns
returns c =
    wrote_as (c.put_byte-o.ensures ⨟ c.put_byte-o-2.ensures ⨟ c.put_two-o.ensures ⨟ c.put_codes.ensures)
    (head-is _ _ _ _ c.layout.ensures c.byte_number.ensures.is)
