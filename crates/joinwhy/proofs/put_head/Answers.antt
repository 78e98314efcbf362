use Rattle.text.proofs.Chain.{◌⨟◌}
use Rattle.joinwhy.proofs.Heads.{head-words}
use Rattle.joinwhy.proofs.put_head.Goals as goal

pub returns : goal.returns
returns c =
    rw (head-words c.args.table.now c.byte_number.ensures.is c.byte_number-2.ensures.is)
    (c.put_text-p.ensures ⨟ c.put_hex-p.ensures ⨟ c.put_text-p-2.ensures ⨟ c.put_codes-p.ensures ⨟ c.put_byte.ensures)
