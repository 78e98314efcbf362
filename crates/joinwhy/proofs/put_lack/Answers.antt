use Rattle.text.proofs.Chain.{◌⨟◌}
use Rattle.joinwhy.specs.Why.{lack_text}
use Rattle.joinwhy.proofs.put_lack.Goals as goal

pub returns : goal.returns
unfolding lack_text
returns c =
    rw c.in-Some.is
    (c.put_scope_name-p.ensures ⨟ c.put_type_remark-p.ensures ⨟ c.put_byte-p.ensures ⨟ c.put_row-p.ensures ⨟ c.put_other.ensures)
