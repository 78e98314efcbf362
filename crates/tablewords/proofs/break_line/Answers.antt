use Rattle.text.proofs.Chain.{◌⨟◌}
use Rattle.tablewords.specs.Words.{break_text}
use Rattle.tablewords.proofs.break_line.Goals as goal

pub returns : goal.returns
unfolding break_text
returns c =
    c.put_text-p.ensures
    ⨟ c.put_decimal-p.ensures
    ⨟ c.put_within-p.ensures
    ⨟ c.put_text-p-2.ensures
    ⨟ c.put_rule-p.ensures
    ⨟ c.put_byte.ensures
