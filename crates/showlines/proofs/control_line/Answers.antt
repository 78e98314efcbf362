use Rattle.text.proofs.Chain.{◌⨟◌}
use Rattle.showlines.specs.Lines.{control_line}
use Rattle.showlines.proofs.control_line.Goals as goal

pub returns : goal.returns
unfolding control_line
returns c =
    c.put_blanks-p.ensures
    ⨟ c.put_byte-p.ensures
    ⨟ c.put_decimal-p.ensures
    ⨟ c.put_byte-p-2.ensures
    ⨟ c.put_type-p.ensures
    ⨟ c.put_byte-p-3.ensures
    ⨟ c.put_name-p.ensures
    ⨟ c.put_end.ensures
