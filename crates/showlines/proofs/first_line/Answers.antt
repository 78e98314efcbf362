use Rattle.text.proofs.Chain.{◌⨟◌}
use Rattle.showlines.specs.Lines.{first_line}
use Rattle.showlines.proofs.first_line.Goals as goal

pub returns : goal.returns
unfolding first_line
returns c =
    c.put_reading-p.ensures
    ⨟ c.put_text-p.ensures
    ⨟ c.put_decimal-p.ensures
    ⨟ c.put_text-p-2.ensures
    ⨟ c.put_decimal-p-2.ensures
    ⨟ c.put_text-p-3.ensures
    ⨟ c.put_decimal-p-3.ensures
    ⨟ c.put_text.ensures
