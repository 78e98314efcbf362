use Rattle.text.proofs.Chain.{◌⨟◌}
use Rattle.tablewhy.proofs.Reasons.{a_line}
use Rattle.tablewhy.proofs.put_line.Goals as goal

pub returns : goal.returns
returns c =
    rw (a_line c.args.line c.if-line-eq0.false)
    (c.put_text-p.ensures ⨟ c.put_decimal-p.ensures ⨟ c.put_text.ensures)
