use Rattle.text.proofs.Chain.{◌⨟◌}
use Rattle.tabletext.specs.Text.{header_line}
use Rattle.tabletext.proofs.put_header.Goals as goal

pub returns : goal.returns
unfolding header_line
returns c =
    c.put_text-p.ensures ⨟ c.put_hex-p.ensures ⨟ c.put_byte.ensures
