use Rattle.text.proofs.Chain.{◌⨟◌}
use Rattle.tabletext.specs.Text.{scope_line}
use Rattle.tabletext.proofs.put_scope.Goals as goal

pub returns : goal.returns
unfolding scope_line
returns c =
    c.put_byte-p.ensures ⨟ c.put_scope_name-p.ensures ⨟ c.put_type_remark-p.ensures ⨟ c.put_byte.ensures
