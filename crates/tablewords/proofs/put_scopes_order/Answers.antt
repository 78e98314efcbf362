use Rattle.text.proofs.Chain.{◌⨟◌}
use Rattle.tablewords.specs.Words.{scopes_order}
use Rattle.tablewords.proofs.put_scopes_order.Goals as goal

pub returns : goal.returns
unfolding scopes_order
returns c =
    c.put_scope_name-p.ensures ⨟ c.put_text-p.ensures ⨟ c.put_scope_name-p-2.ensures ⨟ c.put_text.ensures
