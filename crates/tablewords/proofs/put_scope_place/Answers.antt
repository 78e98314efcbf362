use Rattle.text.proofs.Chain.{◌⨟◌}
use Rattle.tablewords.proofs.Sentences.{a_scope}
use Rattle.tablewords.proofs.put_scope_place.Goals as goal

pub returns : goal.returns
returns c =
    rw (a_scope c.args.scope c.if-scope-eq0.false) (c.put_text-p.ensures ⨟ c.put_decimal.ensures)
