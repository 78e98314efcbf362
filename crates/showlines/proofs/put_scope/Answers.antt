use Rattle.std.proofs.Common.{sym, ap}
use Rattle.text.proofs.Chain.{nothing, ◌⨟◌, wrote_as}
use Rattle.showlines.specs.Lines.{scope_text}
use Rattle.showlines.proofs.put_scope.Goals as goal

pub returns-in-OfEntry : goal.returns-in-OfEntry
unfolding scope_text
returns-in-OfEntry c = wrote_as (c.put_text-p.ensures ⨟ c.put_hex.ensures) (sym (ap scope_text c.in-OfEntry.is))

pub returns-in-NoScope : goal.returns-in-NoScope
unfolding scope_text
returns-in-NoScope c = wrote_as nothing (sym (ap scope_text c.in-NoScope.is))
