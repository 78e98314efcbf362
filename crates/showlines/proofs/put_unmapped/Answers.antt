use Rattle.text.proofs.Chain.{◌⨟◌}
use Rattle.showlines.specs.Lines.{unmapped_text}
use Rattle.showlines.proofs.put_unmapped.Goals as goal

pub returns : goal.returns
unfolding unmapped_text
returns c = c.put_text-p.ensures ⨟ c.put_hex-p.ensures ⨟ c.put_text-p-2.ensures ⨟ c.put_scope.ensures
