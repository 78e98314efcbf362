use Rattle.std.proofs.Common.{◌∙◌}
use Rattle.tablelines.proofs.WordLaws.{same_each}
use Rattle.tablelines.proofs.same_word.Goals as goal

pub returns : goal.returns
returns c = c.eq.ensures ∙ same_each _ _
