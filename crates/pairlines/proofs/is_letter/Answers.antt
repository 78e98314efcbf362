-- A unit with a high byte is no letter; another is by its low byte.
use Rattle.std.proofs.Common.{◌∙◌}
use borrow.Author.Tests.{ne_eqb}
use Rattle.pairlines.proofs.NameLaws.{high_byte, low_byte}
use Rattle.pairlines.proofs.is_letter.Goals as goal

pub returns-then-high-eq0 : goal.returns-then-high-eq0
returns-then-high-eq0 c = low_byte _ _ _ c.if-high-eq0.true c.is_shown.ensures

pub returns-else-high-eq0 : goal.returns-else-high-eq0
returns-else-high-eq0 c = ne_eqb c.args.high 0 c.if-high-eq0.false ∙ high_byte _ _ c.if-high-eq0.false
