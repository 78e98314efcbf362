use mathlib.Core.Path.{sym, ◌∙◌}
use Rattle.utf16.proofs.Units.{four_more}
use Rattle.utf16.proofs.past_fours.Goals as goal

pub loop-n-preserved : goal.loop-n-preserved
loop-n-preserved c = four_more c.as_chunks.ensures.front c.loop-n-test.true (λ i. (c.type_inv.bytes i).fits) (sym c.plain_four.ensures ∙ c.if-not-plain_four.false) c.loop-n.invariant
