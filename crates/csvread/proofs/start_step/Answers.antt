use mathlib.Core.Path.{sym, ◌∙◌}
use Rattle.csvread.proofs.ByteLaws.{start-quote, start_plain}
use Rattle.csvread.proofs.start_step.Goals as goal

pub returns-then-b-eq-QUOTE : goal.returns-then-b-eq-QUOTE
returns-then-b-eq-QUOTE c = sym (start-quote _ _ c.if-b-eq-QUOTE.true)

pub returns : goal.returns
returns c = c.plain_step.ensures ∙ sym (start_plain _ _ c.if-b-eq-QUOTE.false)
