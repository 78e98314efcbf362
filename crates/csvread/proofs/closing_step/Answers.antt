use mathlib.Core.Path.{sym, ◌∙◌}
use Rattle.csvread.proofs.ByteLaws.{closing_quote, closing_ends}
use Rattle.csvread.proofs.closing_step.Goals as goal

pub returns-then-b-eq-QUOTE : goal.returns-then-b-eq-QUOTE
returns-then-b-eq-QUOTE c = sym (closing_quote _ _ c.if-b-eq-QUOTE.true)

pub returns : goal.returns
returns c = c.field_end.ensures ∙ sym (closing_ends _ _ c.if-b-eq-QUOTE.false)
