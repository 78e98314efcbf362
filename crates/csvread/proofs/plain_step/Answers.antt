use mathlib.Core.Path.{sym, ap, ◌∙◌}
use Rattle.rules.specs.Csv.{is_data}
use Rattle.csvread.proofs.ByteLaws.{plain_data, plain-ends}
use Rattle.csvread.proofs.plain_step.Goals as goal

pub returns-then-is_data : goal.returns-then-is_data
returns-then-is_data c = let d = sym (ap is_data c.from.ensures) ∙ sym c.is_data.ensures ∙ c.if-is_data.true in sym (plain_data _ _ d)

pub returns : goal.returns
returns c = let d = sym (ap is_data c.from.ensures) ∙ sym c.is_data.ensures ∙ c.if-is_data.false in c.field_end.ensures ∙ sym (plain-ends _ _ d)
