use mathlib.Core.Path.{sym, ap, ◌∙◌}
use Rattle.rules.specs.Csv.{is_data}
use Rattle.csvtext.proofs.UnitLaws.{first-half_data, ends_data}
use Rattle.csvtext.proofs.unit_is_data.Goals as goal

pub returns-then-is_high : goal.returns-then-is_high
returns-then-is_high c =
    sym (first-half_data c.args.high c.args.u (sym c.is_high.ensures ∙ c.if-is_high.true))

pub returns : goal.returns
returns c =
    c.is_data.ensures ∙ ap is_data c.scalar.ensures ∙ sym (ends_data c.args.high c.args.u (sym c.is_high.ensures ∙ c.if-is_high.false))
