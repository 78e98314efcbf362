use native.Mathlib.Omega.{arith}
use mathlib.Core.Path.{sym, ap, ◌∙◌}
use Rattle.text.proofs.Chain.{nothing, wrote_as}
use Rattle.csvtext.proofs.Spelling.{first-half, ends}
use Rattle.csvtext.proofs.UnitLaws.{scalar-small}
use Rattle.showtext.specs.Shown.{spelled}
use Rattle.showtext.proofs.put_unit.Goals as goal

pub returns-then-is_high : goal.returns-then-is_high
returns-then-is_high c =
    wrote_as nothing (sym (first-half spelled c.args.high c.args.u (sym c.is_high.ensures ∙ c.if-is_high.true)))

pub put_spelled-requires : goal.put_spelled-requires
put_spelled-requires c =
    omega (arith, c.scalar.ensures, scalar-small c.args.high c.args.u c.requires (omega (arith, c.well_formed)))

pub returns : goal.returns
returns c =
    wrote_as c.put_spelled.ensures
    (ap spelled c.scalar.ensures ∙ sym (ends spelled c.args.high c.args.u (sym c.is_high.ensures ∙ c.if-is_high.false)))
