use Rattle.std.proofs.Common.{arith, sym, ◌∙◌}
use Rattle.totals.proofs.SumLaws.{fit-no, fit-yes, fit-end}
use Rattle.totals.proofs.all_fit.Goals as goal

pub returns-then-not-one_fits : goal.returns-then-not-one_fits
returns-then-not-one_fits c = sym (c.loop-i.invariant ∙ fit-no _ _ c.loop-i.i (omega arith) (omega arith) (sym c.if-not-one_fits.ensures))

pub loop-i-preserved : goal.loop-i-preserved
loop-i-preserved c = c.loop-i.invariant ∙ fit-yes _ _ c.loop-i.i (omega arith) (omega arith) (sym c.if-not-one_fits.ensures)

pub returns : goal.returns
returns c = sym (c.loop-i.invariant ∙ fit-end c.args.old.now c.args.more.now c.loop-i.i (omega arith) (omega arith) c.requires)
