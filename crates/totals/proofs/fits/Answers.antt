use Rattle.std.proofs.Common.{refl, sym}
use Rattle.totals.specs.Laid.{laid}
use Rattle.totals.proofs.SumLaws.{and_then, and_else, within_parts}
use Rattle.totals.proofs.fits.Goals as goal
use Rattle.totals.proofs.fits.Goals.{then-all_fit, else-all_fit, then-all_fit-2, else-all_fit-2, then-one_fits, else-one_fits}

pub returns-then-one_fits-2 : goal.returns-then-one_fits-2
unfolding laid
returns-then-one_fits-2 c =
    within_parts c.args.old (laid c.args.words.now) c.if-all_fit.value c.if-all_fit-2.value c.if-one_fits.value
    (elim c.if-all_fit.branch [
      | then-all_fit w ↦ and_then _ w.value-is w.all_fit-then-all_fit.ensures w.if-all_fit.ensures
      | else-all_fit w ↦ and_else _ w.value-is w.if-all_fit.false w.if-all_fit.ensures
    ])
    (elim c.if-all_fit-2.branch [
      | then-all_fit-2 w ↦ and_then _ w.value-is w.one_fits.ensures (sym w.if-all_fit-2.true)
      | else-all_fit-2 w ↦ and_else _ w.value-is w.if-all_fit-2.false (sym w.if-all_fit-2.false)
    ])
    (elim c.if-one_fits.branch [
      | then-one_fits w ↦ and_then _ w.value-is w.one_fits-then-one_fits.ensures (sym w.if-one_fits.true)
      | else-one_fits w ↦ and_else _ w.value-is w.if-one_fits.false (sym w.if-one_fits.false)
    ])
    (and_then _ refl c.all_fit-then-one_fits-2.ensures (sym c.if-one_fits-2.true))

pub returns-else-one_fits-2 : goal.returns-else-one_fits-2
unfolding laid
returns-else-one_fits-2 c =
    within_parts c.args.old (laid c.args.words.now) c.if-all_fit.value c.if-all_fit-2.value c.if-one_fits.value
    (elim c.if-all_fit.branch [
      | then-all_fit w ↦ and_then _ w.value-is w.all_fit-then-all_fit.ensures w.if-all_fit.ensures
      | else-all_fit w ↦ and_else _ w.value-is w.if-all_fit.false w.if-all_fit.ensures
    ])
    (elim c.if-all_fit-2.branch [
      | then-all_fit-2 w ↦ and_then _ w.value-is w.one_fits.ensures (sym w.if-all_fit-2.true)
      | else-all_fit-2 w ↦ and_else _ w.value-is w.if-all_fit-2.false (sym w.if-all_fit-2.false)
    ])
    (elim c.if-one_fits.branch [
      | then-one_fits w ↦ and_then _ w.value-is w.one_fits-then-one_fits.ensures (sym w.if-one_fits.true)
      | else-one_fits w ↦ and_else _ w.value-is w.if-one_fits.false (sym w.if-one_fits.false)
    ])
    (and_else _ refl c.if-one_fits-2.false (sym c.if-one_fits-2.false))
