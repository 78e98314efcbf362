-- The row of a turn: it breaks a rule, or those after it decide.
use native.Mathlib.Omega.{arith}
use Rattle.std.proofs.Common.{ℕ, ◌∙◌, ap, refl}
use Rattle.rules.specs.Answer.{answer}
use lib.ListN.{length-replicate}
use Rattle.panel.proofs.RuleLaws.{judging_start, row-broken, row_kept, all-kept}
use Rattle.panel.proofs.MarkLaws.{none-marked, positive}
use Rattle.panel.proofs.judge.Goals as goal

pub tried-requires : goal.tried-requires
tried-requires c = record { inside = c.loop-i-test.true; before = c.loop-i.invariant.judging.before; marked = c.loop-i.invariant.marked }

pub loop-i-preserved : goal.loop-i-preserved
loop-i-preserved c = record {
  judging = row_kept c.args.reading.rows c.loop-i.invariant.judging c.loop-i-test.true c.in_default.ensures.told;
  marked = c.in_default.ensures.marked refl;
}

pub returns : goal.returns
returns c = c.judged-2.ensures ∙ all-kept c.args.reading.rows c.loop-i.invariant.judging (omega arith)

pub loop-i-init : goal.loop-i-init
loop-i-init c =
    let r = c.args.reading in
    record {
      judging = judging_start r.stream.now r.controls.now r.properties.now r.count;
      marked = none-marked r.stream.now r.controls.now _ (length-replicate {A = ℕ} 16384 0);
    }

pub returns-in-Err : goal.returns-in-Err
returns-in-Err c =
    let z = positive c.in-Err.rule in
    c.judged.ensures ∙ ap (answer 0 0 c.loop-i.i) c.from.ensures
    ∙ row-broken c.args.reading.rows c.loop-i.invariant.judging c.loop-i-test.true _ c.in-Err.ensures.told (λ e. omega arith)
