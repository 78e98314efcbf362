use mathlib.Core.Path.{sym, ap, ◌∙◌}
use Rattle.csvread.specs.Places.{place_after, counted_as}
use Rattle.csvread.proofs.CountLaws.{count-on, count-refused, count-end}
use Rattle.csvread.proofs.count.Goals as goal

pub returns-in_err-p : goal.returns-in_err-p
returns-in_err-p c =
    let e = sym (ap (place_after c.loop-b.p) c.step-s.ensures) ∙ sym c.place_after.ensures ∙ c.in_err-p.was in
    c.from_residual.ensures ∙ ap counted_as (sym (count-refused c.loop-b.invariant c.loop-b-test.true e))

pub loop-b-preserved : goal.loop-b-preserved
loop-b-preserved c =
    let e = sym (ap (place_after c.loop-b.p) c.step-s.ensures) ∙ sym c.place_after.ensures ∙ c.in_ok-p.was in
    count-on c.loop-b.invariant _ c.loop-b-test.true e

pub returns : goal.returns
returns c = c.end.ensures ∙ ap counted_as (sym (count-end c.loop-b.invariant c.loop-b-test.false))
