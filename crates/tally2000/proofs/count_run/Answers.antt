use Rattle.std.proofs.Common.{true, ap, ◌∙◌, refl, arith}
use Rattle.form2000.proofs.Visits.{run-stop, run_on}
use Rattle.shown2000.proofs.NextLaws.{next_goes, next_ends}
use Rattle.tally.specs.Places.{bumps, property_places}
use Rattle.tally2000.proofs.RunLaws.{counting-start}
use Rattle.tally2000.proofs.count_run.Goals as goal

pub loop-q-init : goal.loop-q-init
loop-q-init c = counting-start c.requires

pub property-requires : goal.property-requires
property-requires c =
    let g = next_goes c.stored_at.ensures c.in-Some.is in
    record { small = c.requires.small; sorted = c.requires.sorted; inside = g.inside; sized = g.sized }

pub overflow_add-p : goal.overflow_add-p
overflow_add-p c = omega (arith, (next_goes c.stored_at.ensures c.in-Some.is).inside, c.requires.small)

pub loop-q-smaller : goal.loop-q-smaller
loop-q-smaller c =
    let g = next_goes c.stored_at.ensures c.in-Some.is in
    omega (arith, g.ahead, g.inside)

pub loop-q-preserved : goal.loop-q-preserved
loop-q-preserved c =
    let g = next_goes c.stored_at.ensures c.in-Some.is in
    run_on c.loop-q.invariant g.on refl g.told (rw g.id-is (c.count_property.ensures ∙ ap (λ x. bumps c.loop-q.words (property_places true x)) c.property.ensures))

pub returns : goal.returns
returns c = run-stop c.loop-q.invariant (next_ends _ _ _ c.stored_at.ensures c.in_default.is c.loop-q.invariant.rest.ok)
