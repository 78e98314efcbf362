use Rattle.std.proofs.Common.{◌+◌, ◌-◌, length, ap, ◌∙◌, refl, arith}
use Rattle.rules.specs.Reading.{property_row}
use Rattle.form2000.proofs.Visits.{run-stop, run_on}
use Rattle.shown2000.proofs.NextLaws.{next_goes, next_ends}
use Rattle.csvrecord.specs.Parts.{tail_text}
use Rattle.csv2000.proofs.RunRoom.{taking_start}
use Rattle.csv2000.proofs.run_left.Goals as goal

pub loop-q-init : goal.loop-q-init
loop-q-init c = taking_start c.args.owner c.requires

pub property-shown-requires : goal.property-shown-requires
property-shown-requires c =
    let g = next_goes c.stored_at.ensures c.in-Some.is in
    record { small = c.requires.small; sorted = c.requires.sorted; inside = g.inside; sized = g.sized }

pub record_left-left-requires : goal.record_left-left-requires
record_left-left-requires c = c.requires.lent

pub overflow_add-p : goal.overflow_add-p
overflow_add-p c = omega (arith, (next_goes c.stored_at.ensures c.in-Some.is).inside, c.requires.small)

pub loop-q-smaller : goal.loop-q-smaller
loop-q-smaller c =
    let g = next_goes c.stored_at.ensures c.in-Some.is in
    omega (arith, g.ahead, g.inside)

pub loop-q-preserved : goal.loop-q-preserved
loop-q-preserved c =
    let g = next_goes c.stored_at.ensures c.in-Some.is in
    run_on c.loop-q.invariant g.on refl g.told
    (rw g.id-is (c.record_left-left.ensures ∙ ap (λ q. c.loop-q.left - (c.args.owner + length (tail_text c.args.s.now (property_row q)))) c.property-shown.ensures))

pub returns : goal.returns
returns c = run-stop c.loop-q.invariant (next_ends _ _ _ c.stored_at.ensures c.in_default.is c.loop-q.invariant.rest.ok)
