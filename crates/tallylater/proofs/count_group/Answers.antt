use Rattle.std.proofs.Common.{arith, false, ap, ◌∙◌}
use Rattle.later.proofs.Visits.{next_is, grouping_done, grouping_more}
use Rattle.tally.specs.Places.{bumps, property_places}
use Rattle.tallylater.proofs.GroupLaws.{counting-start}
use Rattle.tallylater.proofs.count_group.Goals as goal

pub loop-next-init : goal.loop-next-init
loop-next-init c = counting-start

pub loop-next-smaller : goal.loop-next-smaller
loop-next-smaller c = omega (arith, next_is _ c.in-Some.ensures)

pub loop-next-preserved : goal.loop-next-preserved
loop-next-preserved c =
    grouping_more c.requires.inside _ c.loop-next.invariant c.in-Some.ensures
    (c.count_property.ensures ∙ ap (λ q. bumps c.loop-next.words (property_places false q)) (next_is _ c.in-Some.ensures).property-is)

pub returns : goal.returns
returns c = grouping_done c.requires.inside _ c.loop-next.invariant c.in_default.ensures
