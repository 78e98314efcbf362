use Rattle.std.proofs.Common.{arith, length, ap, ◌+◌, ◌-◌, ◌∙◌}
use Rattle.rules.specs.Reading.{property_row}
use Rattle.later.proofs.Visits.{next_is, grouping_done, grouping_more}
use Rattle.csvrecord.specs.Parts.{tail_text}
use Rattle.csvlater.proofs.GroupRoom.{taking_start}
use Rattle.csvlater.proofs.group_left.Goals as goal

pub loop-next-init : goal.loop-next-init
loop-next-init c = taking_start c.args.owner

pub loop-next-smaller : goal.loop-next-smaller
loop-next-smaller c = omega (arith, next_is _ c.in-Some.ensures)

pub loop-next-preserved : goal.loop-next-preserved
loop-next-preserved c =
    grouping_more c.requires.inside _ c.loop-next.invariant c.in-Some.ensures
    (c.record_left-left.ensures ∙ ap (λ q. c.loop-next.left - (c.args.owner + length (tail_text c.args.s.now (property_row q)))) (next_is _ c.in-Some.ensures).property-is)

pub returns : goal.returns
returns c = grouping_done c.requires.inside _ c.loop-next.invariant c.in_default.ensures
