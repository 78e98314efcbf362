use Rattle.std.proofs.Common.{arith}
use Rattle.later.proofs.Visits.{next_is, writing_start, writing_done, writing_room, writing_more}
use Rattle.later.proofs.write_group.Goals as goal

pub loop-next-init : goal.loop-next-init
loop-next-init c = writing_start c.requires

pub overflow_add-first : goal.overflow_add-first
overflow_add-first c = omega (arith, writing_room c.requires.inside _ c.loop-next.invariant c.in-Some.ensures)

pub put_property-requires : goal.put_property-requires
put_property-requires c = writing_room c.requires.inside _ c.loop-next.invariant c.in-Some.ensures

pub loop-next-smaller : goal.loop-next-smaller
loop-next-smaller c = omega (arith, next_is _ c.in-Some.ensures)

pub loop-next-preserved : goal.loop-next-preserved
loop-next-preserved c = writing_more c.requires.inside _ c.loop-next.invariant c.in-Some.ensures c.put_property.ensures

pub returns : goal.returns
returns c = writing_done c.requires.inside _ c.loop-next.invariant c.in_default.ensures
