use Rattle.std.proofs.Common.{arith}
use Rattle.countlater.proofs.PassedLaws.{extent_inside, passed_none, passed_last, passed_more}
use Rattle.countlater.proofs.parse_group.Goals as goal

pub returns-then-ends_group : goal.returns-then-ends_group
returns-then-ends_group c = passed_last c.requires c.loop-property.invariant c.in-Some.ensures c.if-ends_group.ensures

pub loop-property-smaller : goal.loop-property-smaller
loop-property-smaller c = omega (arith, extent_inside c.in-Some.ensures)

pub loop-property-preserved : goal.loop-property-preserved
loop-property-preserved c = passed_more c.requires c.loop-property.invariant c.in-Some.ensures c.if-ends_group.ensures

pub returns : goal.returns
returns c = passed_none c.requires c.loop-property.invariant c.in_default.ensures
