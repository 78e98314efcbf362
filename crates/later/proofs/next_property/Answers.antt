use Rattle.std.proofs.Common.{arith}
use Rattle.countlater.proofs.PassedLaws.{extent_inside}
use Rattle.later.proofs.WriteGroupLaws.{inside-property}
use Rattle.later.proofs.next_property.Goals as goal

pub property_at-requires : goal.property_at-requires
property_at-requires c = inside-property _ _ _ c.in_ok-entry.ensures c.requires.inside c.requires.small

pub overflow_add-result : goal.overflow_add-result
overflow_add-result c = omega (arith, extent_inside c.in_ok-entry.ensures, c.requires.few)
