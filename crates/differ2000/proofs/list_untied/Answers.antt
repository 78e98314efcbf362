use Rattle.std.proofs.Common.{arith}
use Rattle.differ2000.proofs.PropertyLaws.{inside, not_learnt, learnt}
use Rattle.differ2000.proofs.list_untied.Goals as goal

pub property-shown-requires : goal.property-shown-requires
property-shown-requires c = inside c.requires

pub returns-then-shown-ge-UNMAPPED : goal.returns-then-shown-ge-UNMAPPED
returns-then-shown-ge-UNMAPPED c = not_learnt c.requires c.property-shown.ensures _ (omega arith)

pub overflow_cast-from : goal.overflow_cast-from
overflow_cast-from c = omega (arith, c.requires.stored.few)

pub returns : goal.returns
returns c = learnt c.requires c.property-shown.ensures (omega arith) c.bit_or.ensures c.put_fit.ensures
