use Rattle.std.proofs.Common.{arith}
use Rattle.totals.proofs.SumLaws.{adding_start, adding_small, adding_more, adding_all}
use Rattle.totals.proofs.add_all.Goals as goal

pub loop-i-init : goal.loop-i-init
loop-i-init c = adding_start c.requires.0 c.requires.1

pub overflow_add-into : goal.overflow_add-into
overflow_add-into c = omega (arith, adding_small c.loop-i.invariant (omega arith))

pub loop-i-preserved : goal.loop-i-preserved
loop-i-preserved c = adding_more c.loop-i.invariant (omega arith)

pub returns : goal.returns
returns c = adding_all c.loop-i.invariant (omega arith) (omega arith)
