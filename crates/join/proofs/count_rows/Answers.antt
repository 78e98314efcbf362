use Rattle.std.proofs.Common.{sym, arith}
use Rattle.join.proofs.RowLaws.{counted_none, counted-few, counted-all}
use Rattle.join.proofs.count_rows.Goals as goal

pub loop-a-init : goal.loop-a-init
loop-a-init c = counted_none c.requires

pub overflow_add-rows : goal.overflow_add-rows
overflow_add-rows c = omega (arith, counted-few c.loop-a.invariant)

pub returns : goal.returns
returns c = sym (counted-all c.loop-a.invariant (omega arith))
