use Rattle.std.proofs.Common.{arith}
use Rattle.numbers.proofs.Inside.{inside-room}
use Rattle.rewrite.proofs.after_type.Goals as goal

pub overflow_add-result : goal.overflow_add-result
overflow_add-result c = omega (arith, inside-room _ _ _ _ c.u16_if_inside.ensures c.in-Some.is)
