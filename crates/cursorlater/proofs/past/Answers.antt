use Rattle.std.proofs.Common.{arith}
use Rattle.cursorlater.proofs.StepLaws.{count_small}
use Rattle.cursorlater.proofs.past.Goals as goal

pub overflow_cast-below : goal.overflow_cast-below
overflow_cast-below c = omega (arith, count_small _ _ _ c.in-Some.ensures (λ i. (c.type_inv.s i).fits))
