use Rattle.std.proofs.Common.{arith}
use mathlib.Core.Path.{ap, ◌∙◌}
use Rattle.std.proofs.Common as code
use Rattle.walk2000.proofs.Inverse.{opens_listed}
use Rattle.cursor2000.proofs.StepLaws.{count_small}
use Rattle.cursor2000.proofs.past.Goals as goal

pub overflow_cast-count : goal.overflow_cast-count
overflow_cast-count c =
    omega (arith, count_small c.args.s.now (λ i. (c.type_inv.s i).fits) _ _ _ (opens_listed _ _ _ _ c.head.ensures (c.in-Some-Listed.is ∙ ap code.Some c.in-Some-Listed.field-0-is)))
