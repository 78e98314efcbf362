use Rattle.std.proofs.Common.{arith}
use mathlib.Core.Path.{ap, ◌∙◌}
use Rattle.std.proofs.Common as code
use Rattle.walk2000.proofs.Inverse.{opens_listed}
use Rattle.rewrite.proofs.OpeningLaws.{many_spells}
use Rattle.rewrite.proofs.opening.Goals as goal

pub returns-else-count-eq1 : goal.returns-else-count-eq1
returns-else-count-eq1 c =
    let l = opens_listed _ _ _ _ c.head.ensures (c.in-Some-Listed.is ∙ ap code.Some c.in-Some-Listed.field-0-is) in
    many_spells _ (λ i. (c.type_inv.s i).fits) _ c.requires.at_value l c.after_type-end.ensures (λ e. omega arith)
