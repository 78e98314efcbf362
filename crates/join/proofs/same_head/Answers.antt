use mathlib.Core.Path.{sym, ◌∙◌}
use Rattle.join.proofs.HeadLaws.{other-count}
use Rattle.join.proofs.same_head.Goals as goal

pub returns-then-codes-byte_number : goal.returns-then-codes-byte_number
returns-then-codes-byte_number c =
    let one-layout = sym c.layout.ensures ∙ c.if-layout.false ∙ c.layout-2.ensures in
    sym (other-count _ _ one-layout (λ e. c.if-codes-byte_number.true (c.byte_number-codes.ensures.is ∙ e ∙ sym c.byte_number.ensures.is)))
