use native.Mathlib.Omega.{arith}
use Rattle.fields.proofs.Fields.{top, inside}
use Rattle.fields.proofs.put_parent.Goals as goal

pub returns-then-parent-eq-NO_PARENT : goal.returns-then-parent-eq-NO_PARENT
returns-then-parent-eq-NO_PARENT c =
    rw (top c.args.parent (omega arith)) c.put_byte.ensures

pub returns-else-parent-eq-NO_PARENT : goal.returns-else-parent-eq-NO_PARENT
returns-else-parent-eq-NO_PARENT c =
    rw (inside c.args.parent (λ e. omega arith)) c.put_decimal.ensures
