use native.Mathlib.Omega.{arith}
use Rattle.fields.proofs.Fields.{no_name, a_name}
use Rattle.fields.proofs.put_name.Goals as goal

pub returns-then-name-eq0 : goal.returns-then-name-eq0
returns-then-name-eq0 c =
    rw (no_name c.args.name.now (omega arith)) c.put_byte.ensures

pub returns-else-name-eq0 : goal.returns-else-name-eq0
returns-else-name-eq0 c =
    rw (a_name c.args.name.now (λ e. omega arith)) c.put_text.ensures
