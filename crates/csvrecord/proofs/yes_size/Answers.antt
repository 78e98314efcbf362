use native.Mathlib.Omega.{arith}
use mathlib.Core.Path.{sym, ap}
use lib.ListN.{length}
use Rattle.values.proofs.Marks.{is-no, is-yes}
use Rattle.csvrecord.proofs.yes_size.Goals as goal

pub returns-then-low-eq0 : goal.returns-then-low-eq0
returns-then-low-eq0 c =
    sym (ap length (is-no c.args.low (omega arith)))

pub returns-else-low-eq0 : goal.returns-else-low-eq0
returns-else-low-eq0 c =
    sym (ap length (is-yes c.args.low (λ e. omega arith)))
