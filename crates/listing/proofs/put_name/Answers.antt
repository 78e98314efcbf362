use native.Mathlib.Omega.{arith}
use Rattle.listing.proofs.InfoName.{no_bytes, some_bytes}
use Rattle.listing.proofs.put_name.Goals as goal

pub returns-then-s-eq0 : goal.returns-then-s-eq0
returns-then-s-eq0 c = rw (no_bytes c.args.s.now (omega arith)) c.put_byte.ensures

pub returns-else-s-eq0 : goal.returns-else-s-eq0
returns-else-s-eq0 c = rw (some_bytes c.args.s.now (λ e. omega arith)) c.put_name_bytes.ensures
