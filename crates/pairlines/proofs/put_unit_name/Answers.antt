-- No unit is a dash.
use native.Mathlib.Omega.{arith}
use Rattle.pairlines.proofs.NameLaws.{no_units, some_units}
use Rattle.pairlines.proofs.put_unit_name.Goals as goal

pub returns-then-s-lt2 : goal.returns-then-s-lt2
returns-then-s-lt2 c = rw (no_units c.args.s.now (omega arith)) c.put_byte.ensures

pub returns-else-s-lt2 : goal.returns-else-s-lt2
returns-else-s-lt2 c = rw (some_units c.args.s.now (omega arith)) c.put_units.ensures
