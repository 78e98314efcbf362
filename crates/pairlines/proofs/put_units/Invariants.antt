-- Whoever writes what the bytes that are left say has written the whole.
use Rattle.std.proofs.Common.{◌≡◌}
use Rattle.pairlines.proofs.NameLaws.{Spelled}
use Rattle.pairlines.proofs.put_units.Given as goal

abbrev pub invariant-loop-unit : goal.invariant-loop-unit
invariant-loop-unit l = (Spelled l.s l.fn.out l.at l.out l.p l.unit-iterator.rest.now) × (l.unit-iterator.size ≡ 2)
