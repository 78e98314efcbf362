-- From `end` on the search would stop at the same place.
use Rattle.std.proofs.Common.{◌≡◌, ◌+◌, drop}
use Rattle.rules.specs.TypeInfo.{before_nul}
use Rattle.typeinfo.proofs.nul_from.Given as goal

abbrev pub invariant-loop-i : goal.invariant-loop-i
invariant-loop-i l = (l.end ≡ l.i) × (l.i + before_nul (drop l.i l.s) ≡ l.start + before_nul (drop l.start l.s))
