use Rattle.std.proofs.Common.{◌*◌}
use Rattle.utf16.specs.Plain.{Skipped}
use Rattle.utf16.proofs.past_fours.Given as goal

abbrev pub invariant-loop-n : goal.invariant-loop-n
invariant-loop-n l = Skipped l.bytes 0 (8 * l.n)
