use Rattle.std.proofs.Common.{◌*◌, drop}
use Rattle.utf16.specs.Plain.{Skipped}
use Rattle.utf16.proofs.past_plain.Given as goal

abbrev pub invariant-loop-n : goal.invariant-loop-n
invariant-loop-n l = Skipped (drop l.start l.bytes) 0 (2 * l.n)
