use Rattle.std.proofs.Common.{◌≡◌, ◌*◌, drop, false}
use Rattle.rules.specs.Utf16.{paired}
use Rattle.utf16.proofs.is_utf16.Given as goal

-- what is left decides, the unit before it being `pending`
abbrev pub invariant-loop-unit : goal.invariant-loop-unit
invariant-loop-unit l = paired false l.bytes ≡ paired l.pending (drop (2 * l.unit-index) (drop l.start l.bytes))
