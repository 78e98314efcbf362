use Rattle.std.proofs.Common.{◌≡◌, ◌*◌, ◌-◌, length, drop}
use Rattle.csvtext.proofs.UnitLaws.{text_from}
use Rattle.csvtext.proofs.doubled_left.Given as goal

-- what the units that are left still take
abbrev pub invariant-loop-unit : goal.invariant-loop-unit
invariant-loop-unit l = l.left - length (text_from l.high (drop (2 * l.unit-index) l.bytes)) ≡ l.room - length (text_from 0 l.bytes)
