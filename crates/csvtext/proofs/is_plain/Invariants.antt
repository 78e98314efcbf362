use Rattle.std.proofs.Common.{◌≡◌, ◌*◌, drop}
use Rattle.csvtext.proofs.UnitLaws.{data_from}
use Rattle.csvtext.proofs.is_plain.Given as goal

-- the units that are left decide
abbrev pub invariant-loop-unit : goal.invariant-loop-unit
invariant-loop-unit l = data_from 0 (drop 0 l.bytes) ≡ data_from l.high (drop (2 * l.unit-index) l.bytes)
