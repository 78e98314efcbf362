use Rattle.std.proofs.Common.{◌*◌, drop}
use Rattle.text.proofs.Remains.{Remains}
use Rattle.csvtext.specs.Units.{lows}
use Rattle.csvtext.proofs.put_lows_each.Given as goal

abbrev pub invariant-loop-unit : goal.invariant-loop-unit
invariant-loop-unit l = Remains l.initial.out l.at (lows l.bytes) l.out l.p (lows (drop (2 * l.unit-index) l.bytes))
