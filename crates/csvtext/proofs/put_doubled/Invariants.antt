use Rattle.csvtext.specs.Units.{doubled_of}
use Rattle.csvtext.proofs.Spelling.{SpellsLeft}
use Rattle.csvtext.proofs.put_doubled.Given as goal

abbrev pub invariant-loop-unit : goal.invariant-loop-unit
invariant-loop-unit l = SpellsLeft doubled_of l.bytes l.initial.out l.at l.out l.p l.unit-index l.high
