use Rattle.csvtext.proofs.Spelling.{SpellsLeft}
use Rattle.showtext.specs.Shown.{spelled}
use Rattle.showtext.proofs.put_letters.Given as goal

abbrev pub invariant-loop-unit : goal.invariant-loop-unit
invariant-loop-unit l = SpellsLeft spelled l.bytes l.initial.out l.at l.out l.p l.unit-index l.high
