use Rattle.std.proofs.Common.{take}
use Rattle.text.specs.Writer.{Wrote}
use Rattle.difflist.specs.Lines.{spaced}
use Rattle.difflist.proofs.put_words.Given as goal

abbrev pub invariant-loop-word : goal.invariant-loop-word
invariant-loop-word l = Wrote l.fn.out l.at (spaced (take l.word-index l.words)) l.out l.p
