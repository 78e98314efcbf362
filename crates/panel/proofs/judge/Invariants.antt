-- The rows from `i` on decide; those before it name bytes of the stream, and are marked.
use Rattle.panel.proofs.MarkLaws.{Marking}
use Rattle.panel.proofs.judge.Given as goal

abbrev pub invariant-loop-i : goal.invariant-loop-i
invariant-loop-i l = Marking l.reading.stream.now l.reading.controls.now l.reading.properties.now l.reading.count l.i l.marks
