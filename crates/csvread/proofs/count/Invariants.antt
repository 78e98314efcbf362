use Rattle.csvread.proofs.CountLaws.{Counting}
use Rattle.csvread.proofs.count.Given as goal

abbrev pub invariant-loop-b : goal.invariant-loop-b
invariant-loop-b l = Counting l.text l.b-index l.p
