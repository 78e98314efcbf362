use Rattle.csvread.proofs.WriteLaws.{Writing}
use Rattle.csvread.proofs.write.Given as goal

abbrev pub invariant-loop-b : goal.invariant-loop-b
invariant-loop-b l = Writing l.text l.initial.rows l.initial.out l.fields l.b-index l.p l.start l.rows l.out
