use Rattle.listing.proofs.InfoName.{Spelled}
use Rattle.listing.proofs.put_name_bytes.Given as goal

abbrev pub invariant-loop-b : goal.invariant-loop-b
invariant-loop-b l = Spelled l.s l.initial.out l.at l.out l.o l.b-index
