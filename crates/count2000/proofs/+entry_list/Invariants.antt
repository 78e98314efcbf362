use Prim.Native.Nat.{◌+◌, ◌-◌}
use lib.ListN.{length}
use Rattle.count2000.proofs.Lists.{Listing}
use Rattle.count2000.proofs.+entry_list.Given as goal

-- how many bytes remain: an entry's list stands after its type, a list's entries nowhere before it
abbrev pub decreases-entry : goal.decreases-entry
decreases-entry l = (length l.s.now - l.at) + (length l.s.now - l.at)

abbrev pub decreases-list : goal.decreases-list
decreases-list l = (length l.s.now - l.at) + (length l.s.now - l.at) + 1

abbrev pub invariant-list-loop : goal.invariant-list-loop
invariant-list-loop l = Listing l.s l.left l.n l.at l.counter l.all
