use Rattle.std.proofs.Common.{◌+◌, ◌≤◌, length}
use Rattle.text.proofs.Remains.{Remains}
use Rattle.text.proofs.copy.Given as goal

abbrev pub invariant-loop-piece : goal.invariant-loop-piece
invariant-loop-piece l = record {
  room : l.o + length l.rest ≤ length l.out;
  remains : Remains l.initial.out l.at l.s l.out l.o l.rest;
}

abbrev pub decreases-loop-piece : goal.decreases-loop-piece
decreases-loop-piece l = length l.rest
