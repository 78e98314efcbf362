use Rattle.listing.specs.Shown.{line_of, width_of}
use Rattle.listing.proofs.Walked.{Walked}
use Rattle.listing.proofs.lines.Given as goal

abbrev pub invariant-loop-n : goal.invariant-loop-n
invariant-loop-n l = Walked (line_of l.kind l.stream) (width_of l.kind) l.rows l.count l.initial.out l.at l.out l.p l.n
