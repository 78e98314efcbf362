use Rattle.rules.specs.Rows.{difference_width}
use Rattle.listing.proofs.Walked.{Walked}
use Rattle.difflist.specs.Lines.{difference_line}
use Rattle.difflist.proofs.difference_lines.Given as goal

abbrev pub invariant-loop-n : goal.invariant-loop-n
invariant-loop-n l = Walked (difference_line l.controls) difference_width l.rows l.count l.fn.out l.at l.out l.p l.n
