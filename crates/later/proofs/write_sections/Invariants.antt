use Rattle.rules.specs.Tree.{levels}
use Rattle.rules.specs.Later.{nodes_at}
use Rattle.rows.specs.Acts.{top_nodes}
use Rattle.rows.specs.Writing.{state}
use Rattle.cursor.proofs.RowLaws.{left, how_many}
use Rattle.cursorlater.specs.Steps.{step_at}
use Rattle.later.proofs.Walking.{Going}
use Rattle.later.proofs.write_sections.Given as goal

abbrev pub invariant-loop-c : goal.invariant-loop-c
invariant-loop-c l = Going l.s (top_nodes (nodes_at levels l.s l.n l.at)) (state l.fn.controls 0 l.fn.properties l.property) l.stack l.c (state l.controls l.i l.properties l.j)

abbrev pub decreases-loop-c : goal.decreases-loop-c
decreases-loop-c l = how_many (left (step_at l.s) l.i l.stack l.c)
