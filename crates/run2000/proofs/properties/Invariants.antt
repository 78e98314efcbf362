use Rattle.std.proofs.Common.{length, ◌-◌}
use Rattle.coderows.specs.Look.{body_rows}
use Rattle.run2000.specs.Runs.{shown_in}
use Rattle.run2000.proofs.RunSteps.{Keeps}
use Rattle.run2000.proofs.properties.Given as goal

-- what is left to write, and the name in what is left, are those of the run
abbrev pub invariant-loop-p : goal.invariant-loop-p
invariant-loop-p l = Keeps (shown_in (body_rows l.table l.body) l.s) l.s l.at l.initial.rows l.first l.wanted l.rows l.p l.n l.naming

abbrev pub decreases-loop-p : goal.decreases-loop-p
decreases-loop-p l = length l.s - l.p
