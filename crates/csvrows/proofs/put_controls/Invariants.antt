use Rattle.std.proofs.Common.{◌-◌}
use Rattle.csvrows.specs.Rows.{control_text}
use Rattle.csvrows.proofs.Turns.{ControlsLeft}
use Rattle.csvrows.proofs.put_controls.Given as goal

abbrev pub invariant-loop-n : goal.invariant-loop-n
invariant-loop-n l = ControlsLeft (control_text l.stream l.rows) l.controls l.count l.first l.initial.out l.at l.out l.p l.n (l.count - l.n) l.next
