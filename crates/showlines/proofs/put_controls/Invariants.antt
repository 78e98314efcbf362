use Rattle.std.proofs.Common.{◌-◌}
use Rattle.csvrows.proofs.Turns.{ControlsLeft}
use Rattle.showlines.specs.Rows.{control_text}
use Rattle.showlines.proofs.put_controls.Given as goal

abbrev pub invariant-loop-n : goal.invariant-loop-n
invariant-loop-n l =
    ControlsLeft (control_text l.table l.stream l.fn.counts.reading l.rows) l.controls l.fn.counts.controls l.fn.counts.own
    l.fn.out l.fn.at l.out l.p l.n (l.fn.counts.controls - l.n) l.next
