use Rattle.std.proofs.Common.{◌≡◌, ◌+◌, ◌-◌, arith}
use Rattle.text.proofs.Chain.{◌⨟◌}
use Rattle.csvrows.proofs.Turns.{controls-start, controls-few, controls-more, controls-done}
use Rattle.showlines.proofs.Steps.{part_as}
use Rattle.showlines.proofs.put_controls.Goals as goal

pub loop-n-init : goal.loop-n-init
loop-n-init c =
    let e : c.args.counts.controls - 0 ≡ c.args.counts.controls = omega arith in
    rw e (controls-start c.requires.some_left c.requires.few)

pub put_rows-p-requires : goal.put_rows-p-requires
put_rows-p-requires c =
    record { lent = c.requires.lent; few = controls-few c.loop-n.invariant (omega arith) c.get_control-control.ensures }

pub overflow_add-next : goal.overflow_add-next
overflow_add-next c = let h = controls-few c.loop-n.invariant (omega arith) c.get_control-control.ensures in omega arith

pub loop-n-preserved : goal.loop-n-preserved
loop-n-preserved c =
    let a = c.args in
    let l = c.loop-n in
    let e : a.counts.controls - (l.n + 1) ≡ a.counts.controls - l.n - 1 = omega arith in
    rw e
    (controls-more l.invariant (omega arith) c.get_control-control.ensures (c.control_line-p.ensures ⨟ c.put_rows-p.ensures)
    (part_as c.get_control-control.ensures a.table.now a.stream.now a.counts.reading a.rows.now _ _ c.control_owner-owner.ensures))

pub returns : goal.returns
returns c = controls-done c.loop-n.invariant (omega arith)
