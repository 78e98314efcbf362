use native.Mathlib.Omega.{arith}
use Rattle.csvrows.proofs.Turns.{controls-start, controls-few, controls-more, controls-done, controls_as}
use Rattle.csvrows.proofs.Steps.{control-short, part_as}
use Rattle.csvrows.proofs.put_controls.Goals as goal

pub loop-n-init : goal.loop-n-init
loop-n-init c = controls_as (controls-start c.requires.some_left c.requires.few) (omega arith)

pub put_owned-p-requires : goal.put_owned-p-requires
put_owned-p-requires c =
    record {
      ready = record { lent = c.requires.lent; few = controls-few c.loop-n.invariant (omega arith) c.get_control-control.ensures };
      short = control-short _ _ (omega (arith, c.loop-n.invariant.some_left));
    }

pub overflow_add-next : goal.overflow_add-next
overflow_add-next c =
    omega (arith, controls-few c.loop-n.invariant (omega arith) c.get_control-control.ensures)

pub loop-n-preserved : goal.loop-n-preserved
loop-n-preserved c =
    controls_as (controls-more c.loop-n.invariant (omega arith) c.get_control-control.ensures c.put_owned-p.ensures (part_as c.get_control-control.ensures c.args.stream.now c.args.rows.now _ _)) (omega arith)

pub returns : goal.returns
returns c = controls-done c.loop-n.invariant (omega arith)
