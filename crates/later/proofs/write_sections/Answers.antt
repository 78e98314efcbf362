use Rattle.std.proofs.Common.{arith, ℕ}
use Rattle.std.proofs.lemmas.List.{length-replicate}
use Rattle.later.proofs.Walking.{going_start, going-small, going_done, going-inside, going-group, going-row, going-adds, going_past, going_less, going_next}
use Rattle.later.proofs.write_sections.Goals as goal

pub loop-c-init : goal.loop-c-init
loop-c-init c = going_start (length-replicate {A = ℕ} 512 0) c.requires c.top.ensures c.reported-c.ensures

pub overflow_add-c : goal.overflow_add-c
overflow_add-c c = omega (arith, going-inside c.loop-c.invariant c.loop-c-test.true, going-small c.loop-c.invariant)

pub write_group-w-requires : goal.write_group-w-requires
write_group-w-requires c = going-group c.loop-c.invariant c.loop-c-test.true

pub overflow_add-end : goal.overflow_add-end
overflow_add-end c = omega (arith, going-adds c.loop-c.invariant c.loop-c-test.true c.write_group-w.ensures)

pub node_name-requires : goal.node_name-requires
node_name-requires c = omega (arith, going-adds c.loop-c.invariant c.loop-c-test.true c.write_group-w.ensures)

pub overflow_cast-w : goal.overflow_cast-w
overflow_cast-w c = omega (arith, going-adds c.loop-c.invariant c.loop-c-test.true c.write_group-w.ensures)

pub put_control-requires : goal.put_control-requires
put_control-requires c = going-row c.loop-c.invariant c.loop-c-test.true

pub past-requires : goal.past-requires
past-requires c = going_past c.loop-c.invariant c.loop-c-test.true c.write_group-w.ensures

pub loop-c-smaller : goal.loop-c-smaller
loop-c-smaller c =
    going_less c.loop-c.invariant c.loop-c-test.true c.write_group-w.ensures c.u16_at.ensures c.node_name.ensures c.control_row-row.ensures c.put_control.ensures
    _ _ _ c.past.ensures c.reported-c-in-loop-c.ensures

pub loop-c-preserved : goal.loop-c-preserved
loop-c-preserved c =
    going_next c.loop-c.invariant c.loop-c-test.true c.write_group-w.ensures c.u16_at.ensures c.node_name.ensures c.control_row-row.ensures c.put_control.ensures
    _ _ _ c.past.ensures c.reported-c-in-loop-c.ensures

pub returns : goal.returns
returns c = going_done c.loop-c.invariant c.loop-c-test.false
