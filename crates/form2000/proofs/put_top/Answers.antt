use Prim.Native.Nat.{ℕ}
use Rattle.std.proofs.Common.{arith}
use lib.ListN.{length-replicate}
use Rattle.form2000.proofs.Walking.{going_start, going-ready, going-low, going-small, going_past, going_less, going_next, going_done}
use Rattle.form2000.proofs.put_top.Goals as goal

pub loop-c-init : goal.loop-c-init
loop-c-init c = going_start _ (length-replicate {A = ℕ} 512 0) c.requires c.top.ensures c.reported-c.ensures

pub overflow_cast-nesting : goal.overflow_cast-nesting
overflow_cast-nesting c = omega (arith, going-low c.loop-c.invariant c.loop-c-test.true)

pub put_node-e-requires : goal.put_node-e-requires
put_node-e-requires c = going-ready c.loop-c.invariant c.loop-c-test.true

pub overflow_cast-next : goal.overflow_cast-next
overflow_cast-next c = omega (arith, going-small c.loop-c.invariant c.loop-c-test.true)

pub past-requires : goal.past-requires
past-requires c = going_past c.loop-c.invariant c.loop-c-test.true c.put_node-e.ensures

pub loop-c-smaller : goal.loop-c-smaller
loop-c-smaller c = going_less c.loop-c.invariant c.loop-c-test.true c.put_node-e.ensures _ c.past.ensures c.reported-c-in-loop-c.ensures

pub loop-c-preserved : goal.loop-c-preserved
loop-c-preserved c = going_next c.loop-c.invariant c.loop-c-test.true c.put_node-e.ensures _ c.past.ensures c.reported-c-in-loop-c.ensures

pub returns : goal.returns
returns c = going_done c.loop-c.invariant c.loop-c-test.false
