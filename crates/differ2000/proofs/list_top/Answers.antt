use Rattle.std.proofs.Common.{ℕ, ◌∙◌, refl, arith}
use lib.ListN.{length-replicate}
use Rattle.form2000.proofs.Visits.{top-all, top-stop, top_past, top_less, top-next}
use Rattle.differ2000.proofs.Walking.{going_start, going-ready, going-few, going_done}
use Rattle.differ2000.proofs.list_top.Goals as goal

pub loop-c-init : goal.loop-c-init
loop-c-init c = record { going = going_start _ (length-replicate {A = ℕ} 512 0) c.requires c.top.ensures c.reported-c.ensures; same = record { older-same = refl; newer-same = refl } }

pub list_node-e-requires : goal.list_node-e-requires
list_node-e-requires c = rw (c.loop-c.invariant.same.older-same, c.loop-c.invariant.same.newer-same) (going-ready c.loop-c.invariant.going (omega arith) c.requires.known)

pub past-requires : goal.past-requires
past-requires c =
    top_past c.loop-c.invariant.going.goes (omega arith) (rw (c.loop-c.invariant.same.older-same, c.loop-c.invariant.same.newer-same) at c.list_node-e.ensures.listed.is)

pub overflow_add-control : goal.overflow_add-control
overflow_add-control c = omega (arith, going-few c.loop-c.invariant.going (omega arith))

pub loop-c-smaller : goal.loop-c-smaller
loop-c-smaller c =
    top_less c.loop-c.invariant.going.goes (omega arith) (rw (c.loop-c.invariant.same.older-same, c.loop-c.invariant.same.newer-same) at c.list_node-e.ensures.listed.is) _ c.past.ensures c.reported-c-in-loop-c.ensures

pub loop-c-preserved : goal.loop-c-preserved
loop-c-preserved c = record {
  going = record {
    goes = top-next c.loop-c.invariant.going.goes (omega arith) (rw (c.loop-c.invariant.same.older-same, c.loop-c.invariant.same.newer-same) at c.list_node-e.ensures.listed.is) _ c.past.ensures c.reported-c-in-loop-c.ensures;
  };
  same = record {
    older-same = c.list_node-e.ensures.same.older-same ∙ c.loop-c.invariant.same.older-same;
    newer-same = c.list_node-e.ensures.same.newer-same ∙ c.loop-c.invariant.same.newer-same;
  };
}

pub returns : goal.returns
returns c = going_done (top-all _ _ _ _ c.top.ensures c.reported-c.ensures) (top-stop c.loop-c.invariant.going.goes (omega arith))
