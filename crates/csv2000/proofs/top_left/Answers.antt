use Rattle.std.proofs.Common.{ℕ, ◌<◌, ◌∙◌, refl, arith}
use lib.ListN.{length-replicate}
use Rattle.form2000.proofs.Visits.{top-stop, top_asks, its, entry-there, top_past, top_less, top-next}
use Rattle.csv2000.proofs.RunRoom.{going_start}
use Rattle.csv2000.proofs.top_left.Goals as goal

pub loop-c-init : goal.loop-c-init
loop-c-init c = record { going = going_start _ (length-replicate {A = ℕ} 512 0) c.requires c.top.ensures c.reported-c.ensures; same = refl }

pub node_left-e-requires : goal.node_left-e-requires
node_left-e-requires c =
    let l : 0 < c.loop-c.c.left = omega arith in
    rw c.loop-c.invariant.same (record { known = c.requires.known; inside = (its c.loop-c.invariant.going l).inside; there = entry-there c.loop-c.invariant.going l; lent = c.requires.lent })

pub past-requires : goal.past-requires
past-requires c = top_past c.loop-c.invariant.going (omega arith) (rw c.loop-c.invariant.same at c.node_left-e.ensures.left)

pub overflow_add-i : goal.overflow_add-i
overflow_add-i c = top_asks c.loop-c.invariant.going (omega arith) (λ _ h. omega (arith, h))

pub loop-c-smaller : goal.loop-c-smaller
loop-c-smaller c = top_less c.loop-c.invariant.going (omega arith) (rw c.loop-c.invariant.same at c.node_left-e.ensures.left) _ c.past.ensures c.reported-c-in-loop-c.ensures

pub loop-c-preserved : goal.loop-c-preserved
loop-c-preserved c = record {
  going = top-next c.loop-c.invariant.going (omega arith) (rw c.loop-c.invariant.same at c.node_left-e.ensures.left) _ c.past.ensures c.reported-c-in-loop-c.ensures;
  same = c.node_left-e.ensures.same ∙ c.loop-c.invariant.same;
}

pub returns : goal.returns
returns c = record { next = _; is = top-stop c.loop-c.invariant.going (omega arith) }
