use Rattle.std.proofs.Common.{arith, ℕ}
use Rattle.std.proofs.lemmas.List.{length-replicate}
use Rattle.later.proofs.Visits.{node-inside, top-stop, top_past, top_less, top-next}
use Rattle.tallylater.proofs.GroupLaws.{going_start, node-counted}
use Rattle.tallylater.proofs.count_sections.Goals as goal

pub loop-c-init : goal.loop-c-init
loop-c-init c = going_start _ (length-replicate {A = ℕ} 512 0) c.requires c.top.ensures c.reported-c.ensures

pub overflow_add-c : goal.overflow_add-c
overflow_add-c c = omega (arith, node-inside c.loop-c.invariant c.loop-c-test.true, c.requires.small)

pub past-requires : goal.past-requires
past-requires c = top_past c.loop-c.invariant c.loop-c-test.true c.count_group-g.ensures.group-is

pub loop-c-smaller : goal.loop-c-smaller
loop-c-smaller c = top_less c.loop-c.invariant c.loop-c-test.true c.count_group-g.ensures.group-is (node-counted c.count_group-g.ensures c.u16_at.ensures c.count_type.ensures) _ c.past.ensures c.reported-c-in-loop-c.ensures

pub loop-c-preserved : goal.loop-c-preserved
loop-c-preserved c = top-next c.loop-c.invariant c.loop-c-test.true c.count_group-g.ensures.group-is (node-counted c.count_group-g.ensures c.u16_at.ensures c.count_type.ensures) _ c.past.ensures c.reported-c-in-loop-c.ensures

pub returns : goal.returns
returns c = record { next = _; is = top-stop c.loop-c.invariant c.loop-c-test.false }
