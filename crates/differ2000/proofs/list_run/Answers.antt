use Rattle.std.proofs.Common.{refl, arith}
use Rattle.form2000.proofs.Visits.{run-stop}
use Rattle.shown2000.proofs.NextLaws.{next_goes, next_ends}
use Rattle.differ2000.proofs.RunLaws.{listed_start, listed-few, listed-ready, listed-on}
use Rattle.differ2000.proofs.list_run.Goals as goal

pub loop-p-init : goal.loop-p-init
loop-p-init c = record { listed = listed_start c.requires; same = refl }

pub list_property-listed-requires : goal.list_property-listed-requires
list_property-listed-requires c = listed-ready c.loop-p.invariant.listed (next_goes c.stored_at.ensures c.in-Some.is) c.requires

pub overflow_add-here : goal.overflow_add-here
overflow_add-here c = omega (arith, (next_goes c.stored_at.ensures c.in-Some.is).inside, c.requires.small)

pub overflow_add-here-in-Some : goal.overflow_add-here-in-Some
overflow_add-here-in-Some c = omega (arith, listed-few c.loop-p.invariant.listed (next_goes c.stored_at.ensures c.in-Some.is))

pub loop-p-smaller : goal.loop-p-smaller
loop-p-smaller c =
    let g = next_goes c.stored_at.ensures c.in-Some.is in
    omega (arith, g.ahead, g.inside)

pub loop-p-preserved : goal.loop-p-preserved
loop-p-preserved c = record {
  listed = listed-on c.loop-p.invariant.listed (next_goes c.stored_at.ensures c.in-Some.is) c.list_property-listed.ensures;
  same = c.loop-p.invariant.same;
}

pub returns : goal.returns
returns c = record {
  is = rw c.loop-p.invariant.same at (run-stop c.loop-p.invariant.listed.goes (next_ends _ _ _ c.stored_at.ensures c.in_default.is c.loop-p.invariant.listed.goes.rest.ok));
}
