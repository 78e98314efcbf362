use Rattle.std.proofs.Common.{◌∙◌, arith}
use Rattle.rules.proofs.Access2000Laws.{past_end}
use Rattle.walk2000.proofs.Runs.{starts, stops, ends}
use Rattle.run2000.specs.Runs.{RunFits}
use Rattle.run2000.proofs.Shows.{shown-six}
use Rattle.run2000.proofs.Sizes.{value-sized}
use Rattle.run2000.proofs.RunSteps.{keeps_stop, left-start, left_bad, left-room, left-more, named_start, named_more, named_past}
use Rattle.run2000.proofs.properties.Goals as goal
use Rattle.run2000.proofs.properties.Goals.{then-q-gt-LAST_SIZED_ID, else-q-gt-LAST_SIZED_ID, then-loop-p-test+else-s-p-le-LAST_ID, else-loop-p-test}

pub loop-p-init : goal.loop-p-init
loop-p-init c = record { left = left-start c.requires.fits; named = named_start (RunFits c.args.rows.now c.args.first) c.requires.fits }

pub returns-in_default : goal.returns-in_default
returns-in_default c = absurd (left_bad c.loop-p.invariant.left (starts _ _ (omega arith) (omega arith)) c.value.ensures c.in_default.is)

pub property-shown-requires : goal.property-shown-requires
property-shown-requires c = record {
  small = c.requires.small;
  sorted = c.requires.sorted;
  inside = (ends _ _ _ _ c.value.ensures c.in-Some.is).1;
  sized = value-sized _ _ _ _ c.value.ensures c.in-Some.is;
}

pub next_name-naming-requires : goal.next_name-naming-requires
next_name-naming-requires c = record {
  small = c.requires.small;
  inside = (ends _ _ _ _ c.value.ensures c.in-Some.is).1;
  text = shown-six _ _ _ _ _ c.property-shown.ensures;
}

pub put_property-requires : goal.put_property-requires
put_property-requires c = left-room c.loop-p.invariant.left (starts _ _ (omega arith) (omega arith)) c.value.ensures c.in-Some.is

pub overflow_add-p : goal.overflow_add-p
overflow_add-p c = omega (arith, ends _ _ _ _ c.value.ensures c.in-Some.is, c.requires.small)

pub loop-p-smaller : goal.loop-p-smaller
loop-p-smaller c = omega (arith, ends _ _ _ _ c.value.ensures c.in-Some.is)

pub loop-p-preserved : goal.loop-p-preserved
loop-p-preserved c =
    let goes = starts c.args.s.now c.loop-p.p (omega arith) (omega arith) in
    record {
      left = left-more c.loop-p.invariant.left goes c.value.ensures c.in-Some.is c.property-shown.ensures c.put_property.ensures;
      named = elim c.if-q-gt-LAST_SIZED_ID.branch [
        | then-q-gt-LAST_SIZED_ID w ↦ named_more c.loop-p.invariant.named goes c.value.ensures c.in-Some.is (omega arith) (w.naming-is ∙ w.next_name-naming.ensures)
        | else-q-gt-LAST_SIZED_ID w ↦ named_past c.loop-p.invariant.named goes c.value.ensures c.in-Some.is c.requires.above (omega arith) w.naming-is
      ];
    }

pub returns : goal.returns
returns c = elim c.loop-p-test.branch [
  | then-loop-p-test+else-s-p-le-LAST_ID w ↦ keeps_stop c.loop-p.invariant c.run_rows-2.ensures (stops _ _ (omega arith) (omega arith))
  | else-loop-p-test w ↦ keeps_stop c.loop-p.invariant c.run_rows-2.ensures (past_end _ _ (omega arith))
]
