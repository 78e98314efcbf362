use mathlib.Core.Path.{sym, ap, ◌∙◌}
use Rattle.csvread.specs.Places.{place_after}
use Rattle.csvread.proofs.WriteLaws.{write-begin, step_fits, write-on, none-refused, end-out, end_closed, end_open, end_fits}
use Rattle.csvread.proofs.write.Goals as goal

pub loop-b-init : goal.loop-b-init
loop-b-init c = rw c.begin-p.ensures (write-begin _ _ _ _ c.requires)

pub put_step-start-requires : goal.put_step-start-requires
put_step-start-requires c = rw c.step-s.ensures (step_fits c.loop-b.invariant c.loop-b-test.true)

-- no byte is refused
pub returns-in_default : goal.returns-in_default
returns-in_default c =
    let e = sym (ap (place_after c.loop-b.p) c.step-s.ensures) ∙ sym c.place_after.ensures ∙ c.in_default.is in
    absurd (none-refused c.loop-b.invariant c.loop-b-test.true e)

pub loop-b-preserved : goal.loop-b-preserved
loop-b-preserved c =
    let e = sym (ap (place_after c.loop-b.p) c.step-s.ensures) ∙ sym c.place_after.ensures ∙ c.in-Some.is in
    write-on c.loop-b.invariant _ c.loop-b-test.true (rw c.step-s.ensures at c.put_step-start.ensures) e

pub put_span-requires : goal.put_span-requires
put_span-requires c =
    let f = end_fits c.loop-b.invariant c.loop-b-test.false c.if-p-fields.true in
    record { field_width_in_bounds = f.0; start_le_end = f.1.0; end_bound = f.1.1 }

pub returns-then-p-fields : goal.returns-then-p-fields
returns-then-p-fields c =
    let l = c.loop-b-test.false in
    record { rows_after = c.put_span.ensures ∙ end_open c.loop-b.invariant l c.if-p-fields.true; out_after = end-out c.loop-b.invariant l }

pub returns-else-p-fields : goal.returns-else-p-fields
returns-else-p-fields c =
    let l = c.loop-b-test.false in
    record { rows_after = end_closed c.loop-b.invariant l c.if-p-fields.false; out_after = end-out c.loop-b.invariant l }
