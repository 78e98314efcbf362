use mathlib.Core.Path.{refl}
use Rattle.csvread.proofs.put_step.Goals as goal

pub bounds-out-at : goal.bounds-out-at
bounds-out-at c =
    rw c.in-Put.is at c.requires

pub put_span-requires : goal.put_span-requires
put_span-requires c =
    let r = rw c.in-Close.is at c.requires in
    record { field_width_in_bounds = r.0; start_le_end = r.1.0; end_bound = r.1.1 }

pub returns-in-Put : goal.returns-in-Put
returns-in-Put c = rw c.in-Put.is (record { in_rows = refl; in_out = refl; start_is = refl })

pub returns-in-Close : goal.returns-in-Close
returns-in-Close c =
    rw c.in-Close.is (record { in_rows = c.put_span.ensures; in_out = refl; start_is = refl })
