use Rattle.std.proofs.Common.{arith}
use Rattle.tablewords.proofs.Longest.{Words32}
use Rattle.tableshow.proofs.Printed.{shows_break, break_fits}
use Rattle.tableshow.proofs.show_break.Goals as goal

pub returns : goal.returns
returns c =
    let t = c.args.table.now in
    let f = c.requires in
    let small : Words32 c.args.found = record {
      at = omega (arith, c.type_inv);
      scope = omega (arith, c.type_inv);
      row = omega (arith, c.type_inv);
      found = omega (arith, c.type_inv);
    } in
    record { wrote = rw (shows_break t f.is f.some) c.break_line.ensures; short = break_fits t f.is f.some small }
