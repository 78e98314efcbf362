use Rattle.std.proofs.Common.{sym, refl}
use Rattle.tableshow.proofs.Printed.{shows-table, table_fits}
use Rattle.tableshow.proofs.show_text.Goals as goal

pub returns : goal.returns
returns c =
    let t = c.args.table.now in
    let is = sym c.requires in
    record { wrote = rw (shows-table t is refl) c.table_text.ensures; short = table_fits t is refl }
