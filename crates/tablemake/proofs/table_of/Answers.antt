use Rattle.tablemake.proofs.Printing.{makes}
use Rattle.tablemake.proofs.table_of.Goals as goal

pub returns : goal.returns
returns c = makes c.args.text.now c.args.out.now c.make_table.result c.make_table.ensures c.requires
