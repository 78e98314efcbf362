use Rattle.std.proofs.Common.{sym, ◌∙◌, arith}
use Rattle.tablebreak.proofs.Turns.{told_broken, told_as, well, over, otherwise}
use Rattle.tablebreak.proofs.first_break.Goals as goal

pub returns-then-well_formed : goal.returns-then-well_formed
returns-then-well_formed c = well c.args.table.now (sym c.well_formed-2.ensures ∙ c.if-well_formed.true)

pub returns-then-table-gt-LONGEST_TABLE : goal.returns-then-table-gt-LONGEST_TABLE
returns-then-table-gt-LONGEST_TABLE c =
    told_broken (λ z. omega arith) c.broken.ensures (over c.args.table.now (sym c.well_formed-2.ensures ∙ c.if-well_formed.false) c.if-table-gt-LONGEST_TABLE.true)

pub returns : goal.returns
returns c =
    told_as _ (otherwise c.args.table.now (sym c.well_formed-2.ensures ∙ c.if-well_formed.false) c.if-table-gt-LONGEST_TABLE.false) c.search.ensures
