-- The answer, and the row's line.
use Rattle.std.proofs.Common.{rules}
use Rattle.listing.proofs.Longest.{answer-short}
use Rattle.panelsay.proofs.Printing.{said-written, row-short}
use Rattle.panelsay.proofs.write_said.Goals as goal

pub returns : goal.returns
returns c =
    said-written c.check_panel-a.ensures c.get_control-row.ensures c.answer_line-p.ensures c.row_line.ensures
    (answer-short c.check_panel-a.result (search rules) (search rules) (search rules) (search rules)) (row-short _ _ _ _ (search rules) (search rules) (search rules) (search rules))
