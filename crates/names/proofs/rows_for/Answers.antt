use native.Mathlib.Omega.{arith}
use Rattle.rules.specs.NameTables.{text_names, number_names, bytes_names}
use Rattle.names.proofs.InOrder as in_order
use Rattle.names.proofs.InOrder.{rows_as}
use Rattle.names.proofs.Marks as marks
use Rattle.names.proofs.rows_for.Goals as goal

pub returns-in-6 : goal.returns-in-6
unfolding text_names number_names bytes_names
returns-in-6 c = rows_as in_order.texts (marks.texts _ c.in-6.is)

pub returns-in-5 : goal.returns-in-5
unfolding text_names number_names bytes_names
returns-in-5 c = rows_as in_order.bytes (marks.bytes _ c.in-5.is)

pub returns-in-0-to-4 : goal.returns-in-0-to-4
unfolding text_names number_names bytes_names
returns-in-0-to-4 c = rows_as in_order.numbers (marks.numbers _ (omega arith))

pub returns-in_default : goal.returns-in_default
returns-in_default c =
    let m = c.in_default in
    rows_as in_order.none (marks.none c.args.mark (omega arith) m.in_default-own.rest.0.1 m.in_default-own.rest.1)
