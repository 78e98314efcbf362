use Rattle.std.proofs.Common.{[]}
use Rattle.rules.specs.Join.{tie_bytes}
use Rattle.text.proofs.Chain.{nothing}
use Rattle.tablemaking.specs.Made.{by_part_lem, tie, row_bytes}
use Rattle.tablemaking.proofs.Parts.{no_row}
use Rattle.tablemaking.proofs.put_if_row.Goals as goal

pub returns-in-Row : goal.returns-in-Row
unfolding row_bytes by_part_lem
returns-in-Row c = rw c.in-Row.is c.put_row.ensures

pub returns-in_default : goal.returns-in_default
unfolding row_bytes
returns-in_default c = rw (no_row [] (λ id target kind. tie_bytes (tie id target kind)) c.args.item c.in_default.not-Row) nothing
