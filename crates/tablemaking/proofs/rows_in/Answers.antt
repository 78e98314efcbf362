use Rattle.std.proofs.Common.{sym, refl, arith}
use Rattle.tablemaking.specs.Made.{by_part_lem, rows_in_lem}
use Rattle.tablemaking.proofs.Parts.{no_row}
use Rattle.tablemaking.proofs.rows_in.Goals as goal

pub returns-in_default : goal.returns-in_default
unfolding rows_in_lem by_part_lem
returns-in_default c = rw c.in_default.is (record { is = refl; small = omega arith })

pub returns-in-Row : goal.returns-in-Row
unfolding rows_in_lem by_part_lem
returns-in-Row c = rw (c.in-Ok.is, c.in-Row.is) (record { is = refl; small = omega arith })

pub returns-in_default-item : goal.returns-in_default-item
unfolding rows_in_lem
returns-in_default-item c =
    rw c.in-Ok.is (record { is = sym (no_row 0 (λ id target kind. 1) c.in-Ok.item c.in_default-item.not-Row); small = omega arith })
