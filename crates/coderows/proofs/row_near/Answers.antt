use Rattle.std.proofs.Common.{◌+◌, ◌-◌, ◌*◌, refl, arith}
use Rattle.rules.specs.CodeTable.{id_of, tie_at}
use Rattle.coderows.proofs.Halves.{begin, Turn, go_up, go_down}
use Rattle.coderows.proofs.Rows.{row_hit, row-none}
use Rattle.coderows.proofs.row_near.Goals as goal

pub returns-then-row-wanted : goal.returns-then-row-wanted
returns-then-row-wanted c =
    let turn : Turn (tie_at c.args.table.now) id_of 4 c.args.start c.args.n c.args.wanted c.args.start c.args.n c.args.near (c.args.start + 4 * c.args.near) c.read_row-row.result.id =
    record { so_far = begin _ _ 4 _ _ _; fits = omega arith; middle = refl; reads = c.read_row-row.ensures.id.is } in
    row_hit c.args.table.now turn _ _ c.if-row-wanted.true c.read_row-row.ensures.target.is c.read_row-row.ensures.kind.is

pub returns-then-near-eq0 : goal.returns-then-near-eq0
returns-then-near-eq0 c =
    let turn : Turn (tie_at c.args.table.now) id_of 4 c.args.start c.args.n c.args.wanted c.args.start c.args.n c.args.near (c.args.start + 4 * c.args.near) c.read_row-row.result.id =
    record { so_far = begin _ _ 4 _ _ _; fits = omega arith; middle = refl; reads = c.read_row-row.ensures.id.is } in
    row-none c.args.table.now (go_down turn (omega arith)) (omega arith)

pub returns-then-byte_number-wanted : goal.returns-then-byte_number-wanted
returns-then-byte_number-wanted c =
    let turn : Turn (tie_at c.args.table.now) id_of 4 c.args.start c.args.n c.args.wanted c.args.start c.args.n c.args.near (c.args.start + 4 * c.args.near) c.read_row-row.result.id =
    record { so_far = begin _ _ 4 _ _ _; fits = omega arith; middle = refl; reads = c.read_row-row.ensures.id.is } in
    let before : Turn (tie_at c.args.table.now) id_of 4 c.args.start c.args.n c.args.wanted c.args.start c.args.near (c.args.near - 1) (c.args.start + 4 * c.args.near - 4) c.byte_number.result =
    record { so_far = go_down turn (omega arith); fits = omega arith; middle = omega arith; reads = c.byte_number.ensures.is } in
    row-none c.args.table.now (go_up before (omega arith)) (omega arith)
