use Rattle.std.proofs.Common.{◌+◌, ◌*◌, ◌/◌, refl, arith}
use Rattle.rules.specs.CodeTable.{id_of, tie_at}
use Rattle.coderows.proofs.Halves.{Turn, go_up, go_down}
use Rattle.coderows.proofs.Rows.{row_hit, row-none}
use Rattle.coderows.proofs.seek_row.Goals as goal

pub returns-then-id-wanted : goal.returns-then-id-wanted
returns-then-id-wanted c =
    let turn : Turn (tie_at c.args.table.now) id_of 4 c.args.start c.args.n c.args.wanted c.loop-rows.at c.loop-rows.rows (c.loop-rows.rows / 2) (c.loop-rows.at + 4 * (c.loop-rows.rows / 2)) c.read_row-row.result.id =
    record { so_far = c.loop-rows.invariant.narrowed; fits = omega arith; middle = refl; reads = c.read_row-row.ensures.id.is } in
    row_hit c.args.table.now turn _ _ c.if-id-wanted.true c.read_row-row.ensures.target.is c.read_row-row.ensures.kind.is

pub loop-rows-preserved-then-id-wanted-2 : goal.loop-rows-preserved-then-id-wanted-2
loop-rows-preserved-then-id-wanted-2 c =
    let turn : Turn (tie_at c.args.table.now) id_of 4 c.args.start c.args.n c.args.wanted c.loop-rows.at c.loop-rows.rows (c.loop-rows.rows / 2) (c.loop-rows.at + 4 * (c.loop-rows.rows / 2)) c.read_row-row.result.id =
    record { so_far = c.loop-rows.invariant.narrowed; fits = omega arith; middle = refl; reads = c.read_row-row.ensures.id.is } in
    record { narrowed = go_up turn (omega arith); at_small = omega arith; from_start = omega arith }

pub loop-rows-preserved : goal.loop-rows-preserved
loop-rows-preserved c =
    let turn : Turn (tie_at c.args.table.now) id_of 4 c.args.start c.args.n c.args.wanted c.loop-rows.at c.loop-rows.rows (c.loop-rows.rows / 2) (c.loop-rows.at + 4 * (c.loop-rows.rows / 2)) c.read_row-row.result.id =
    record { so_far = c.loop-rows.invariant.narrowed; fits = omega arith; middle = refl; reads = c.read_row-row.ensures.id.is } in
    record { narrowed = go_down turn (omega arith); at_small = omega arith; from_start = omega arith }

pub returns : goal.returns
returns c = row-none c.args.table.now c.loop-rows.invariant.narrowed (omega arith)
