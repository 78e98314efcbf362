use Rattle.std.proofs.Common.{sym, ap, ◌∙◌, List, length, drop, arith}
use Rattle.tablelines.specs.Items.{Item, items_of, said}
use Rattle.tablemaking.specs.Made.{rows_of}
use Rattle.tablemaking.proofs.Parts.{rows_end, rows_on, no-rows-left}
use Rattle.tablemaking.proofs.rows_from.Goals as goal

pub loop-place-init : goal.loop-place-init
loop-place-init c = record { total = omega arith; counted = omega arith; short = omega arith }

pub returns-then-is_scope : goal.returns-then-is_scope
returns-then-is_scope c =
    let line = c.line_at-line in
    let rest = items_of (drop line.result.next c.args.text.now) in
    let e = ap (λ (items : List Item). length (rows_of items)) line.ensures.is ∙ rows_end (said line.result.item) rest (sym c.is_scope.ensures ∙ c.if-is_scope.true) in
    omega (arith, c.loop-place.invariant.total, e)

pub loop-place-preserved : goal.loop-place-preserved
loop-place-preserved c =
    let i = c.loop-place.invariant in
    let line = c.line_at-line in
    let rest = items_of (drop line.result.next c.args.text.now) in
    let e = ap (λ (items : List Item). length (rows_of items)) line.ensures.is ∙ rows_on (said line.result.item) rest (sym c.is_scope.ensures ∙ c.if-is_scope.false) in
    let n = c.rows_in-rows.ensures in
    record { total = omega (arith, i.total, e, n.is); counted = omega (arith, i.counted, line.ensures.on, n.small); short = i.short }

pub loop-place-smaller : goal.loop-place-smaller
loop-place-smaller c = omega (arith, c.line_at-line.ensures.on)

pub overflow_add-rows : goal.overflow_add-rows
overflow_add-rows c = let i = c.loop-place.invariant in omega (arith, i.counted, i.short, c.rows_in-rows.ensures.small)

pub returns : goal.returns
returns c =
    let l = c.loop-place in
    omega (arith, l.invariant.total, no-rows-left c.args.text.now l.place (omega (arith, c.loop-place-test.false)))
