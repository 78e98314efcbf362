use Rattle.std.proofs.Common.{◌≡◌, ◌+◌, ◌-◌, ◌*◌, sym, ap, ◌∙◌, arith}
use borrow.Author.Tests.{not-true, not-false}
use Rattle.succession.specs.Found.{as_lack}
use Rattle.succession.proofs.Rows.{all-rows_tried, row_told, row-passes}
use Rattle.succession.proofs.rows_other.Goals as goal

pub returns-then-not-is_held : goal.returns-then-not-is_held
returns-then-not-is_held c =
    row_told c.loop-i.invariant c.row_at-row.result (omega arith) c.row_at-row.ensures (c.seek_row-sought.ensures c.requires.sorted) (sym c.is_held.ensures ∙ not-true _ (search))

pub loop-i-preserved : goal.loop-i-preserved
loop-i-preserved c =
    let a = c.args in
    let i = c.loop-i.i in
    let e : a.start + 4 * i + 4 ≡ a.start + 4 * (i + 1) = omega arith in
    let f : a.n - i - 1 ≡ a.n - (i + 1) = omega arith in
    rw (← e, ← f)
    (row-passes c.loop-i.invariant c.row_at-row.result (omega arith) c.row_at-row.ensures (c.seek_row-sought.ensures c.requires.sorted) (sym c.is_held.ensures ∙ not-false _ (search)))

pub returns : goal.returns
unfolding as_lack
returns c = sym (ap as_lack (all-rows_tried c.loop-i.invariant (omega arith)))
