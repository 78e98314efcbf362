use Rattle.std.proofs.Common.{◌≡◌, ◌+◌, ◌-◌, ◌*◌, ◌<◌, refl, sym, ◌∙◌, arith}
use Rattle.tablebreak.proofs.Turns.{told_placed, rows_fail, rows_step, rows-done}
use Rattle.tablebreak.proofs.row_break.Goals as goal

pub returns-in-Some : goal.returns-in-Some
returns-in-Some c =
    let a = c.args in
    let l = c.loop-i in
    let n = c.in-Some.ensures in
    let more : 0 < a.n - l.i = omega arith in
    told_placed c.in-Some.found n.some c.placed.ensures (l.invariant.decide ∙ rows_fail more c.read_row-r.ensures l.least a.scope a.kind a.code (l.i + 1) n.is n.some)

pub loop-i-preserved : goal.loop-i-preserved
loop-i-preserved c =
    let a = c.args in
    let l = c.loop-i in
    let i = l.i in
    let more : 0 < a.n - i = omega arith in
    let e : a.start + 4 * i + 4 ≡ a.start + 4 * (i + 1) = omega arith in
    let f : a.n - i - 1 ≡ a.n - (i + 1) = omega arith in
    rw (← e, ← f)
    (record {
      decide = l.invariant.decide ∙ rows_step more c.read_row-r.ensures l.least a.scope a.kind a.code (i + 1) (sym c.in_default.ensures) refl;
      near = omega arith;
      low = omega (arith, c.read_row-r.ensures.id.small);
    })

pub returns : goal.returns
returns c =
    let a = c.args in
    let l = c.loop-i in
    l.invariant.decide ∙ rows-done a.table.now (a.start + 4 * l.i) l.least a.scope a.kind a.code (l.i + 1) (a.n - l.i) (omega arith)
