use Rattle.std.proofs.Common.{◌≡◌, ◌+◌, ◌-◌, arith}
use Rattle.csvrows.proofs.Turns.{rows_start, rows_more, rows-done}
use Rattle.showlines.proofs.Steps.{line-by-words}
use Rattle.showlines.proofs.put_rows.Goals as goal

pub loop-i-init : goal.loop-i-init
loop-i-init c =
    let a = c.args in
    let e : a.first + a.count - a.first ≡ a.count = omega arith in
    rw e (rows_start c.requires.few)

pub loop-i-preserved : goal.loop-i-preserved
loop-i-preserved c =
    let a = c.args in
    let l = c.loop-i in
    let e : a.first + a.count - (l.i + 1) ≡ a.first + a.count - l.i - 1 = omega arith in
    rw e (rows_more l.invariant (line-by-words a.stream.now a.owner) (omega arith) c.get_property-shown.ensures c.property_line-p.ensures)

pub returns : goal.returns
returns c = rows-done c.loop-i.invariant (omega arith)
