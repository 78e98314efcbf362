use Rattle.std.proofs.Common.{◌≡◌, ◌+◌, ◌-◌, ◌*◌, arith}
use Rattle.text.proofs.Remains.{one_less, none_left}
use Rattle.tabletext.proofs.Lines.{rows-read, rows-done}
use Rattle.tabletext.proofs.put_rows.Goals as goal

pub loop-i-preserved : goal.loop-i-preserved
loop-i-preserved c =
    let a = c.args in
    let i = c.loop-i.i in
    let e : a.start + 4 * i + 4 ≡ a.start + 4 * (i + 1) = omega arith in
    let f : a.n - i - 1 ≡ a.n - (i + 1) = omega arith in
    rw (← e, ← f)
    (one_less c.loop-i.invariant (omega arith) (rows-read _ (a.start + 4 * i) (a.n - i) _ (omega arith) c.read_row-r.ensures) c.put_row-p.ensures)

pub returns : goal.returns
returns c = none_left c.loop-i.invariant (rows-done _ _ _ (omega arith))
