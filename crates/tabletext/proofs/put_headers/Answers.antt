use Rattle.std.proofs.Common.{◌≡◌, ◌+◌, ◌-◌, ◌*◌, arith}
use Rattle.text.proofs.Remains.{one_less, none_left}
use Rattle.tabletext.proofs.Lines.{headers-read, headers-done}
use Rattle.tabletext.proofs.put_headers.Goals as goal

pub loop-i-preserved : goal.loop-i-preserved
loop-i-preserved c =
    let a = c.args in
    let i = c.loop-i.i in
    let e : a.start + 2 * i + 2 ≡ a.start + 2 * (i + 1) = omega arith in
    let f : a.n - i - 1 ≡ a.n - (i + 1) = omega arith in
    rw (← e, ← f)
    (one_less c.loop-i.invariant (omega arith) (headers-read _ (a.start + 2 * i) (a.n - i) (omega arith) c.u16_number.ensures.is) c.put_header-p.ensures)

pub returns : goal.returns
returns c = none_left c.loop-i.invariant (headers-done _ _ _ (omega arith))
