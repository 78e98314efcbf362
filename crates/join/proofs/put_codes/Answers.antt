use Rattle.std.proofs.Common.{◌≡◌, ◌+◌, ◌-◌, ◌*◌, ap, arith}
use Rattle.rules.specs.CodeTable.{codes_at}
use Rattle.text.proofs.Chain.{wrote_as}
use Rattle.text.proofs.Remains.{one_less, none_left}
use Rattle.joinlaws.proofs.TableBytesLaws.{codes_bytes}
use Rattle.join.proofs.HeadLaws.{bytes_next, bytes-done}
use Rattle.join.proofs.put_codes.Goals as goal

pub loop-i-preserved : goal.loop-i-preserved
loop-i-preserved c =
    let i = c.loop-i.i in
    let n = c.byte_number-codes.result in
    let e : 4 + 2 * i + 2 ≡ 4 + 2 * (i + 1) = omega arith in
    let f : n - i - 1 ≡ n - (i + 1) = omega arith in
    rw (← e, ← f)
    (one_less c.loop-i.invariant (omega arith) (bytes_next _ (4 + 2 * i) (n - i) (omega arith) c.u16_number.ensures.is) c.put_two-o.ensures)

pub returns : goal.returns
returns c =
    wrote_as (none_left c.loop-i.invariant (bytes-done _ _ _ (omega arith)))
    (ap (λ (k : _). codes_bytes (codes_at c.args.table.now 4 k)) c.byte_number-codes.ensures.is)
