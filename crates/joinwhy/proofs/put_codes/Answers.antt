use Rattle.std.proofs.Common.{◌≡◌, ◌+◌, ◌-◌, ◌*◌, arith}
use Rattle.text.proofs.Chain.{◌⨟◌}
use Rattle.text.proofs.Remains.{one_less, none_left}
use Rattle.joinwhy.proofs.Heads.{words-next, words-done}
use Rattle.joinwhy.proofs.put_codes.Goals as goal

pub loop-i-preserved : goal.loop-i-preserved
loop-i-preserved c =
    let a = c.args in
    let i = c.loop-i.i in
    let e : a.start + 2 * i + 2 ≡ a.start + 2 * (i + 1) = omega arith in
    let f : a.n - i - 1 ≡ a.n - (i + 1) = omega arith in
    rw (← e, ← f)
    (one_less c.loop-i.invariant (omega arith) (words-next _ (a.start + 2 * i) (a.n - i) (omega arith) c.u16_number.ensures.is) (c.put_byte-q.ensures ⨟ c.put_hex-p.ensures))

pub returns : goal.returns
returns c = none_left c.loop-i.invariant (words-done _ _ _ (omega arith))
