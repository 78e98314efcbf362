use Rattle.std.proofs.Common.{◌≡◌, ◌+◌, ◌-◌, ◌*◌, refl, arith}
use Rattle.text.proofs.Remains.{on, done}
use Rattle.tabletext.proofs.Lines.{scopes-read, scopes-done}
use Rattle.tabletext.proofs.put_scopes.Goals as goal

pub loop-i-preserved : goal.loop-i-preserved
loop-i-preserved c =
    let a = c.args in
    let i = c.loop-i.i in
    let place : a.start + 5 * i + 5 ≡ a.start + 5 * (i + 1) = omega arith in
    let left : a.n - i - 1 ≡ a.n - (i + 1) = omega arith in
    let e = scopes-read a.table.now (a.start + 5 * i) c.loop-i.body (a.n - i) (omega arith) c.byte_number-kind.ensures.is c.u16_number-code.ensures.is c.u16_number-count.ensures.is in
    rw (← place, ← left) (record { rest = on (on c.loop-i.invariant.rest e c.put_scope-q.ensures) refl c.put_rows-p.ensures; body_near = omega arith })

pub returns : goal.returns
returns c = done c.loop-i.invariant.rest (scopes-done _ _ _ _ (omega arith))
