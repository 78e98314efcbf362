use native.Mathlib.Omega.{arith}
use Rattle.text.proofs.Written.{shown, room-exit, no-room-exit}
use Rattle.names.proofs.write_name.Goals as goal

pub returns-then-out-name : goal.returns-then-out-name
returns-then-out-name c =
    let a = c.args in
    let s = shown (no-room-exit a.name.now a.out.now (omega arith)) c.refused.ensures in record { value = s.0; out_after = s.1 }

pub returns : goal.returns
returns c =
    let a = c.args in
    let s = shown (room-exit a.name.now a.out.now c.put_text.ensures (omega arith)) c.wrote.ensures in record { value = s.0; out_after = s.1 }
