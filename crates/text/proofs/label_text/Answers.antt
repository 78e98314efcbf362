use mathlib.Core.Path.{ap, ◌∙◌}
use Prim.Native.Nat.{ℕ}
use native.Mathlib.Omega.{arith}
use Rattle.rules.specs.Answer.{answer}
use Rattle.rules.specs.Texts.{label, label_exit}
use Rattle.text.proofs.Chain.{◌⨟◌}
use Rattle.text.proofs.Written.{shown, room-exit, no-room-exit}
use Rattle.text.proofs.label_text.Goals as goal

pub returns-then-out-size : goal.returns-then-out-size
unfolding label_exit
returns-then-out-size c =
    let a = c.args in
    let s = shown (no-room-exit (label a.n) a.out.now (omega (arith, c.label_length-size.ensures))) c.refused.ensures in record { value = s.0; out_after = s.1 }

pub returns : goal.returns
unfolding label label_exit
returns c =
    let a = c.args in
    let w = c.put_text-at.ensures ⨟ c.put_decimal.ensures in
    let s = shown
    (room-exit (label a.n) a.out.now w (omega (arith, c.label_length-size.ensures)))
    (c.wrote.ensures ∙ ap (λ (n : ℕ). answer 0 n 0 0) c.label_length-size.ensures) in record { value = s.0; out_after = s.1 }
