use Prim.Native.Nat.{ℕ}
use Rattle.std.proofs.Common.{arith}
use mathlib.Core.Path.{ap, ◌∙◌}
use Rattle.rules.specs.Answer.{answer}
use Rattle.text.proofs.Chain.{◌⨟◌}
use Rattle.text.proofs.Written.{shown, room-exit, no-room-exit}
use Rattle.rewrite.proofs.Walks.{exit-long, exit_bad, exit-text, size_is, none-counted, some_counted}
use Rattle.rewrite.proofs.rewrite.Goals as goal

pub returns-then-stream-gt-LONGEST : goal.returns-then-stream-gt-LONGEST
returns-then-stream-gt-LONGEST c =
    let z = shown (exit-long _ _ c.if-stream-gt-LONGEST.true) c.refused.ensures in
    record { value = z.0; out_after = z.1 }

pub returns-then-is_none : goal.returns-then-is_none
returns-then-is_none c =
    let e = none-counted _ c.count.ensures c.if-is_none.ensures in
    let z = shown (exit_bad _ _ c.if-stream-gt-LONGEST.false e) c.refused-then-is_none.ensures in
    record { value = z.0; out_after = z.1 }

pub returns-then-out-size : goal.returns-then-out-size
returns-then-out-size c =
    let ok = some_counted _ c.count.ensures c.if-stream-gt-LONGEST.false c.if-is_none.ensures in
    let n = size_is _ c.size_of-size.ensures in
    let z = shown (exit-text _ _ ok ∙ no-room-exit _ _ (omega arith)) c.refused-then-out-size.ensures in
    record { value = z.0; out_after = z.1 }

pub returns : goal.returns
returns c =
    let ok = some_counted _ c.count.ensures c.if-stream-gt-LONGEST.false c.if-is_none.ensures in
    let n = size_is _ c.size_of-size.ensures in
    let w = c.put_part-at.ensures ⨟ c.put_pieces.ensures in
    let z = shown (exit-text _ _ ok ∙ room-exit _ _ w (omega arith)) (c.wrote.ensures ∙ ap (λ (n : ℕ). answer 0 n 0 0) n) in
    record { value = z.0; out_after = z.1 }
