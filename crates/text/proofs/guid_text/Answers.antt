use mathlib.Core.Path.{sym, ap, ◌∙◌}
use Prim.Native.Nat.{ℕ}
use native.Mathlib.Omega.{arith}
use Rattle.rules.specs.Answer.{answer}
use Rattle.rules.specs.Texts.{guid_text_lem}
use Rattle.text.proofs.Written.{shown, guid-length, guid-exit, no-guid-exit, room-exit, no-room-exit}
use Rattle.text.proofs.guid_text.Goals as goal

pub returns-then-guid-ne-GUID_SIZE : goal.returns-then-guid-ne-GUID_SIZE
returns-then-guid-ne-GUID_SIZE c =
    let a = c.args in let s = shown (no-guid-exit a.guid.now a.out.now c.if-guid-ne-GUID_SIZE.true) c.refused.ensures in record { value = s.0; out_after = s.1 }

pub returns-then-out-lt-GUID_TEXT_SIZE : goal.returns-then-out-lt-GUID_TEXT_SIZE
returns-then-out-lt-GUID_TEXT_SIZE c =
    let a = c.args in
    let t = guid_text_lem a.guid.now in
    let s = shown
    (guid-exit a.guid.now a.out.now c.if-guid-ne-GUID_SIZE.false ∙ no-room-exit t a.out.now (omega (arith, guid-length a.guid.now)))
    c.refused-then-out-lt-GUID_TEXT_SIZE.ensures in record { value = s.0; out_after = s.1 }

pub returns : goal.returns
returns c =
    let a = c.args in
    let t = guid_text_lem a.guid.now in
    let s = shown
    (guid-exit a.guid.now a.out.now c.if-guid-ne-GUID_SIZE.false
    ∙ room-exit t a.out.now c.put_guid.ensures (omega (arith, guid-length a.guid.now)))
    (c.wrote.ensures ∙ ap (λ (n : ℕ). answer 0 n 0 0) (sym (guid-length a.guid.now))) in record { value = s.0; out_after = s.1 }
