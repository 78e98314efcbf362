use Rattle.std.proofs.Common.{arith, refl}
use mathlib.Core.Path.{sym, ap, ◌∙◌}
use Rattle.std.proofs.Common as code
use Rattle.rules.proofs.ToldLaws.{told_some, told_none, told_as_none}
use Rattle.numbers.proofs.Inside.{inside-room}
use Rattle.walk2000.proofs.Inverse.{run_of, opens_plain, opens_listed}
use Rattle.cursor2000.proofs.Skipping.{skip_short, skip_section, skip_run_bad, skip_head_bad, skip_listed, skip_plain}
use Rattle.cursor2000.proofs.skip.Goals as goal

pub returns-in_err-entry_type : goal.returns-in_err-entry_type
returns-in_err-entry_type c = skip_short _ _ (told_none _ _ c.u16_if_inside.ensures c.in_err-entry_type.was) c.from_residual.ensures

pub returns-then-is_section : goal.returns-then-is_section
returns-then-is_section c =
    skip_section _ _ (told_some _ _ c.u16_if_inside.ensures c.in_ok-entry_type.was) (sym c.is_section.ensures ∙ c.if-is_section.true) refl

pub overflow_add-at : goal.overflow_add-at
overflow_add-at c = omega (arith, inside-room _ _ _ _ c.u16_if_inside.ensures c.in_ok-entry_type.was)

pub returns-in_err-run : goal.returns-in_err-run
returns-in_err-run c =
    skip_run_bad _ _ (told_some _ _ c.u16_if_inside.ensures c.in_ok-entry_type.was) (told_as_none _ _ _ c.run_at.ensures c.in_err-run.was) c.from_residual-in_err-run.ensures

pub returns-in_err-next : goal.returns-in_err-next
returns-in_err-next c =
    let x = run_of _ _ _ c.run_at.ensures c.in_ok-run.was in
    skip_head_bad _ _ (told_some _ _ c.u16_if_inside.ensures c.in_ok-entry_type.was) x.2 (told_as_none _ _ _ c.head.ensures c.in_err-next.was) c.from_residual-in_err-next.ensures

pub returns-in-Plain : goal.returns-in-Plain
returns-in-Plain c =
    let x = run_of _ _ _ c.run_at.ensures c.in_ok-run.was in
    skip_plain _ _ (told_some _ _ c.u16_if_inside.ensures c.in_ok-entry_type.was) x.2 (opens_plain _ _ _ c.head.ensures (c.in_ok-next.was ∙ ap code.Some c.in-Plain.is)) (sym c.is_section.ensures ∙ c.if-is_section.false) refl

pub returns-in-Listed : goal.returns-in-Listed
returns-in-Listed c =
    let x = run_of _ _ _ c.run_at.ensures c.in_ok-run.was in
    skip_listed _ _ (told_some _ _ c.u16_if_inside.ensures c.in_ok-entry_type.was) x.2 (opens_listed _ _ _ _ c.head.ensures (c.in_ok-next.was ∙ ap code.Some c.in-Listed.is)) refl
