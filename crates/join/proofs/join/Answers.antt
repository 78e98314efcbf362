use Rattle.std.proofs.Common.{ℕ, sym, ap, ◌∙◌, arith}
use Rattle.rules.specs.Answer.{answer}
use Rattle.text.proofs.Chain.{◌⨟◌, wrote_as}
use Rattle.text.proofs.Written.{shown, room-exit, no-room-exit}
use Rattle.join.proofs.Exits.{both_formed, was_counted, exit-first, exit-second, exit_heads, exit_clash, tables_agree, rows_few, exit-many, exit-text, size_is, parts_are}
use Rattle.join.proofs.join.Goals as goal

-- ---- the refusals
pub returns-then-not-well_formed : goal.returns-then-not-well_formed
returns-then-not-well_formed c =
    let told = shown (exit-first _ _ {out = c.args.out.now} (sym c.well_formed-2.ensures ∙ c.if-not-well_formed.true)) c.refused.ensures in
    record { value = told.0; out_after = told.1 }

pub returns-then-not-well_formed-2 : goal.returns-then-not-well_formed-2
returns-then-not-well_formed-2 c =
    let told = shown (exit-second _ _ {out = c.args.out.now} (sym c.well_formed-2.ensures ∙ c.if-not-well_formed.false) (sym c.well_formed-3.ensures ∙ c.if-not-well_formed-2.true))
    c.refused-then-not-well_formed-2.ensures in
    record { value = told.0; out_after = told.1 }

pub returns-then-not-same_head : goal.returns-then-not-same_head
returns-then-not-same_head c =
    let F = both_formed c.well_formed-2.ensures c.if-not-well_formed.false c.well_formed-3.ensures c.if-not-well_formed-2.false in
    let told = shown (exit_heads {out = c.args.out.now} F (sym c.same_head.ensures ∙ c.if-not-same_head.true)) c.refused-then-not-same_head.ensures in
    record { value = told.0; out_after = told.1 }

pub count_scopes-requires : goal.count_scopes-requires
count_scopes-requires c = both_formed c.well_formed-2.ensures c.if-not-well_formed.false c.well_formed-3.ensures c.if-not-well_formed-2.false

pub returns-in_default : goal.returns-in_default
returns-in_default c =
    let F = both_formed c.well_formed-2.ensures c.if-not-well_formed.false c.well_formed-3.ensures c.if-not-well_formed-2.false in
    let told = shown (exit_clash {out = c.args.out.now} (was_counted F c.same_head.ensures c.if-not-same_head.false c.in_default.ensures)) c.refused-in_default.ensures in
    record { value = told.0; out_after = told.1 }

pub returns-then-sized-gt-MOST_SCOPES : goal.returns-then-sized-gt-MOST_SCOPES
returns-then-sized-gt-MOST_SCOPES c =
    let F = both_formed c.well_formed-2.ensures c.if-not-well_formed.false c.well_formed-3.ensures c.if-not-well_formed-2.false in
    let told = shown (exit-many (was_counted F c.same_head.ensures c.if-not-same_head.false c.in-Some.ensures) {out = c.args.out.now} (omega (arith, c.if-sized-gt-MOST_SCOPES.true))) c.refused-then-sized-gt-MOST_SCOPES.ensures in
    record { value = told.0; out_after = told.1 }

-- ---- the size
pub overflow_mul-size-3 : goal.overflow_mul-size-3
overflow_mul-size-3 c =
    let F = both_formed c.well_formed-2.ensures c.if-not-well_formed.false c.well_formed-3.ensures c.if-not-well_formed-2.false in
    omega (arith, rows_few (was_counted F c.same_head.ensures c.if-not-same_head.false c.in-Some.ensures))

pub overflow_add-size-3 : goal.overflow_add-size-3
overflow_add-size-3 c =
    let F = both_formed c.well_formed-2.ensures c.if-not-well_formed.false c.well_formed-3.ensures c.if-not-well_formed-2.false in
    omega (arith, rows_few (was_counted F c.same_head.ensures c.if-not-same_head.false c.in-Some.ensures), c.byte_number.ensures.small, c.if-sized-gt-MOST_SCOPES.false)

pub overflow_cast-size : goal.overflow_cast-size
overflow_cast-size c =
    let F = both_formed c.well_formed-2.ensures c.if-not-well_formed.false c.well_formed-3.ensures c.if-not-well_formed-2.false in
    omega (arith, rows_few (was_counted F c.same_head.ensures c.if-not-same_head.false c.in-Some.ensures), c.byte_number.ensures.small, c.if-sized-gt-MOST_SCOPES.false)

pub returns-then-out-size : goal.returns-then-out-size
returns-then-out-size c =
    let F = both_formed c.well_formed-2.ensures c.if-not-well_formed.false c.well_formed-3.ensures c.if-not-well_formed-2.false in
    let p = was_counted F c.same_head.ensures c.if-not-same_head.false c.in-Some.ensures in
    let l = size_is p c.byte_number.ensures.is in
    let told = shown (exit-text p c.args.out.now (omega (arith, c.if-sized-gt-MOST_SCOPES.false)) ∙ no-room-exit _ _ (omega (arith, l, c.if-out-size.true))) c.refused-then-out-size.ensures in
    record { value = told.0; out_after = told.1 }

-- ---- the table
pub put_contents-at-requires : goal.put_contents-at-requires
put_contents-at-requires c =
    let F = both_formed c.well_formed-2.ensures c.if-not-well_formed.false c.well_formed-3.ensures c.if-not-well_formed-2.false in
    tables_agree (was_counted F c.same_head.ensures c.if-not-same_head.false c.in-Some.ensures)

pub put_bodies-requires : goal.put_bodies-requires
put_bodies-requires c = both_formed c.well_formed-2.ensures c.if-not-well_formed.false c.well_formed-3.ensures c.if-not-well_formed-2.false

pub returns : goal.returns
returns c =
    let F = both_formed c.well_formed-2.ensures c.if-not-well_formed.false c.well_formed-3.ensures c.if-not-well_formed-2.false in
    let p = was_counted F c.same_head.ensures c.if-not-same_head.false c.in-Some.ensures in
    let l = size_is p c.byte_number.ensures.is in
    let w = wrote_as (c.put_head-at.ensures ⨟ c.put_contents-at.ensures ⨟ c.put_bodies.ensures) (parts_are p) in
    let told = shown
    (exit-text p c.args.out.now (omega (arith, c.if-sized-gt-MOST_SCOPES.false)) ∙ room-exit _ _ w (omega (arith, l, c.if-out-size.false)))
    (c.wrote.ensures ∙ ap (λ (n : ℕ). answer 0 n 0 0) l) in
    record { value = told.0; out_after = told.1 }
