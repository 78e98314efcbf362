use Rattle.std.proofs.Common.{ℕ, refl, sym, ap, ◌∙◌, arith}
use Rattle.tablemaking.specs.Judged.{Judged, kept_lem}
use Rattle.tablemaking.specs.Made.{refused_with, made_lem, TakenAs}
use Rattle.tablemaking.proofs.Judging.{numbered}
use Rattle.tablemaking.proofs.Making.{exits, too_long, bad_line, no_room, with-room, begins-with, size-said, raised_line}
use Rattle.tablemaking.proofs.make_table.Goals as goal

pub returns-then-text-gt-LONGEST_TEXT : goal.returns-then-text-gt-LONGEST_TEXT
returns-then-text-gt-LONGEST_TEXT c = exits (too_long _ _ (omega arith)) refl refl

pub returns-in_err-counts : goal.returns-in_err-counts
returns-in_err-counts c =
    let a = c.args in
    let j = c.in_err-counts.ensures in
    let e = ap (λ (x : Judged). x.error) j in
    exits (bad_line a.text.now a.out.now c.if-text-gt-LONGEST_TEXT.false (λ z. numbered _ (e ∙ z)))
    (ap made_lem (raised_line _ _ c.from_residual.ensures.1) ∙ ap (λ (x : Judged). refused_with x.error x.line) j) refl

pub returns-then-out-size : goal.returns-then-out-size
returns-then-out-size c =
    let a = c.args in
    let j = c.in_ok-counts.ensures in
    let e = sym (ap (λ (x : Judged). x.error) j) in
    let t : TakenAs a.text.now (kept_lem c.in_ok-counts.counts) = record { short = c.if-text-gt-LONGEST_TEXT.false; is = j; taken = refl } in
    exits (no_room a.text.now a.out.now c.if-text-gt-LONGEST_TEXT.false e (omega (arith, c.if-out-size.true, size-said t))) refl refl

pub returns : goal.returns
returns c =
    let a = c.args in
    let j = c.in_ok-counts.ensures in
    let e = sym (ap (λ (x : Judged). x.error) j) in
    let t : TakenAs a.text.now (kept_lem c.in_ok-counts.counts) = record { short = c.if-text-gt-LONGEST_TEXT.false; is = j; taken = refl } in
    let z = size-said t in
    exits (with-room a.text.now a.out.now c.if-text-gt-LONGEST_TEXT.false e (omega (arith, c.if-out-size.false, z)))
    (ap (λ (n : ℕ). record { error = 0; line = 0; size = n }) z) (begins-with c.put_table.ensures (omega (arith, c.if-out-size.false, z)))
