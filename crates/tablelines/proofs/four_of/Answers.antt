use Rattle.std.proofs.Common.{sym, ap, ◌∙◌, Some, arith}
use Rattle.tablelines.specs.Items.{below}
use Rattle.tablelines.proofs.WordLaws.{none_above, some_below, some_of, four_digits_lem, not_four, no-high-byte, no-low-byte, a_code}
use Rattle.tablelines.proofs.four_of.Goals as goal

pub returns-in_err-high-in-len4 : goal.returns-in_err-high-in-len4
returns-in_err-high-in-len4 c =
    c.from_residual.ensures ∙ ap (below 65536) (sym (four_digits_lem c.args.word.now (omega arith) ∙ no-high-byte _ _ (none_above c.in_err-high-in-len4.ensures)))

pub returns-in_err-low-in-len4 : goal.returns-in_err-low-in-len4
returns-in_err-low-in-len4 c =
    let h = some_below c.in_ok-high-in-len4.ensures in
    c.from_residual-in_err-low-in-len4.ensures
    ∙ ap (below 65536) (sym (four_digits_lem c.args.word.now (omega arith) ∙ no-low-byte _ _ h.1 (none_above c.in_err-low-in-len4.ensures)))

pub returns-in_ok-low-in-len4 : goal.returns-in_ok-low-in-len4
returns-in_ok-low-in-len4 c =
    let h = some_below c.in_ok-high-in-len4.ensures in
    let l = some_below c.in_ok-low-in-len4.ensures in
    let e = four_digits_lem c.args.word.now (omega arith) ∙ a_code _ _ h.1 l.1 in
    ap Some (omega arith) ∙ some_of (omega arith)

pub returns-in_default : goal.returns-in_default
returns-in_default c = ap (below 65536) (sym (not_four c.args.word.now (λ e. omega arith)))

pub returns-in_default-2 : goal.returns-in_default-2
returns-in_default-2 c = ap (below 65536) (sym (not_four c.args.word.now (λ e. omega arith)))
