use Rattle.std.proofs.Common.{sym, ap, ◌∙◌, Some, arith}
use Rattle.tablelines.specs.Items.{below}
use Rattle.tablelines.proofs.WordLaws.{none_above, some_below, some_of, no-high, no-low, two_small}
use Rattle.tablelines.proofs.byte_of.Goals as goal

pub returns-in_err-high : goal.returns-in_err-high
returns-in_err-high c = c.from_residual.ensures ∙ ap (below 256) (sym (no-high _ _ (none_above c.in_err-high.ensures)))

pub returns-in_err-low : goal.returns-in_err-low
returns-in_err-low c =
    let h = some_below c.in_ok-high.ensures in
    c.from_residual-in_err-low.ensures ∙ ap (below 256) (sym (no-low _ _ h.1 (none_above c.in_err-low.ensures)))

pub returns : goal.returns
returns c =
    let h = some_below c.in_ok-high.ensures in
    let l = some_below c.in_ok-low.ensures in
    let e = two_small _ _ h.1 l.1 in
    ap Some (omega arith) ∙ some_of (omega arith)
