use Rattle.std.proofs.Common.{sym, refl, ◌∙◌, arith}
use Rattle.tablemaking.specs.Judged.{fault_of, after}
use Rattle.tablemaking.proofs.Judging.{not_named, is-named, late, header-low, header-many, header-kept}
use Rattle.tablemaking.proofs.with_header.Goals as goal

pub returns-then-is_none : goal.returns-then-is_none
unfolding fault_of
returns-then-is_none c = sym (not_named _ _ c.if-is_none.ensures)

pub returns-then-seen-gt0 : goal.returns-then-seen-gt0
unfolding fault_of
returns-then-seen-gt0 c = sym (is-named _ _ c.if-is_none.ensures ∙ late _ _ (omega arith))

pub returns-then-code-seen : goal.returns-then-code-seen
unfolding fault_of
returns-then-code-seen c = sym (is-named _ _ c.if-is_none.ensures ∙ header-low _ _ (omega arith) (omega arith))

pub returns-then-seen-ge-MOST_HEADERS : goal.returns-then-seen-ge-MOST_HEADERS
unfolding fault_of
returns-then-seen-ge-MOST_HEADERS c = sym (is-named _ _ c.if-is_none.ensures ∙ header-many _ _ (omega arith) (omega arith) (omega arith))

pub returns : goal.returns
unfolding fault_of after
returns c = record { kept = is-named _ _ c.if-is_none.ensures ∙ header-kept _ _ (omega arith) (omega arith) (omega arith); is = refl }
