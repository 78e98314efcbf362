use Rattle.std.proofs.Common.{sym, refl, ◌∙◌, arith}
use Rattle.tablemaking.specs.Judged.{fault_of, after}
use Rattle.tablemaking.proofs.Judging.{not_named, is-named, early, high, row_low, target-high, row_kept}
use Rattle.tablemaking.proofs.with_row.Goals as goal

pub returns-then-is_none : goal.returns-then-is_none
unfolding fault_of
returns-then-is_none c = sym (not_named _ _ c.if-is_none.ensures)

pub returns-then-seen-eq0 : goal.returns-then-seen-eq0
unfolding fault_of
returns-then-seen-eq0 c = sym (is-named _ _ c.if-is_none.ensures ∙ early _ _ _ c.if-seen-eq0.true)

pub returns-then-id-gt-LAST_ID : goal.returns-then-id-gt-LAST_ID
unfolding fault_of
returns-then-id-gt-LAST_ID c = sym (is-named _ _ c.if-is_none.ensures ∙ high _ _ _ c.if-seen-eq0.false (omega arith))

pub returns-then-id-seen : goal.returns-then-id-seen
unfolding fault_of
returns-then-id-seen c = sym (is-named _ _ c.if-is_none.ensures ∙ row_low _ _ _ c.if-seen-eq0.false (omega arith) (omega arith))

pub returns-then-target-gt-LAST_TARGET : goal.returns-then-target-gt-LAST_TARGET
unfolding fault_of
returns-then-target-gt-LAST_TARGET c = sym (is-named _ _ c.if-is_none.ensures ∙ target-high _ _ _ c.if-seen-eq0.false (omega arith) (omega arith) (omega arith))

pub returns : goal.returns
unfolding fault_of after
returns c = record { kept = is-named _ _ c.if-is_none.ensures ∙ row_kept _ _ _ c.if-seen-eq0.false (omega arith) (omega arith) (omega arith); is = refl }
