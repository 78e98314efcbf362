use Rattle.std.proofs.Common.{sym, ap, ◌∙◌, arith}
use Rattle.tablemaking.specs.Judged.{fault_of, after, with_scope}
use Rattle.tablemaking.proofs.Judging.{not_named, is-named, scope-low, scope-many, scope_kept}
use Rattle.tablemaking.proofs.with_scope.Goals as goal

pub returns-then-is_none : goal.returns-then-is_none
unfolding fault_of
returns-then-is_none c = sym (not_named _ _ c.if-is_none.ensures)

pub returns-then-key-seen : goal.returns-then-key-seen
unfolding fault_of
returns-then-key-seen c = let e = c.key_of-key.ensures in sym (is-named _ _ c.if-is_none.ensures ∙ scope-low _ _ (omega arith))

pub returns-then-seen-ge-MOST_SCOPES : goal.returns-then-seen-ge-MOST_SCOPES
unfolding fault_of
returns-then-seen-ge-MOST_SCOPES c =
    let e = c.key_of-key.ensures in
    sym (is-named _ _ c.if-is_none.ensures ∙ scope-many _ _ (omega arith) (omega arith))

pub returns : goal.returns
unfolding fault_of after
returns c =
    let e = c.key_of-key.ensures in
    record {
      kept = is-named _ _ c.if-is_none.ensures ∙ scope_kept _ _ (omega arith) (omega arith);
      is = ap (with_scope c.args.seen) e;
    }
