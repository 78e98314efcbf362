use Rattle.std.proofs.Common.{sym}
use Rattle.tablelines.proofs.ItemLaws.{no_more, some_more, scope-more, a_scope}
use Rattle.tablelines.proofs.plain_scope_item.Goals as goal

pub returns-then-is_empty : goal.returns-then-is_empty
returns-then-is_empty c = sym (a_scope _ _ (no_more _ c.is_empty.ensures c.if-is_empty.true))

pub returns-else-is_empty : goal.returns-else-is_empty
returns-else-is_empty c = sym (scope-more _ _ (some_more _ c.is_empty.ensures c.if-is_empty.false))
