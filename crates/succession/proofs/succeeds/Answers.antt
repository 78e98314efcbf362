use Rattle.std.proofs.Common.{sym, ◌∙◌}
use borrow.Author.Tests.{not-true, not-false}
use Rattle.succession.proofs.Scopes.{other-head, same_head}
use Rattle.succession.proofs.succeeds.Goals as goal

pub returns-then-not-same_head : goal.returns-then-not-same_head
returns-then-not-same_head c = sym (other-head _ _ (sym c.same_head.ensures ∙ not-true _ (search)))

pub returns : goal.returns
returns c = same_head _ _ (sym c.same_head.ensures ∙ not-false _ (search)) c.first_lack.ensures c.is_none.ensures
