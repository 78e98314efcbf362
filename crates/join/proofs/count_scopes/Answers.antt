use Rattle.std.proofs.Common.{sym, ◌∙◌, arith}
use Rattle.join.proofs.ScopeLaws.{sized-none, scopes-few, rows_few, sized-all, sized-next, sized_clash}
use Rattle.join.proofs.count_scopes.Goals as goal

pub loop-a-init : goal.loop-a-init
loop-a-init c = sized-none c.requires c.scopes_of-a.ensures c.scopes_of-b.ensures

pub returns-in_err-here : goal.returns-in_err-here
returns-in_err-here c = c.from_residual.ensures ∙ sym (sized_clash c.loop-a.invariant c.scope_turn-turn.ensures c.in_err-here.ensures)

pub overflow_add-scopes : goal.overflow_add-scopes
overflow_add-scopes c = omega (arith, scopes-few c.loop-a.invariant)

pub overflow_add-rows : goal.overflow_add-rows
overflow_add-rows c = omega (arith, rows_few (sized-next c.loop-a.invariant c.scope_turn-turn.ensures c.in_ok-here.ensures))

pub loop-a-preserved : goal.loop-a-preserved
loop-a-preserved c = sized-next c.loop-a.invariant c.scope_turn-turn.ensures c.in_ok-here.ensures

pub returns : goal.returns
returns c = sym (sized-all c.loop-a.invariant (omega arith))
