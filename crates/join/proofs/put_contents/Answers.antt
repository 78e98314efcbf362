use Rattle.std.proofs.Common.{arith}
use Rattle.join.proofs.ScopeLaws.{contents-start, here_there, here-few, contents-next, scopes-none}
use Rattle.join.proofs.Writing.{none_left}
use Rattle.join.proofs.put_contents.Goals as goal

pub loop-a-init : goal.loop-a-init
loop-a-init c = contents-start c.requires c.scopes_of-a.ensures c.scopes_of-b.ensures

pub unwrap-here-requires : goal.unwrap-here-requires
unwrap-here-requires c = here_there c.loop-a.invariant c.scope_turn-turn.ensures c.count_rows.ensures

pub overflow_cast-here : goal.overflow_cast-here
overflow_cast-here c = omega (arith, here-few c.loop-a.invariant c.scope_turn-turn.ensures c.count_rows.ensures c.unwrap-here.ensures)

pub loop-a-preserved : goal.loop-a-preserved
loop-a-preserved c = contents-next c.loop-a.invariant c.scope_turn-turn.ensures c.count_rows.ensures c.unwrap-here.ensures c.put_key-o.ensures

pub returns : goal.returns
returns c = none_left c.loop-a.invariant.writing (scopes-none _ _ _ _ (omega arith))
