use Rattle.std.proofs.Common.{arith}
use Rattle.join.proofs.ScopeLaws.{writing_start, scopes-none}
use Rattle.join.proofs.Writing.{turn-written, none_left}
use Rattle.join.proofs.put_bodies.Goals as goal

pub loop-a-init : goal.loop-a-init
loop-a-init c = writing_start c.requires c.scopes_of-a.ensures c.scopes_of-b.ensures

pub loop-a-preserved : goal.loop-a-preserved
loop-a-preserved c =
    let t = c.scope_turn-turn.ensures in
    turn-written c.loop-a.invariant t.turn t.rest c.put_rows-o.ensures

pub returns : goal.returns
returns c = none_left c.loop-a.invariant (scopes-none _ c.loop-a.a _ c.loop-a.b (omega arith))
