use Rattle.std.proofs.Common.{refl, arith}
use Rattle.join.proofs.RowLaws.{rows_none}
use Rattle.join.proofs.Writing.{all_left, turn-written, none_left}
use Rattle.join.proofs.put_rows.Goals as goal

pub loop-a-init : goal.loop-a-init
loop-a-init c = all_left c.requires refl

pub loop-a-preserved : goal.loop-a-preserved
loop-a-preserved c =
    let t = c.row_turn-turn.ensures in
    turn-written c.loop-a.invariant t.turn t.walks c.put_row-o.ensures

pub returns : goal.returns
returns c = none_left c.loop-a.invariant (rows_none _ c.loop-a.a _ c.loop-a.b (omega arith))
