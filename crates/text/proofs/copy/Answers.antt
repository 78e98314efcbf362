use Rattle.text.proofs.Copies.{none_left, parts, piece_room}
use Rattle.text.proofs.Remains.{on}
use Rattle.text.proofs.copy.Goals as goal

pub loop-piece-preserved : goal.loop-piece-preserved
loop-piece-preserved c =
    let i = c.loop-piece.invariant in
    let e = c.in-Some.ensures.cases in
    let s = parts 8 e.0 e.1 in
    record { room = piece_room _ s i.room c.set_eight-o.ensures; remains = on i.remains s c.set_eight-o.ensures }

pub returns : goal.returns
returns c =
    c.loop-piece.invariant.remains.so _ _ (c.copy_pieces-o.ensures.so _ _ (c.copy_pieces-o-2.ensures.so _ _ (c.copy_pieces-o-3.ensures.so _ _ (none_left c.copy_pieces-o-3.ensures.few))))
