use Rattle.text.proofs.Copies.{parts, piece_room}
use Rattle.text.proofs.Remains.{on}
use Rattle.text.proofs.copy_pieces.Goals as goal

pub loop-piece-preserved : goal.loop-piece-preserved
loop-piece-preserved g c =
    let i = c.loop-piece.invariant in
    let e = c.in-Some.ensures.cases in
    let s = parts g.row.N e.0 e.1 in
    record { room = piece_room _ s i.room c.set-o.ensures; remains = on i.remains s c.set-o.ensures }
