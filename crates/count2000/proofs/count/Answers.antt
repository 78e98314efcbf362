use Rattle.std.proofs.Common.{arith}
use mathlib.Core.Path.{ap, ◌∙◌}
use Rattle.std.proofs.Common as code
use Rattle.walk2000.proofs.Room.{run_room, head-room}
use Rattle.count2000.proofs.Streams.{top_room}
use Rattle.count2000.proofs.count.Goals as goal

pub overflow_add-result : goal.overflow_add-result
overflow_add-result c =
    omega (arith, top_room _ _ _ c.top.ensures c.in_ok-all.was, head-room _ _ _ _ _ c.head.ensures (c.in_ok-count.was ∙ ap code.Some c.in-Listed.is), run_room _ _ _ _ c.run_at.ensures c.in_ok-own.was)
