use Rattle.std.proofs.Common.{arith}
use mathlib.Core.Path.{ap, ◌∙◌}
use Rattle.std.proofs.Common as code
use Rattle.numbers.proofs.Inside.{inside-room}
use Rattle.walk2000.proofs.Room.{run_room, head-room}
use Rattle.count2000.proofs.Entries.{list_room}
use Rattle.count2000.proofs.+entry_list.Goals as goal

pub entry-overflow_add-at : goal.entry-overflow_add-at
entry-overflow_add-at t c = omega (arith, inside-room _ _ _ _ c.u16_if_inside.ensures c.in_ok-entry_type.was)

pub entry-list-requires : goal.entry-list-requires
entry-list-requires t c =
    omega (arith, inside-room _ _ _ _ c.u16_if_inside.ensures c.in_ok-entry_type.was, run_room _ _ _ _ c.run_at.ensures c.in_ok-own.was, head-room _ _ _ _ _ c.head.ensures (c.in_ok-next.was ∙ ap code.Some c.in-Listed.is))

pub entry-overflow_add-result : goal.entry-overflow_add-result
entry-overflow_add-result t c =
    omega (arith, list_room c.list.ensures c.in_ok-below-in-Listed.was, head-room _ _ _ _ _ c.head.ensures (c.in_ok-next.was ∙ ap code.Some c.in-Listed.is))

pub entry-overflow_add-result-in-Listed : goal.entry-overflow_add-result-in-Listed
entry-overflow_add-result-in-Listed t c =
    omega (arith, list_room c.list.ensures c.in_ok-below-in-Listed.was, head-room _ _ _ _ _ c.head.ensures (c.in_ok-next.was ∙ ap code.Some c.in-Listed.is), run_room _ _ _ _ c.run_at.ensures c.in_ok-own.was)
