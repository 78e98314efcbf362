use mathlib.Core.Path.{sym}
use Prim.Native.Nat.{ℕ}
use lib.ListN.{length-replicate}
use Rattle.tabletext.proofs.Room.{room as enough}
use Rattle.tableshow.proofs.main.Goals as goal

pub slice_bounds-show-end-2 : goal.slice_bounds-show-end-2
slice_bounds-show-end-2 c = sym (length-replicate {A = ℕ} 731386 0)

pub show-requires : goal.show-requires
show-requires c = record { all_read = enough 65101; room = enough 731386 }
