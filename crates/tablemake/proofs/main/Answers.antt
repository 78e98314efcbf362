use mathlib.Core.Path.{sym}
use Prim.Native.Nat.{ℕ}
use lib.ListN.{length-replicate}
use Rattle.tabletext.proofs.Room.{room as enough}
use Rattle.tablemake.proofs.main.Goals as goal

pub slice_bounds-run-end : goal.slice_bounds-run-end
slice_bounds-run-end c = sym (length-replicate {A = ℕ} 2097153 0)

pub slice_bounds-run-end-2 : goal.slice_bounds-run-end-2
slice_bounds-run-end-2 c = sym (length-replicate {A = ℕ} 65100 0)

pub run-requires : goal.run-requires
run-requires c = record { table-room = length-replicate {A = ℕ} 65100 0; line-room = enough 128; all_read = enough 2097153 }
