-- What is printed is the listing of all that standard input had.
use mathlib.Core.Path.{◌≡◌}
use mathlib.Core.Bool.{false}
use mathlib.Core.List.{List}
use Prim.Native.Nat.{ℕ, ◌*◌, ◌-◌, ◌/◌, ◌≤◌}
use native.Mathlib.Omega.{arith}
use lib.ListN.{length, take}
use Rattle.rules.specs.Bytes.{Bytes}
use Rattle.rules.specs.Rows.{type_info_width, room}
use Rattle.rules.specs.Room.{type_info_room_lem}
use Rattle.text.specs.Writer.{Wrote}
use Rattle.inputs.specs.Begun.{Begun}
use Rattle.inputs.proofs.Came as came
use Rattle.infolines.specs.Infos.{info_printed, longest_info, info_listing, info_most}
use Rattle.infolines.proofs.Printed.{listed}
use Rattle.infolines.proofs.Longest.{printed-short}
use Rattle.infolist.specs.Space.{Roomy}

pub all-printed : {s rows old new : List ℕ} {end : ℕ} → Wrote old 0 (info_printed s (room type_info_width rows)) new end → Bytes s → Roomy s rows old
    → (input : List ℕ) → Begun s false input → take end new ≡ info_listing input
all-printed {s} {rows} w bytes r =
    let n = room type_info_width rows in
    came.all-printed info_listing (record { wrote = w; short = printed-short s bytes (omega (arith, r.short)) n }) r.for_lines (listed s r.short n r.for_rows)

-- room for n bytes is room for fewer
pub roomy : {s rows out : List ℕ} (n : ℕ) → n ≤ longest_info → length s ≤ n → (n - 32) / 8 * type_info_width ≤ length rows → info_most n ≤ length out → Roomy s rows out
unfolding type_info_room_lem
roomy n h l r o = record { short = omega arith; for_rows = omega arith; for_lines = omega arith }
