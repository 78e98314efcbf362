-- What is printed is the listing of all that standard input had, and a short input has it in little room.
use mathlib.Core.Path.{◌≡◌, refl, sym, ap, ◌∙◌}
use mathlib.Core.Bool.{cond}
use mathlib.Core.List.{List}
use Prim.Native.Nat.{ℕ, ◌+◌, ◌*◌, ◌≤◌, ◌<◌}
use native.Mathlib.Omega.{arith}
use borrow.Author.Tests.{lt-ltb, le-ltb}
use lib.Dec.{ltb}
use lib.ListN.{length, length-drop}
use Rattle.rules.specs.Answer.{refusal, too_long_lem, bad_table}
use Rattle.rules.specs.Rows.{control_width, property_width, room}
use Rattle.rules.specs.NameTables.{text_names, number_names, bytes_names, control_type_names}
use Rattle.rules.specs.Room.{room2000, room_later_lem, room_for}
use Rattle.rules.specs.Blob.{Outcome, exit}
use Rattle.rules.specs.Listing.{answer_line, printed, table_length, table_in, blob_in}
use Rattle.claims.specs.Rooms.{Never, Lent}
use Rattle.claims.proofs.Rooms.{rooms}
use Rattle.listing.specs.Bound.{longest_in, longest_type, longest_name, longest_answer, longest_control, longest_property}
use Rattle.bloblines.specs.Blobs.{longest_blob, control_room, property_room, blob_listed, longest_input, blob_listing, listed_in_lem, most_in}
use Rattle.bloblines.proofs.BlobLaws.{same_outcome}
use Rattle.bloblist.specs.Space.{Roomy}

not_long : (s : List ℕ) → length s ≤ longest_input → blob_listing s ≡ blob_listed s control_room property_room
unfolding blob_listing
not_long s h = rw (le-ltb longest_input (length s) h)

pub too_long : (s : List ℕ) → longest_input < length s → blob_listing s ≡ answer_line (refusal too_long_lem)
unfolding blob_listing
too_long s h = rw (lt-ltb longest_input (length s) h)

pub all_listed : {s cs ps out : List ℕ} → Roomy s cs ps out → listed_in_lem s cs ps ≡ blob_listing s
all_listed {s} r = r.same ∙ sym (not_long s r.short)

-- ---- the longest lines, computed from the name tables
lines_are : (longest_control ≡ 91) × (longest_property ≡ 95)
unfolding longest_type longest_name longest_in text_names number_names bytes_names control_type_names
lines_are = (refl, refl)

lines_fit : (cs ps out : List ℕ) (c p : ℕ) → room control_width cs ≡ c → room property_width ps ≡ p → longest_answer + (c * 91 + p * 95) ≤ length out → most_in cs ps ≤ length out
lines_fit cs ps out c p f g h = rw (f, g, lines_are.0, lines_are.1) h

-- ---- room for every input that is read
pub large_roomy : {s cs ps out : List ℕ} → length s ≤ longest_input → length cs ≡ control_room * control_width → length ps ≡ property_room * property_width → 26394675 ≤ length out → Roomy s cs ps out
large_roomy {s} {cs} {ps} {out} short c p o =
    let f : room control_width cs ≡ control_room = rw c in
    let g : room property_width ps ≡ property_room = rw p in
    record { short = short; same = rw (f, g); for_lines = lines_fit cs ps out control_room property_room f g (omega arith) }

-- ---- little room for a short one: its Blob has 16,379 bytes at most
module _ (input cs ps : List ℕ) (small : length input < 16384) (c : room control_width cs ≡ 5461) (p : room property_width ps ≡ 16384) where
  lent : Lent cs ps (room_for 16379)
  unfolding room_for room2000 room_later_lem
  lent = (omega arith, omega arith)

  never : Never (exit (table_in input) (blob_in input) cs ps).answer
  never = (rooms.enough (table_in input) (blob_in input) cs ps).any 16379 (simp length-drop (omega arith)) lent

  small_same : listed_in_lem input cs ps ≡ blob_listed input control_room property_room
  unfolding blob_listed exit
  small_same =
      let e = same_outcome (room control_width cs) (room property_width ps) control_room property_room (omega arith) (omega arith) (table_in input) (blob_in input) never.0 never.1 in
      ap (λ (o : Outcome). cond (ltb (length input) 4) (answer_line (refusal bad_table))
      (cond (ltb (length input) (4 + table_length input)) (answer_line (refusal bad_table))
      (cond (ltb longest_blob (length (blob_in input))) (answer_line (refusal too_long_lem))
      (printed (blob_in input) o)))) e

pub small_roomy : {s cs ps out : List ℕ} → length s < 16384 → length cs ≡ 5461 * control_width → length ps ≡ 16384 * property_width → 2053482 ≤ length out → Roomy s cs ps out
small_roomy {s} {cs} {ps} {out} small c p o =
    let f : room control_width cs ≡ 5461 = rw c in
    let g : room property_width ps ≡ 16384 = rw p in
    record { short = omega arith; same = small_same s cs ps small f g; for_lines = lines_fit cs ps out 5461 16384 f g (omega arith) }
