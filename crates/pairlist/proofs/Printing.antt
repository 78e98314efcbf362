-- What is printed is the listing of all that standard input had, and a short input has it in little room.
use mathlib.Core.Path.{◌≡◌, refl, sym, ap, ap₂, ◌∙◌}
use mathlib.Core.Bool.{Bool, true, false, cond}
use mathlib.Core.List.{List, [], ◌++◌}
use mathlib.Core.Option.{Option, none, some}
use Prim.Native.Nat.{ℕ, ◌+◌, ◌*◌, ◌-◌, ◌/◌, ◌≤◌, ◌<◌}
use native.Mathlib.Omega.{arith}
use borrow.Author.Tests.{lt-ltb, le-ltb, ltb-true, ltb-false}
use lib.Dec.{ltb, eqb}
use lib.ListN.{length, drop, length-drop, length-take}
use Rattle.rules.specs.Answer.{refusal, too_long_lem, other_layout, longest}
use Rattle.rules.specs.Bytes.{u32}
use Rattle.rules.specs.Rows.{control_width, property_width, type_info_width, room}
use Rattle.rules.specs.NameTables.{control_type_names}
use Rattle.rules.specs.Room.{type_info_room_lem}
use Rattle.rules.specs.TypeInfo.{type_info_answer}
use Rattle.rules.specs.Reading.{properties}
use Rattle.rules.specs.Tree.{Entries}
use Rattle.rules.specs.Later.{Prop, tree_of}
use Rattle.rules.specs.ReadLater.{read_later_lem}
use Rattle.rules.specs.Blob.{Outcome, fit, refused, speaks2000, outcome_later}
use Rattle.rules.specs.Listing.{answer_line}
use Rattle.rules.specs.declared.Answer.{Answer}
use Rattle.claims.proofs.TakesLater.{tree-fits, scan-fits, short-fits}
use Rattle.listing.specs.Bound.{longest_in, longest_type, longest_control}
use Rattle.infolines.proofs.Printed.{same_answer}
use Rattle.pairlines.specs.Pairs.{info_in, blob_in, info_room, control_room, property_room, longest_input, blob_paired, pair_printed, pair_listed, pair_listing}
use Rattle.pairlines.specs.Told.{listed_in_lem}
use Rattle.pairlist.specs.Space.{Roomy}

not_long : (s : List ℕ) → length s ≤ longest_input → pair_listing s ≡ pair_listed s info_room control_room property_room
unfolding pair_listing
not_long s h = rw (le-ltb longest_input (length s) h)

pub too_long : (s : List ℕ) → longest_input < length s → pair_listing s ≡ answer_line (refusal too_long_lem)
unfolding pair_listing
too_long s h = rw (lt-ltb longest_input (length s) h)

pub all_listed : {s is cs ps out : List ℕ} → Roomy s is cs ps out → listed_in_lem s is cs ps ≡ pair_listing s
all_listed {s} r = r.same ∙ sym (not_long s r.short)

-- ---- the longest line, computed from the name table
line-is : longest_control ≡ 91
unfolding longest_type longest_in control_type_names
line-is = refl

-- ---- room by how many rows it is for
roomy : {s is cs ps out : List ℕ} (i c p : ℕ) → length is ≡ i * type_info_width → length cs ≡ c * control_width → length ps ≡ p * property_width → length s ≤ longest_input
    → pair_listed s i c p ≡ pair_listed s info_room control_room property_room → 122 + (c * 91 + c * 1544) ≤ length out → Roomy s is cs ps out
roomy {s} {is} {cs} {ps} i c p hi hc hp short same o =
    let e : room type_info_width is ≡ i = omega arith in
    let f : room control_width cs ≡ c = omega arith in
    let g : room property_width ps ≡ p = omega arith in
    record { short = short; same = rw (e, f, g) same; for_lines = rw (f, line-is) (omega arith) }

-- for every input that is read
pub large_roomy : {s is cs ps out : List ℕ} → length s ≤ longest_input → length is ≡ info_room * type_info_width → length cs ≡ control_room * control_width → length ps ≡ property_room * property_width
    → 26787962 ≤ length out → Roomy s is cs ps out
large_roomy short i c p o = roomy info_room control_room property_room i c p short refl (omega arith)

-- ---- little room for a short one: each of its streams has 16,375 bytes at most
few-rows : (s : List ℕ) → (length (properties (read_later_lem s)) ≤ (length s - 14) / 18) × (length (read_later_lem s).controls ≤ length (properties (read_later_lem s)))
few-rows s = go (tree_of s) (ltb (length s) 14) refl refl
  where
    go : (o : Option (Entries Prop)) (b : Bool) → tree_of s ≡ o → ltb (length s) 14 ≡ b
        → (length (properties (read_later_lem s)) ≤ (length s - 14) / 18) × (length (read_later_lem s).controls ≤ length (properties (read_later_lem s)))
    go (some es) b e f = let h = tree-fits s es e in (omega arith, h.1)
    go none false e f = let h = scan-fits s (ltb-false _ _ f) e in (omega arith, h.1)
    go none true e f = let h = short-fits s (ltb-true _ _ f) in (omega arith, omega arith)

module _ (s : List ℕ) (small : length s < 16376) where
  fits_in : (c p : ℕ) → 910 ≤ c → 910 ≤ p → fit c p (some (read_later_lem s)) ≡ Outcome.read (read_later_lem s)
  fits_in c p h k =
      let f = few-rows s in
      rw (le-ltb c (length (read_later_lem s).controls) (omega arith), le-ltb p (length (properties (read_later_lem s))) (omega arith))

  same_outcome : (layout c p c' p' : ℕ) → 910 ≤ c → 910 ≤ p → 910 ≤ c' → 910 ≤ p' → outcome_later layout s c p ≡ outcome_later layout s c' p'
  unfolding outcome_later
  same_outcome layout c p c' p' h k h' k' =
      ap (λ (o : Outcome). cond (ltb longest (length s)) (refused (refusal too_long_lem)) (cond (speaks2000 layout s) (refused (refusal other_layout)) o)) (fits_in c p h k ∙ sym (fits_in c' p' h' k'))

module _ (input : List ℕ) (small : length input < 16384) where
  info_short : length (info_in input) < 16376
  info_short = omega (arith, length-take (u32 input 4) (drop 8 input), length-drop 8 input)

  info_same : type_info_answer (info_in input) 2048 ≡ type_info_answer (info_in input) info_room
  unfolding type_info_room_lem
  info_same = let h = info_short in same_answer (info_in input) (omega arith) 2048 info_room (omega arith) (omega arith)

  blob-same : outcome_later (u32 input 0) (blob_in input) 910 910 ≡ outcome_later (u32 input 0) (blob_in input) control_room property_room
  blob-same =
      same_outcome (blob_in input) (omega (arith, length-drop (8 + u32 input 4) input)) (u32 input 0) 910 910 control_room property_room (omega arith) (omega arith) (omega arith) (omega arith)

  small_same : pair_listed input 2048 910 910 ≡ pair_listed input info_room control_room property_room
  unfolding pair_listed pair_printed
  small_same = ap₂ (λ (a : Answer) (o : Outcome). answer_line a ++ cond (eqb a.number 0) (blob_paired (blob_in input) (info_in input) o) []) info_same blob-same

pub small_roomy : {s is cs ps out : List ℕ} → length s < 16384 → length is ≡ 2048 * type_info_width → length cs ≡ 910 * control_width → length ps ≡ 910 * property_width
    → 1487972 ≤ length out → Roomy s is cs ps out
small_roomy {s} small i c p o = roomy 2048 910 910 i c p (omega arith) (small_same s small) (omega arith)
