-- The listing by what the reader hands back, and in how much room.
use mathlib.Core.Path.{◌≡◌, refl, sym, ap, ap₂, ◌∙◌}
use mathlib.Core.Bool.{Bool, true, false, cond, not}
use mathlib.Core.List.{List, [], ◌++◌, map}
use Prim.Native.Nat.{ℕ, ◌-◌, ◌/◌, ◌≤◌, ◌<◌}
use native.Mathlib.Omega.{arith}
use borrow.Author.Tests.{lt-ltb, le-ltb, ltb-false, eq-eqb, ne_eqb}
use lib.Dec.{ltb, eqb}
use lib.ListN.{length, length-map}
use Rattle.rules.specs.Bytes.{u32}
use Rattle.rules.specs.Answer.{answer, refusal, too_short_lem, other_magic, too_many_entries, too_long_lem, more_controls, longest}
use Rattle.rules.specs.Rows.{type_info_width, room, written}
use Rattle.rules.specs.TypeInfo.{type_info_of, type_info_row, type_info_rows, type_info_answer, type_info_exit}
use Rattle.rules.specs.Room.{type_info_room_lem}
use Rattle.rules.specs.Listing.{answer_line, lines_from}
use Rattle.rules.specs.declared.Answer.{Answer}
use Rattle.rules.proofs.TypeInfoLaws.{info_wide}
use Rattle.text.specs.Writer.{Wrote}
use Rattle.text.proofs.Chain.{nothing, ◌⨟◌}
use Rattle.typeinfo.specs.Entries.{reported_at}
use Rattle.typeinfo.proofs.EntryLaws.{at_most}
use Rattle.listing.specs.Shown.{lines_to}
use Rattle.listing.proofs.Printed.{lines_written}
use Rattle.infolines.specs.Infos.{info_printed, longest_info, info_listing}
use Rattle.listing.specs.InfoLine.{info_line}

-- ---- answers
-- an answer by the tests of its definition, of which n entries are reported
abbrev pub decide : Bool → Bool → Bool → Bool → Bool → ℕ → Answer
decide a b c d e n =
    cond a (refusal too_long_lem)
    (cond b (refusal too_short_lem)
    (cond c (refusal other_magic)
    (cond d (refusal too_many_entries)
    (cond e (answer more_controls n 0 0) (answer 0 n 0 0)))))

-- what the answer 0 says
pub record Read (s : List ℕ) (rowRoom : ℕ) : Type 0 where
  pub header : 32 ≤ length s
  pub is : type_info_answer s rowRoom ≡ answer 0 (length (type_info_of s)) 0 0
  pub fits : length (type_info_of s) ≤ rowRoom

read_by : (size rowRoom n : ℕ) (a b : Bool) → ltb size 32 ≡ b → (c d e : Bool) → ltb rowRoom n ≡ e → (decide a b c d e n).number ≡ 0
    → (32 ≤ size) × ((decide a b c d e n ≡ answer 0 n 0 0) × (n ≤ rowRoom))
read_by size rowRoom n true b p c d e q z = absurd (omega arith)
read_by size rowRoom n false true p c d e q z = absurd (omega arith)
read_by size rowRoom n false false p true d e q z = absurd (omega arith)
read_by size rowRoom n false false p false true e q z = absurd (omega arith)
read_by size rowRoom n false false p false false true q z = absurd (omega arith)
read_by size rowRoom n false false p false false false q z = (ltb-false size 32 p, (refl, ltb-false rowRoom n q))

pub read : (s : List ℕ) (rowRoom : ℕ) → (type_info_answer s rowRoom).number ≡ 0 → Read s rowRoom
unfolding type_info_answer
read s rowRoom z =
    let n = length (type_info_of s) in
    let h = read_by (length s) rowRoom n (ltb longest (length s)) (ltb (length s) 32) refl (not (eqb (u32 s 0) 0xACCDEAF7)) (ltb ((length s - 32) / 8) (u32 s 12)) (ltb rowRoom n) refl z in
    record { header = h.0; is = h.1.0; fits = h.1.1 }

-- no more entries are reported than the header says
pub many : (s : List ℕ) → length (type_info_of s) ≤ u32 s 12
unfolding type_info_of reported_at
many s = at_most s 32 (u32 s 12)

-- ---- room for as many rows as the length allows is enough
same_by : (n : ℕ) (a b c d e f : Bool) → (d ≡ false → e ≡ f) → decide a b c d e n ≡ decide a b c d f n
same_by n true b c d e f h = refl
same_by n false true c d e f h = refl
same_by n false false true d e f h = refl
same_by n false false false true e f h = refl
same_by n false false false false e f h = ap (λ (g : Bool). decide false false false false g n) (h refl)

module _ (s : List ℕ) (small : length s ≤ longest_info) where
  enough : (rowRoom : ℕ) → type_info_room_lem (length s) ≤ rowRoom → ltb ((length s - 32) / 8) (u32 s 12) ≡ false → ltb rowRoom (length (type_info_of s)) ≡ false
  unfolding type_info_room_lem
  enough rowRoom h e = let k = ltb-false ((length s - 32) / 8) (u32 s 12) e in le-ltb rowRoom (length (type_info_of s)) (omega (arith, many s))

  pub same_answer : (q r : ℕ) → type_info_room_lem (length s) ≤ q → type_info_room_lem (length s) ≤ r → type_info_answer s q ≡ type_info_answer s r
  unfolding type_info_answer
  same_answer q r h k =
      same_by (length (type_info_of s)) (ltb longest (length s)) (ltb (length s) 32) (not (eqb (u32 s 0) 0xACCDEAF7)) (ltb ((length s - 32) / 8) (u32 s 12))
      (ltb q (length (type_info_of s))) (ltb r (length (type_info_of s))) (λ e. enough q h e ∙ sym (enough r k e))

  more_room : type_info_room_lem (length s) ≤ type_info_room_lem longest_info
  unfolding type_info_room_lem
  more_room = omega arith

  pub listed : (rowRoom : ℕ) → type_info_room_lem (length s) ≤ rowRoom → info_printed s rowRoom ≡ info_listing s
  unfolding info_listing info_printed
  listed rowRoom h =
      rw (le-ltb longest_info (length s) small)
      (ap (λ (a : Answer). answer_line a ++ cond (eqb a.number 0) (lines_from (info_line s) 0 (type_info_rows s)) []) (same_answer rowRoom (type_info_room_lem longest_info) h more_room))

pub too_long : (s : List ℕ) → longest_info < length s → info_listing s ≡ answer_line (refusal too_long_lem)
unfolding info_listing
too_long s h = rw (lt-ltb longest_info (length s) h)

-- ---- a stream read into lent rows
module _ (s rows : List ℕ) (a : Answer) (is : a ≡ (type_info_exit s rows).answer) {o b : List ℕ} {q : ℕ} (w : Wrote o 0 (answer_line a) b q) where
  lines_are : info_printed s (room type_info_width rows) ≡ answer_line a ++ cond (eqb a.number 0) (lines_from (info_line s) 0 (type_info_rows s)) []
  unfolding info_printed type_info_exit
  lines_are = ap (λ (x : Answer). answer_line x ++ cond (eqb x.number 0) (lines_from (info_line s) 0 (type_info_rows s)) []) (sym is)

  pub refused : (a.number ≡ 0 → ⊥) → Wrote o 0 (info_printed s (room type_info_width rows)) b q
  refused h =
      let e : info_printed s (room type_info_width rows) ≡ answer_line a ++ [] = lines_are ∙ rw (ne_eqb a.number 0 h) in
      rw e (w ⨟ nothing)

  module _ (z : a.number ≡ 0) (new : List ℕ) (set : new ≡ (type_info_exit s rows).rows) where
    zero-said : (type_info_answer s (room type_info_width rows)).number ≡ 0
    unfolding type_info_exit
    zero-said = ap (λ (x : Answer). x.number) (sym is) ∙ z

    new_is : new ≡ written (type_info_rows s) rows
    unfolding type_info_exit
    new_is = set ∙ rw (eq-eqb (type_info_answer s (room type_info_width rows)).number 0 zero-said)

    count-is : length (type_info_rows s) ≡ a.first
    unfolding type_info_exit type_info_rows
    count-is = length-map (type_info_of s) type_info_row ∙ sym (ap (λ (x : Answer). x.first) (is ∙ (read s (room type_info_width rows) zero-said).is))

    shown : lines_from (info_line s) 0 (type_info_rows s) ≡ lines_to (info_line s) type_info_width a.first new
    unfolding type_info_rows
    shown =
        let f : length (type_info_of s) ≤ room type_info_width rows = (read s (room type_info_width rows) zero-said).fits in
        let l : length (map type_info_row (type_info_of s)) ≡ length (type_info_of s) = length-map (type_info_of s) type_info_row in
        lines_written (info_line s) type_info_width (type_info_rows s) (info_wide (type_info_of s)) rows (omega arith)
        ∙ ap₂ (λ (n : ℕ) (x : List ℕ). lines_to (info_line s) type_info_width n x) count-is (sym new_is)

    pub wrote-all : {n : List ℕ} {e : ℕ} → Wrote b q (lines_to (info_line s) type_info_width a.first new) n e → Wrote o 0 (info_printed s (room type_info_width rows)) n e
    wrote-all v =
        let e : info_printed s (room type_info_width rows) ≡ answer_line a ++ lines_to (info_line s) type_info_width a.first new
        = lines_are ∙ rw (eq-eqb a.number 0 z) (ap (λ (x : List ℕ). answer_line a ++ x) shown) in
        rw e (w ⨟ v)
