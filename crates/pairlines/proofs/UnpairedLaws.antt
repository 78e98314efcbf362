-- Controls that found no row, and their lines.
use mathlib.Core.Path.{◌≡◌, refl, sym, ap, ap₂, ◌∙◌}
use mathlib.Core.Bool.{Bool, true, false, cond, not}
use mathlib.Core.List.{List, [], ◌∷◌}
use mathlib.Core.Option.{Option, none, some}
use Prim.Native.Nat.{ℕ, ◌+◌, ◌≤◌, ◌<◌}
use native.Mathlib.Omega.{arith}
use native.Mathlib.Numerals.{add-one}
use borrow.Author.Tests.{eq-eqb}
use lib.Dec.{eqb}
use lib.ListN.{length, drop, length-append}
use Rattle.rules.specs.Lists.{find, text}
use Rattle.rules.specs.Digits.{decimal}
use Rattle.rules.specs.Rows.{control_width, row_at}
use Rattle.rules.specs.Listing.{line}
use Rattle.rules.specs.Pairing.{mark_of, start_of, size_of, control_name_lem, type_by, has_name, paired_type, control_ok}
use Rattle.rules.proofs.PairingLaws.{same_name}
use Rattle.text.specs.Writer.{Wrote}
use Rattle.text.proofs.Chain.{nothing, ◌⨟◌, wrote_as}
use Rattle.rows.specs.Put.{control_words}
use Rattle.rows.specs.Get.{ControlOf}
use Rattle.rows.specs.declared.ControlRow.{ControlRow}
use Rattle.listing.specs.Shown.{lines_to}
use Rattle.pairlines.specs.Pairs.{shown_name, is_none, is_unpaired, unpaired_line, count_line}
use Rattle.pairlines.specs.Told.{tally, unpaired_to, Tells}
use Rattle.pairlines.specs.declared.Told.{Told}

-- ---- a row with another type
pub typed_ok : (s : List ℕ) (row other : ControlRow) (type : ℕ) → control_words other ≡ type ∷ drop 1 (control_words row) → control_ok s (control_words row) ≡ true
    → control_ok s (control_words other) ≡ true
typed_ok s row other type e h = ap (control_ok s) e ∙ h

-- the type that is left or found differs exactly where it is left
differ : (o : Option (List ℕ)) → not (eqb (type_by 0 o) (type_by 1 o)) ≡ is_none o
differ none = refl
differ (some info) = rw (eq-eqb (type_by 0 (some info)) (type_by 1 (some info)) refl)

pub told_apart : (s t : List ℕ) (infos : List (List ℕ)) (row one other : ControlRow) (a b : ℕ)
    → control_words one ≡ 0 ∷ drop 1 (control_words row) → control_words other ≡ 1 ∷ drop 1 (control_words row)
    → a ≡ paired_type s t infos (control_words one) → b ≡ paired_type s t infos (control_words other)
    → not (eqb a b) ≡ is_unpaired s t infos (control_words row)
unfolding paired_type is_unpaired control_name_lem
told_apart s t infos row one other a b e f p q =
    ap₂ (λ (x y : ℕ). not (eqb x y)) (p ∙ ap (paired_type s t infos) e) (q ∙ ap (paired_type s t infos) f) ∙ differ (find (has_name t (control_name_lem s (control_words row))) infos)

-- ---- its line
module _ (s t : List ℕ) (infos : List (List ℕ)) (n : ℕ) (row : List ℕ) where
  pub found-one : is_unpaired s t infos row ≡ false → {old : List ℕ} {told : Told} → Tells s t infos n row old told old told
  unfolding unpaired_line tally
  found-one e = record { wrote = rw e nothing; counted = rw e (omega arith) }

  pub found_none : is_unpaired s t infos row ≡ true → {old b1 b2 b3 b4 b5 new : List ℕ} {p1 p2 p3 p4 p5 : ℕ} {told after : Told}
      → Wrote old told.at (text "U") b1 p1 → Wrote b1 p1 (text " ") b2 p2 → Wrote b2 p2 (decimal n) b3 p3 → Wrote b3 p3 (text " ") b4 p4
      → Wrote b4 p4 (shown_name s row) b5 p5 → Wrote b5 p5 (text "\n") new after.at → after.count ≡ told.count + 1 → Tells s t infos n row old told new after
  unfolding unpaired_line tally
  found_none e w1 w2 w3 w4 w5 w6 c = record { wrote = rw e (w1 ⨟ w2 ⨟ w3 ⨟ w4 ⨟ w5 ⨟ w6); counted = rw e c }

pub count-wrote : (n : ℕ) {old b1 b2 new : List ℕ} {at p1 p2 e : ℕ} → Wrote old at (text "unpaired ") b1 p1 → Wrote b1 p1 (decimal n) b2 p2 → Wrote b2 p2 (text "\n") new e
    → Wrote old at (count_line n) new e
unfolding count_line
count-wrote n w1 w2 w3 = w1 ⨟ w2 ⨟ w3

-- ---- a row by its words
-- the mark, the start and the length tell whether it is unpaired, and its line
module _ (s t : List ℕ) (infos : List (List ℕ)) (a b : List ℕ) (mark : mark_of a ≡ mark_of b) (start : start_of a ≡ start_of b) (size : size_of a ≡ size_of b) where
  pub same_unpaired : is_unpaired s t infos a ≡ is_unpaired s t infos b
  unfolding is_unpaired
  same_unpaired = ap (λ (name : Option (List ℕ)). is_none (find (has_name t name) infos)) (same_name s a b mark start size)

  same-shown : shown_name s a ≡ shown_name s b
  unfolding shown_name
  same-shown = rw (mark, start, size)

  pub same_line : (n : ℕ) → unpaired_line s t infos n a ≡ unpaired_line s t infos n b
  unfolding unpaired_line
  same_line n = ap₂ (λ (x : Bool) (y : List ℕ). cond x (line (text "U" ∷ decimal n ∷ y ∷ [])) []) same_unpaired same-shown

  pub same-tally : (n : ℕ) → tally s t infos n a ≡ tally s t infos n b
  unfolding tally
  same-tally n = ap (λ (x : Bool). cond x (0 ∷ []) []) same_unpaired

pub tally-one : (s t : List ℕ) (infos : List (List ℕ)) (n : ℕ) (row : List ℕ) → length (tally s t infos n row) ≤ 1
unfolding tally
tally-one s t infos n row = by (is_unpaired s t infos row)
  where
    by : (b : Bool) → length {A = ℕ} (cond b (0 ∷ []) []) ≤ 1
    by true = omega arith
    by false = omega arith

-- ---- row by row
-- of `count` rows the first n are told where they found none
pub record Telling (s t words : List ℕ) (infos : List (List ℕ)) (count : ℕ) (old : List ℕ) (at : ℕ) (new : List ℕ) (told : Told) (n : ℕ) : Type 0 where
  pub few : n ≤ count
  pub wrote : Wrote old at (lines_to (unpaired_line s t infos) control_width n words) new told.at
  pub counted : told.count ≡ length (lines_to (tally s t infos) control_width n words)
  pub within : told.count ≤ n

module _ {s t words : List ℕ} {infos : List (List ℕ)} {count : ℕ} {old : List ℕ} {at : ℕ} where
  pub telling_none : {told : Told} → told.at ≡ at → told.count ≡ 0 → Telling s t words infos count old at old told 0
  unfolding lines_to
  telling_none p z = record { few = omega arith; wrote = rw p nothing; counted = z; within = omega arith }

  pub telling_more : {new next : List ℕ} {told after : Told} {n : ℕ} {r : ControlRow} → Telling s t words infos count old at new told n → n < count
      → ControlOf (row_at control_width n words) r → Tells s t infos n (control_words r) new told next after → Telling s t words infos count old at next after (n + 1)
  unfolding lines_to
  telling_more {n = n} {r} k l c w =
      let row = row_at control_width n words in
      let e = same-tally s t infos (control_words r) row c.mark c.start c.size n in
      let few = tally-one s t infos n (control_words r) in
      record {
        few = omega arith;
        wrote = rw add-one (k.wrote ⨟ wrote_as w.wrote (same_line s t infos (control_words r) row c.mark c.start c.size n));
        counted = rw add-one (w.counted
            ∙ ap₂ (λ (x : ℕ) (y : List ℕ). x + length y) k.counted e
            ∙ sym (length-append (lines_to (tally s t infos) control_width n words) (tally s t infos n row)));
        within = omega (arith, w.counted, k.within);
      }

  pub telling_all : {new next : List ℕ} {told : Told} {n e : ℕ} → Telling s t words infos count old at new told n → count ≤ n → Wrote new told.at (count_line told.count) next e
      → Wrote old at (unpaired_to s t infos count words) next e
  unfolding unpaired_to
  telling_all {n = n} k l w =
      let e : n ≡ count = omega (arith, k.few) in
      rw e at (k.wrote ⨟ wrote_as w (ap count_line k.counted))
