-- The counts of an answer are those of the reading, and on 0 the rows lent have room for it.
use Prim.Native.Nat.{ℕ, ◌*◌, ◌≤◌}
use native.Mathlib.Omega.{arith}
use mathlib.Core.Path.{◌≡◌, refl, sym, ap, ◌∙◌}
use mathlib.Core.Bool.{Bool, true, false, not, cond}
use mathlib.Core.List.{List, ◌++◌}
use mathlib.Core.Option.{Option, none, some}
use borrow.Author.Tests.{ltb-false, eq-eqb}
use lib.Dec.{ltb}
use lib.ListN.{length, drop, length-map}
use Rattle.rules.specs.Answer.{refusal, too_long_lem, bad_table, more_controls, more_properties, longest}
use Rattle.rules.specs.CodeTable.{well_formed_lem}
use Rattle.rules.specs.Lists.{concat}
use Rattle.rules.specs.TypeInfo.{type_info_of, type_info_rows, type_info_answer, type_info_exit}
use Rattle.rules.specs.Rows.{control_width, property_width, type_info_width, room, written}
use Rattle.rules.specs.declared.Answer.{Answer}
use Rattle.rules.specs.Reading.{Reading, properties, control_rows, property_rows}
use Rattle.rules.specs.Blob.{refused, read, counted, reading_of, fit, outcome, exit_by_lem, exit}
use Rattle.rules.proofs.RowsLaws.{written_is}
use Rattle.rules.proofs.TypeInfoLaws.{info_wide}
use Rattle.rules.proofs.ReadingLaws.{controls_wide, properties_wide, controls-counted, properties-counted}
use Rattle.claims.specs.Answers.{TypeInfoAnswer}
use Rattle.claims.specs.Counts.{Counted, InfoCounted, AllCounts}
use Rattle.claims.proofs.Answers.{info_told}

-- ---- a reading that is given has room
module _ (c p : ℕ) (r : Reading) where
  abbrev Room : Type 0
  Room = (length r.controls ≤ c) × (length (properties r) ≤ p)

  no-refusal : {X : Type 0} {a : _} → refused a ≡ read r → X
  no-refusal e = absurd (let z : ◌≡◌ {A = ℕ} 0 1 = cc in omega arith)

  fit-room : (o : Option Reading) → fit c p o ≡ read r → Room
  fit-room none e = no-refusal e
  fit-room (some x) e = go (ltb c (length x.controls)) (ltb p (length (properties x))) refl refl e
    where
      go : (b d : Bool) → ltb c (length x.controls) ≡ b → ltb p (length (properties x)) ≡ d
          → cond b (refused (counted more_controls x)) (cond d (refused (counted more_properties x)) (read x)) ≡ read r → Room
      go true d h k e = no-refusal e
      go false true h k e = no-refusal e
      go false false h k e =
          let q : x ≡ r = cc in
          let room : (length x.controls ≤ c) × (length (properties x) ≤ p) = (ltb-false _ _ h, ltb-false _ _ k) in
          rw q at room

outcome-room : (t s : List ℕ) (c p : ℕ) (r : Reading) → outcome t s c p ≡ read r → Room c p r
unfolding outcome
outcome-room t s c p r e = go (ltb longest (length s)) (well_formed_lem t) e
  where
    go : (b d : Bool) → cond b (refused (refusal too_long_lem)) (cond (not d) (refused (refusal bad_table)) (fit c p (reading_of t s))) ≡ read r → Room c p r
    go true d e = no-refusal c p r e
    go false false e = no-refusal c p r e
    go false true e = fit-room c p r (reading_of t s) e

module _ (t s cs ps : List ℕ) (r : Reading) (e : outcome t s (room control_width cs) (room property_width ps) ≡ read r) where
  exit-is : exit t s cs ps ≡ exit_by_lem (read r) cs ps
  unfolding exit
  exit-is = ap (λ o. exit_by_lem o cs ps) e

  counts : Counted cs ps r (exit t s cs ps)
  unfolding control_rows property_rows
  counts =
      let h = outcome-room t s (room control_width cs) (room property_width ps) r e in
      let c = controls-counted r in
      let p = properties-counted r in
      record {
        number = ap (λ x. x.answer.number) exit-is;
        first = ap (λ x. x.answer.first) exit-is ∙ sym c;
        second = ap (λ x. x.answer.second) exit-is ∙ sym p;
        third = ap (λ x. x.answer.third) exit-is;
        control-words = ap (λ x. x.controls) exit-is ∙ written_is control_width (control_rows r) (controls_wide 0 (length r.own) r.controls) cs (omega arith);
        property-words = ap (λ x. x.properties) exit-is ∙ written_is property_width (property_rows r) (properties_wide (properties r)) ps (omega arith);
      }

-- ---- TypeInfo, the same
pub info_many : (s : List ℕ) → length (type_info_rows s) ≡ length (type_info_of s)
unfolding type_info_rows
info_many s = simp length-map

-- what the table of answers says of answer 0
info_room_lem : (s rows : List ℕ) (a : Answer) → TypeInfoAnswer s rows a → a.number ≡ 0 → (a.first ≡ length (type_info_of s)) × (length (type_info_of s) ≤ room type_info_width rows)
info_room_lem s rows _ (TypeInfoAnswer.five h) e = absurd (omega arith)
info_room_lem s rows _ (TypeInfoAnswer.one h) e = absurd (omega arith)
info_room_lem s rows _ (TypeInfoAnswer.two h k m) e = absurd (omega arith)
info_room_lem s rows _ (TypeInfoAnswer.three h k m l) e = absurd (omega arith)
info_room_lem s rows _ (TypeInfoAnswer.six n h) e = absurd (omega arith)
info_room_lem s rows _ (TypeInfoAnswer.zero n h) e = (refl, h)

pub info_counts : (s rows : List ℕ) → (type_info_exit s rows).answer.number ≡ 0 → InfoCounted s rows (type_info_exit s rows)
unfolding type_info_exit
info_counts s rows e =
    let h = info_room_lem s rows (type_info_answer s (room type_info_width rows)) (info_told s rows) e in
    let m = info_many s in
    record {
      first = h.0 ∙ sym m;
      words = rw (eq-eqb (type_info_answer s (room type_info_width rows)).number 0 e) (words m h.1);
    }
  where
    words : length (type_info_rows s) ≡ length (type_info_of s) → length (type_info_of s) ≤ room type_info_width rows
        → written (type_info_rows s) rows ≡ concat (type_info_rows s) ++ drop (length (type_info_rows s) * type_info_width) rows
    words m h = written_is type_info_width (type_info_rows s) (unfold type_info_rows in info_wide (type_info_of s)) rows (omega arith)

pub counts_hold : AllCounts
counts_hold = record { blobs = counts; type-infos = info_counts }
