-- The lines of a Blob by what its reader hands back, how long they can be, and in how much room they are the same.
use mathlib.Core.Path.{◌≡◌, refl, sym, ap, ◌∙◌}
use mathlib.Core.Bool.{Bool, true, false, cond, not}
use mathlib.Core.List.{List, [], ◌++◌}
use mathlib.Core.Option.{Option, none, some}
use Prim.Native.Nat.{ℕ, ◌+◌, ◌*◌, ◌≤◌, ◌<◌}
use native.Mathlib.Omega.{arith}
use native.Mathlib.Nat.{mul-le-mul}
use borrow.Author.Tests.{le-ltb, ltb-false, eq-eqb, ne_eqb}
use lib.Dec.{ltb}
use lib.ListN.{length, get_or, length-append}
use Rattle.rules.specs.Answer.{longest}
use Rattle.rules.specs.Rows.{control_width, property_width, room, row_at}
use Rattle.rules.specs.CodeTable.{well_formed_lem}
use Rattle.rules.specs.Reading.{Reading, properties}
use Rattle.rules.specs.Blob.{Outcome, refused, read, fit, outcome, reading_of, answer_of, exit}
use Rattle.rules.specs.Listing.{answer_line, word, control_line, property_line}
use Rattle.rules.specs.declared.Answer.{Answer}
use Rattle.blob.specs.Exit.{exited}
use Rattle.text.specs.Writer.{Wrote}
use Rattle.text.proofs.Chain.{nothing, ◌⨟◌}
use Rattle.rows.proofs.GetLaws.{word_in}
use Rattle.listing.specs.Shown.{lines_to, shown}
use Rattle.listing.specs.Written.{Written}
use Rattle.listing.specs.Bound.{longest_answer, longest_control, longest_property}
use Rattle.listing.proofs.Printed.{Stated, outcome_stated, printed-shown}
use Rattle.listing.proofs.Longest.{Word32, answer-short, control-short, property-short, lines_short}
use Rattle.bloblines.specs.Blobs.{lines_in, most_in}

-- ---- counts with the answer 0 are within the room
room_by : (c p : ℕ) (o : Outcome) → Stated c p o → (answer_of o).number ≡ 0 → ((answer_of o).first ≤ c) × ((answer_of o).second ≤ p)
room_by c p (refused a) h z = absurd (h z)
room_by c p (read r) h z = h

-- so many lines as there is room for
at_most : {x n : ℕ} (room each : ℕ) → x ≤ n * each → n ≤ room → x ≤ room * each
at_most room each h l = let same : each ≤ each = omega arith in omega (arith, mul-le-mul l same)

module _ (t s cs ps : List ℕ) (a : Answer) (cs' ps' : List ℕ) (x : exited a cs' ps' ≡ exit t s cs ps) where
  lines_are : lines_in t s cs ps ≡ shown s (exited a cs' ps')
  lines_are = printed-shown t s cs ps ∙ ap (shown s) (sym x)

  rooms : a.number ≡ 0 → (a.first ≤ room control_width cs) × (a.second ≤ room property_width ps)
  unfolding exit
  rooms z =
      let e : a ≡ answer_of (outcome t s (room control_width cs) (room property_width ps)) = ap (λ e. e.answer) x in
      let h = room_by (room control_width cs) (room property_width ps) (outcome t s (room control_width cs) (room property_width ps)) (outcome_stated _ _ t s) (ap (λ (r : Answer). r.number) (sym e) ∙ z) in
      (omega (arith, ap (λ (r : Answer). r.first) e, h.0), omega (arith, ap (λ (r : Answer). r.second) e, h.1))

  -- the words are of 32 bits
  pub record Words : Type 0 where
    pub number : Word32 a.number
    pub first : Word32 a.first
    pub second : Word32 a.second
    pub third : Word32 a.third
    pub controls : (i : ℕ) → Word32 (get_or cs' i 0)
    pub properties : (i : ℕ) → Word32 (get_or ps' i 0)

  module _ (w : Words) where
    answer-most : length (answer_line a) ≤ longest_answer
    answer-most = answer-short a w.number w.first w.second w.third

    control-word : (n i : ℕ) → i < control_width → Word32 (word (row_at control_width n cs') i)
    control-word n i h = rw (word_in control_width n i cs' h) (w.controls (n * control_width + i))

    property-word : (n i : ℕ) → i < property_width → Word32 (word (row_at property_width n ps') i)
    property-word n i h = rw (word_in property_width n i ps' h) (w.properties (n * property_width + i))

    controls-most : length (lines_to (control_line s) control_width a.first cs') ≤ a.first * longest_control
    controls-most =
        lines_short (control_line s) longest_control control_width cs' a.first λ i l.
        control-short s i (row_at control_width i cs') (omega (arith, w.first)) (control-word i)

    properties-most : length (lines_to (property_line s) property_width a.second ps') ≤ a.second * longest_property
    properties-most =
        lines_short (property_line s) longest_property property_width ps' a.second λ i l.
        property-short s i (row_at property_width i ps') (omega (arith, w.second)) (property-word i 5 (omega arith))

    module _ {o b : List ℕ} {q : ℕ} (v : Wrote o 0 (answer_line a) b q) where
      pub blob-refused : (a.number ≡ 0 → ⊥) → Written o (lines_in t s cs ps) (most_in cs ps) b q
      unfolding shown
      blob-refused h =
          let e : lines_in t s cs ps ≡ answer_line a ++ [] = lines_are ∙ rw (ne_eqb a.number 0 h) in
          record { wrote = rw e (v ⨟ nothing); short = rw e (simp length-append (omega (arith, answer-most))) }

      pub blob-read : a.number ≡ 0 → {d n : List ℕ} {r e : ℕ} → Wrote b q (lines_to (control_line s) control_width a.first cs') d r
          → Wrote d r (lines_to (property_line s) property_width a.second ps') n e → Written o (lines_in t s cs ps) (most_in cs ps) n e
      unfolding shown
      blob-read h c p =
          let e : lines_in t s cs ps
          ≡ answer_line a ++ (lines_to (control_line s) control_width a.first cs' ++ lines_to (property_line s) property_width a.second ps') = lines_are ∙ rw (eq-eqb a.number 0 h) in
          let f = rooms h in
          let k = at_most (room control_width cs) longest_control controls-most f.0 in
          let m = at_most (room property_width ps) longest_property properties-most f.1 in
          record { wrote = rw e (v ⨟ c ⨟ p); short = rw e (simp length-append (omega (arith, answer-most))) }

-- ---- more room changes nothing where there is enough
module _ (c p c' p' : ℕ) (more-c : c ≤ c') (more-p : p ≤ p') where
  fit-by : (r : Reading) (d e : Bool) → ltb c (length r.controls) ≡ d → ltb p (length (properties r)) ≡ e
      → ((answer_of (fit c p (some r))).number ≡ 6 → ⊥) → ((answer_of (fit c p (some r))).number ≡ 7 → ⊥) → fit c p (some r) ≡ fit c' p' (some r)
  fit-by r true e f g six seven = absurd (six (rw f))
  fit-by r false true f g six seven = absurd (seven (rw (f, g)))
  fit-by r false false f g six seven =
      let h = ltb-false c (length r.controls) f in
      let k = ltb-false p (length (properties r)) g in
      let f' : ltb c' (length r.controls) ≡ false = le-ltb c' (length r.controls) (omega arith) in
      let g' : ltb p' (length (properties r)) ≡ false = le-ltb p' (length (properties r)) (omega arith) in
      rw (f, g, f', g')

  fit_same : (o : Option Reading) → ((answer_of (fit c p o)).number ≡ 6 → ⊥) → ((answer_of (fit c p o)).number ≡ 7 → ⊥) → fit c p o ≡ fit c' p' o
  fit_same none six seven = refl
  fit_same (some r) six seven = fit-by r (ltb c (length r.controls)) (ltb p (length (properties r))) refl refl six seven

  same_by : (a b : Bool) (y z x x' : Outcome) → (((answer_of x).number ≡ 6 → ⊥) → ((answer_of x).number ≡ 7 → ⊥) → x ≡ x')
      → ((answer_of (cond a y (cond b z x))).number ≡ 6 → ⊥) → ((answer_of (cond a y (cond b z x))).number ≡ 7 → ⊥) → cond a y (cond b z x) ≡ cond a y (cond b z x')
  same_by true b y z x x' h six seven = refl
  same_by false true y z x x' h six seven = refl
  same_by false false y z x x' h six seven = h six seven

  pub same_outcome : (t s : List ℕ) → ((answer_of (outcome t s c p)).number ≡ 6 → ⊥) → ((answer_of (outcome t s c p)).number ≡ 7 → ⊥) → outcome t s c p ≡ outcome t s c' p'
  unfolding outcome
  same_outcome t s = same_by (ltb longest (length s)) (not (well_formed_lem t)) _ _ (fit c p (reading_of t s)) (fit c' p' (reading_of t s)) (fit_same (reading_of t s))
