-- What is answered where no room is lent tells whether some room is enough.
use Prim.Native.Nat.{ℕ, ◌≤◌, ◌<◌}
use native.Mathlib.Omega.{arith}
use mathlib.Core.Path.{◌≡◌, refl, sym, ap, ◌∙◌}
use mathlib.Core.Bool.{Bool, true, false, cond, not, ◌&&◌}
use mathlib.Core.List.{List}
use mathlib.Core.Option.{Option, none, some}
use lib.Dec.{leb, ltb, eqb}
use lib.ListN.{length}
use borrow.Author.Tests.{leb-true, leb-false, lt-ltb, le-ltb, ltb-false, lt-leb, le-leb, ne_eqb}
use Rattle.rules.specs.Answer.{refusal, no_reading, too_long_lem, bad_table, more_controls, more_properties, longest}
use Rattle.rules.specs.CodeTable.{well_formed_lem}
use Rattle.rules.specs.Reading.{Reading, properties}
use Rattle.rules.specs.Blob.{Outcome, refused, read, counted, fit, outcome, reading_of, answer_of}
use Rattle.rules.specs.declared.Answer.{Answer}
use Rattle.csvwrite.specs.Sheet.{is_read_lem, is_enough}

no : {X : Type 0} → false ≡ true → X
no e = let z : ◌≡◌ {A = ℕ} 0 1 = cc in absurd (omega arith)

abbrev pub is_reading : Outcome → Bool
is_reading (refused a) = false
is_reading (read r) = true

-- ---- as the code finds it out
pub read-last : (n : ℕ) → (n ≡ 0 → ⊥) → (n ≡ 6 → ⊥) → eqb n 7 ≡ is_read_lem n
unfolding is_read_lem
read-last n e f = rw (ne_eqb n 0 e, ne_eqb n 6 f)

module _ (a : Answer) (c p : ℕ) where
  pub not_read : is_read_lem a.number ≡ false → false ≡ is_enough a c p
  unfolding is_enough
  not_read e = rw e

  pub few-controls : c < a.first → false ≡ is_enough a c p
  unfolding is_enough
  few-controls h = rw (lt-leb a.first c h) (go (is_read_lem a.number))
    where
      go : (b : Bool) → false ≡ (b && false)
      go true = refl
      go false = refl

  pub by-properties : is_read_lem a.number ≡ true → a.first ≤ c → leb a.second p ≡ is_enough a c p
  unfolding is_enough
  by-properties e h = rw (e, le-leb a.first c h)

-- ---- of a reading, or none
module _ (c p : ℕ) where
  without : (r : Reading) (x y : Bool) → is_enough (answer_of (cond x (refused (counted more_controls r)) (cond y (refused (counted more_properties r)) (read r)))) c p
      ≡ (leb (length r.controls) c && leb (length (properties r)) p)
  unfolding is_enough is_read_lem
  without r true y = refl
  without r false true = refl
  without r false false = refl

  within_by : (r : Reading) (x y : Bool) → leb (length r.controls) c ≡ x → leb (length (properties r)) p ≡ y → (x && y) ≡ is_reading (fit c p (some r))
  within_by r true true e f = sym (rw (le-ltb c (length r.controls) (leb-true _ _ e), le-ltb p (length (properties r)) (leb-true _ _ f)))
  within_by r true false e f = sym (rw (le-ltb c (length r.controls) (leb-true _ _ e), lt-ltb p (length (properties r)) (leb-false _ _ f)))
  within_by r false y e f = sym (rw (lt-ltb c (length r.controls) (leb-false _ _ e)))

  fit-enough : (o : Option Reading) → is_enough (answer_of (fit 0 0 o)) c p ≡ is_reading (fit c p o)
  unfolding is_enough is_read_lem
  fit-enough none = refl
  fit-enough (some r) = without r (ltb 0 (length r.controls)) (ltb 0 (length (properties r))) ∙ within_by r (leb (length r.controls) c) (leb (length (properties r)) p) refl refl

  enough-by : (x y : Bool) (o : Option Reading)
      → is_enough (answer_of (cond x (refused (refusal too_long_lem)) (cond y (refused (refusal bad_table)) (fit 0 0 o)))) c p ≡ is_reading (cond x (refused (refusal too_long_lem)) (cond y (refused (refusal bad_table)) (fit c p o)))
  unfolding is_enough is_read_lem
  enough-by true y o = refl
  enough-by false true o = refl
  enough-by false false o = fit-enough o

  pub enough-is : (t s : List ℕ) → is_enough (answer_of (outcome t s 0 0)) c p ≡ is_reading (outcome t s c p)
  unfolding outcome
  enough-is t s = enough-by (ltb longest (length s)) (not (well_formed_lem t)) (reading_of t s)

-- ---- what is known where a reading comes of it
pub record Known (t s : List ℕ) (c p : ℕ) (r : Reading) : Type 0 where
  pub small : length s ≤ longest
  pub formed : well_formed_lem t ≡ true
  pub reads : reading_of t s ≡ some r
  pub controls : length r.controls ≤ c
  pub properties-fit : length (properties r) ≤ p

known-fit : (t s : List ℕ) (c p : ℕ) (r : Reading) → length s ≤ longest → well_formed_lem t ≡ true → (o : Option Reading) → reading_of t s ≡ o → fit c p o ≡ read r → Known t s c p r
known-fit t s c p r l f none e k = let z : is_reading (refused (refusal no_reading)) ≡ true = ap is_reading k in no z
known-fit t s c p r l f (some q) e k = go (ltb c (length q.controls)) (ltb p (length (properties q))) refl refl k
  where
    go : (x y : Bool) → ltb c (length q.controls) ≡ x → ltb p (length (properties q)) ≡ y
        → cond x (refused (counted more_controls q)) (cond y (refused (counted more_properties q)) (read q)) ≡ read r → Known t s c p r
    go true y g h k = let z : is_reading (refused (counted more_controls q)) ≡ true = ap is_reading k in no z
    go false true g h k = let z : is_reading (refused (counted more_properties q)) ≡ true = ap is_reading k in no z
    go false false g h k =
        let z : q ≡ r = cc in
        record {
          small = l;
          formed = f;
          reads = e ∙ ap some z;
          controls = omega (arith, ltb-false c (length q.controls) g, ap (λ (v : Reading). length v.controls) z);
          properties-fit = omega (arith, ltb-false p (length (properties q)) h, ap (λ (v : Reading). length (properties v)) z);
        }

pub known : (t s : List ℕ) (c p : ℕ) (r : Reading) → outcome t s c p ≡ read r → Known t s c p r
unfolding outcome
known t s c p r k = go (ltb longest (length s)) (well_formed_lem t) refl refl k
  where
    go : (x y : Bool) → ltb longest (length s) ≡ x → well_formed_lem t ≡ y
        → cond x (refused (refusal too_long_lem)) (cond (not y) (refused (refusal bad_table)) (fit c p (reading_of t s))) ≡ read r → Known t s c p r
    go true y g h k = let z : is_reading (refused (refusal too_long_lem)) ≡ true = ap is_reading k in no z
    go false false g h k = let z : is_reading (refused (refusal bad_table)) ≡ true = ap is_reading k in no z
    go false true g h k = known-fit t s c p r (ltb-false longest (length s) g) h (reading_of t s) refl k

-- ---- the counts that are answered without room
pub record Counted (a : Answer) (r : Reading) : Type 0 where
  pub first : a.first ≡ length r.controls
  pub second : a.second ≡ length (properties r)
  pub third : a.third ≡ length r.own

counted-by : (r : Reading) (x y : Bool) → Counted (answer_of (cond x (refused (counted more_controls r)) (cond y (refused (counted more_properties r)) (read r)))) r
counted-by r true y = record { first = refl; second = refl; third = refl }
counted-by r false true = record { first = refl; second = refl; third = refl }
counted-by r false false = record { first = refl; second = refl; third = refl }

pub counts : {t s : List ℕ} {c p : ℕ} {r : Reading} → Known t s c p r → Counted (answer_of (outcome t s 0 0)) r
unfolding outcome
counts {t = t} {s = s} {r = r} k =
    rw (le-ltb longest (length s) k.small, k.formed, k.reads) (counted-by r (ltb 0 (length r.controls)) (ltb 0 (length (properties r))))
