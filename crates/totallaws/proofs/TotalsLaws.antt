-- Records of totals: sums place by place, the ceiling, and what one reading adds.
use Prim.Native.Nat.{ℕ, zero, suc, ◌+◌, ◌≤◌, ◌<◌}
use native.Mathlib.Numerals.{add-one}
use native.Mathlib.Omega.{arith}
use mathlib.Core.Path.{◌≡◌, refl, sym, ap, ◌∙◌}
use mathlib.Core.Bool.{Bool, true, false, not, cond, ◌&&◌}
use mathlib.Core.List.{List, [], ◌∷◌, map}
use mathlib.Core.Option.{Option, none, some}
use borrow.Author.Tests.{leb-true, leb-false, le-leb, eqb-true}
use lib.Dec.{ltb, eqb}
use lib.ListN.{length, get_or, drop, replicate, length-map}
use lib.Seq.{drop-cons}
use Prim.Native.String.{String}
use Rattle.rules.specs.Lists.{all, find, same, how_many, text}
use Rattle.rules.specs.Answer.{answer, refusal, too_long_lem, bad_table, more_controls, more_properties, longest}
use Rattle.rules.specs.NameTables.{control_type_names}
use Rattle.rules.specs.Names.{has_id, name_text, name_in_lem}
use Rattle.rules.specs.CodeTable.{well_formed_lem}
use Rattle.rules.specs.Reading.{Reading, properties}
use Rattle.rules.specs.Blob.{Outcome, refused, read, counted, fit, reading_of, outcome, answer_of}
use Rattle.rules.specs.Totals.{answers_counted, types_counted, adds, zeros, Total, at, sums, sum, ceiling, holds, within}
use Rattle.rules.specs.declared.Totals.{Totals}
use Rattle.rules.proofs.ListLaws.{and_l, and_r, all_there, found-there}
use Rattle.rules.proofs.OpenTotals.{totals_open}
use Rattle.totallaws.proofs.TallyLaws.{false_true}

-- ---- sums
sums_at : (xs ys : List ℕ) (i : ℕ) → get_or (sums xs ys) i 0 ≡ get_or xs i 0 + get_or ys i 0
unfolding sums
sums_at [] ys i = omega arith
sums_at (x ∷ xs) [] i = omega arith
sums_at (x ∷ xs) (y ∷ ys) zero = refl
sums_at (x ∷ xs) (y ∷ ys) (suc i) = sums_at xs ys i

pub sum-at : (c : Total) (a b : Totals) → at c (sum a b) ≡ at c a + at c b
unfolding at sum
sum-at (Total.answer i) a b = sums_at a.answers b.answers i
sum-at (Total.type i) a b = sums_at a.types b.types i
sum-at Total.unmapped a b = refl
sum-at Total.mapped a b = refl
sum-at (Total.mark i) a b = sums_at a.marks b.marks i

pub zero-at : (n i : ℕ) → get_or {A = ℕ} (replicate n 0) i 0 ≡ 0
zero-at zero i = refl
zero-at (suc n) zero = refl
zero-at (suc n) (suc i) = zero-at n i

pub zeros-at : (c : Total) → at c zeros ≡ 0
unfolding at zeros
zeros-at (Total.answer i) = zero-at 6 i
zeros-at (Total.type i) = zero-at 31 i
zeros-at Total.unmapped = refl
zeros-at Total.mapped = refl
zeros-at (Total.mark i) = zero-at 9 i

-- two added in either order
sums_swap : (a b c : List ℕ) → sums (sums a b) c ≡ sums (sums a c) b
unfolding sums
sums_swap [] [] [] = refl
sums_swap [] [] (z ∷ c) = refl
sums_swap [] (y ∷ b) [] = refl
sums_swap [] (y ∷ b) (z ∷ c) =
    let p : y + z ≡ z + y = omega arith in
    λ i. p i ∷ sums_swap [] b c i
sums_swap (x ∷ a) [] [] = refl
sums_swap (x ∷ a) [] (z ∷ c) = refl
sums_swap (x ∷ a) (y ∷ b) [] = refl
sums_swap (x ∷ a) (y ∷ b) (z ∷ c) =
    let p : x + y + z ≡ x + z + y = omega arith in
    λ i. p i ∷ sums_swap a b c i

pub sum_swap : (a b c : Totals) → sum (sum a b) c ≡ sum (sum a c) b
unfolding sum
sum_swap a b c =
    let u : a.unmapped + b.unmapped + c.unmapped ≡ a.unmapped + c.unmapped + b.unmapped = omega arith in
    let m : a.mapped + b.mapped + c.mapped ≡ a.mapped + c.mapped + b.mapped = omega arith in
    λ i. record {
      answers = sums_swap a.answers b.answers c.answers i;
      types = sums_swap a.types b.types c.types i;
      unmapped = u i;
      mapped = m i;
      marks = sums_swap a.marks b.marks c.marks i;
    }

-- ---- the ceiling
all_held : (xs : List ℕ) → all holds xs ≡ true → (i : ℕ) → get_or xs i 0 ≤ ceiling
unfolding all
all_held [] e i = omega arith
all_held (x ∷ xs) e zero = leb-true x ceiling (and_l (holds x) (all holds xs) e)
all_held (x ∷ xs) e (suc i) = all_held xs (and_r (holds x) (all holds xs) e) i

held_all : (xs : List ℕ) → ((i : ℕ) → get_or xs i 0 ≤ ceiling) → all holds xs ≡ true
unfolding all
held_all [] h = refl
held_all (x ∷ xs) h = rw (le-leb x ceiling (h 0)) (held_all xs (λ i. h (suc i)))

-- a place that passes it
not_held : (xs : List ℕ) → all holds xs ≡ false → (i : ℕ) × (ceiling < get_or xs i 0)
unfolding all
not_held [] e = false_true (sym e)
not_held (x ∷ xs) e = go (holds x) refl (not_held xs) e
  where
    go : (b : Bool) → holds x ≡ b → (all holds xs ≡ false → (i : ℕ) × (ceiling < get_or xs i 0)) → (b && all holds xs) ≡ false → (i : ℕ) × (ceiling < get_or (x ∷ xs) i 0)
    go true q rec e = let r = rec e in (suc r.0, r.1)
    go false q rec e = (0, leb-false x ceiling q)

pub within-at : (a : Totals) → within a ≡ true → (c : Total) → at c a ≤ ceiling
unfolding within at
within-at a e c =
    let e₁ : _ ≡ true = and_r (all holds a.answers) _ e in
    let e₂ : _ ≡ true = and_r (all holds a.types) _ e₁ in
    let e₃ : _ ≡ true = and_r (holds a.unmapped) _ e₂ in
    go c (and_l (all holds a.answers) _ e) (and_l (all holds a.types) _ e₁) (and_l (holds a.unmapped) _ e₂) (and_l (holds a.mapped) _ e₃) (and_r (holds a.mapped) _ e₃)
  where
    go : (c : Total) → all holds a.answers ≡ true → all holds a.types ≡ true → holds a.unmapped ≡ true → holds a.mapped ≡ true → all holds a.marks ≡ true → at c a ≤ ceiling
    go (Total.answer i) p q u m k = all_held a.answers p i
    go (Total.type i) p q u m k = all_held a.types q i
    go Total.unmapped p q u m k = leb-true a.unmapped ceiling u
    go Total.mapped p q u m k = leb-true a.mapped ceiling m
    go (Total.mark i) p q u m k = all_held a.marks k i

pub at-within : (a : Totals) → ((c : Total) → at c a ≤ ceiling) → within a ≡ true
unfolding within at
at-within a h =
    rw (
      held_all a.answers (λ i. h (Total.answer i)),
      held_all a.types (λ i. h (Total.type i)),
      le-leb a.unmapped ceiling (h Total.unmapped),
      le-leb a.mapped ceiling (h Total.mapped),
      held_all a.marks (λ i. h (Total.mark i)),
    )

-- a total that passes it
pub not_within : (a : Totals) → within a ≡ false → (c : Total) × (ceiling < at c a)
unfolding within at
not_within a e = go (all holds a.answers) (all holds a.types) (holds a.unmapped) (holds a.mapped) (all holds a.marks) refl refl refl refl refl e
  where
    go : (p q u m k : Bool) → all holds a.answers ≡ p → all holds a.types ≡ q → holds a.unmapped ≡ u → holds a.mapped ≡ m → all holds a.marks ≡ k
        → (p && (q && (u && (m && k)))) ≡ false → (c : Total) × (ceiling < at c a)
    go false q u m k ep eq eu em ek e = let r = not_held a.answers ep in (Total.answer r.0, r.1)
    go true false u m k ep eq eu em ek e = let r = not_held a.types eq in (Total.type r.0, r.1)
    go true true false m k ep eq eu em ek e = (Total.unmapped, leb-false a.unmapped ceiling eu)
    go true true true false k ep eq eu em ek e = (Total.mapped, leb-false a.mapped ceiling em)
    go true true true true false ep eq eu em ek e = let r = not_held a.marks ek in (Total.mark r.0, r.1)
    go true true true true true ep eq eu em ek e = false_true (sym e)

-- ---- what one reading adds
-- the numbers that a Blob can be answered
pub record Given (n : ℕ) : Type 0 where
  pub once : how_many (λ k. eqb n k) answers_counted ≡ 1
  pub not_12 : ¬ (n ≡ 12)

pub given : (t s : List ℕ) (c p : ℕ) → Given (answer_of (outcome t s c p)).number
unfolding outcome how_many
given t s c p = go (ltb longest (length s)) (well_formed_lem t) (reading_of t s)
  where
    fits : (r : Reading) (b d : Bool) → Given (answer_of (cond b (refused (counted more_controls r)) (cond d (refused (counted more_properties r)) (read r)))).number
    fits r true d = record { once = refl; not_12 = λ e. omega arith }
    fits r false true = record { once = refl; not_12 = λ e. omega arith }
    fits r false false = record { once = refl; not_12 = λ e. omega arith }

    go : (b d : Bool) (o : Option Reading) → Given (answer_of (cond b (refused (refusal too_long_lem)) (cond (not d) (refused (refusal bad_table)) (fit c p o)))).number
    go true d o = record { once = refl; not_12 = λ e. omega arith }
    go false false o = record { once = refl; not_12 = λ e. omega arith }
    go false true none = record { once = refl; not_12 = λ e. omega arith }
    go false true (some r) = fits r (ltb c (length r.controls)) (ltb p (length (properties r)))

-- every type has one name among those counted, the empty one included
abbrev one_name : ℕ × String → Bool
one_name row = eqb (how_many (λ name. same (text row.1) name) types_counted) 1

all_one : all one_name control_type_names ≡ true
unfolding totals_open
all_one = refl

none-one : how_many (λ name. same [] name) types_counted ≡ 1
unfolding totals_open
none-one = refl

pub typed_once : (type : ℕ) → how_many (λ name. same (name_in_lem control_type_names type) name) types_counted ≡ 1
unfolding name_in_lem
typed_once type = go (find (has_id type) control_type_names) refl
  where
    go : (o : Option (ℕ × String)) → find (has_id type) control_type_names ≡ o → how_many (λ name. same (name_text o) name) types_counted ≡ 1
    go none e = none-one
    go (some row) e = eqb-true _ _ (all_there one_name control_type_names row all_one (found-there (has_id type) control_type_names row e).0)

-- ---- for the code: which place a type's controls are counted at
-- the first place of a name
unfoldable pub place_of : List ℕ → List (List ℕ) → ℕ
place_of name [] = 0
place_of name (k ∷ ks) = cond (same name k) 0 (suc (place_of name ks))

placed : (name : List ℕ) (ks : List (List ℕ)) → 1 ≤ how_many (λ k. same name k) ks → (place_of name ks < length ks) × (same name (get_or ks (place_of name ks) []) ≡ true)
unfolding how_many place_of
placed name [] h = absurd (omega arith)
placed name (k ∷ ks) h = go (same name k) refl h (placed name ks)
  where
    go : (b : Bool) → same name k ≡ b → 1 ≤ cond b 1 0 + how_many (λ j. same name j) ks
        → (1 ≤ how_many (λ j. same name j) ks → (place_of name ks < length ks) × (same name (get_or ks (place_of name ks) []) ≡ true))
        → (cond b 0 (suc (place_of name ks)) < suc (length ks)) × (same name (get_or (k ∷ ks) (cond b 0 (suc (place_of name ks))) []) ≡ true)
    go true e h rec = (omega arith, e)
    go false e h rec = let r = rec (omega arith) in (omega (arith, r.0), r.1)

abbrev pub type_place : ℕ → ℕ
type_place type = place_of (name_in_lem control_type_names type) types_counted

pub types-many : length types_counted ≡ 31
unfolding totals_open
types-many = refl

pub type-placed : (type : ℕ) → (type_place type < 31) × (same (name_in_lem control_type_names type) (get_or types_counted (type_place type) []) ≡ true)
type-placed type = let r = placed (name_in_lem control_type_names type) types_counted (omega (arith, typed_once type)) in (omega (arith, r.0, types-many), r.1)

-- row by row of the table of control types, and last where it has no row
pub type-places : map (λ row. type_place row.0) control_type_names
    ≡ 0 ∷ 1 ∷ 2 ∷ 3 ∷ 4 ∷ 5 ∷ 6 ∷ 7 ∷ 8 ∷ 9 ∷ 10 ∷ 11 ∷ 12 ∷ 13 ∷ 14 ∷ 15 ∷ 16 ∷ 17 ∷ 18 ∷ 19
    ∷ 20 ∷ 21 ∷ 22 ∷ 23 ∷ 6 ∷ 16 ∷ 4 ∷ 0 ∷ 0 ∷ 1 ∷ 3 ∷ 9 ∷ 11 ∷ 12 ∷ 2 ∷ 19 ∷ 24 ∷ 25 ∷ 19 ∷ 26
    ∷ 27 ∷ 22 ∷ 23 ∷ 0 ∷ 1 ∷ 2 ∷ 3 ∷ 4 ∷ 6 ∷ 9 ∷ 11 ∷ 28 ∷ 20 ∷ 21 ∷ 29 ∷ []
unfolding totals_open place_of
type-places = refl

pub no-type-place : (type : ℕ) → find (has_id type) control_type_names ≡ none → type_place type ≡ 30
unfolding name_in_lem
no-type-place type e = ap (λ (o : Option (ℕ × String)). place_of (name_text o) types_counted) e ∙ last
  where
    last : place_of [] types_counted ≡ 30
    last = unfold totals_open place_of in refl

-- ---- for the code: how many places there are
pub record Shaped (d : Totals) : Type 0 where
  pub answers : length d.answers ≡ 6
  pub types : length d.types ≡ 31
  pub marks : length d.marks ≡ 9

pub adds_shaped : (b : Bool) (o : Outcome) → Shaped (adds b o)
unfolding adds
adds_shaped b o = record { answers = refl; types = length-map types_counted _ ∙ types-many; marks = refl }

pub sums-many : (xs ys : List ℕ) → length xs ≡ length ys → length (sums xs ys) ≡ length xs
unfolding sums
sums-many [] [] e = refl
sums-many [] (y ∷ ys) e = sym e
sums-many (x ∷ xs) [] e = refl
sums-many (x ∷ xs) (y ∷ ys) e = ap suc (sums-many xs ys (omega arith))

pub sum_shaped : (a b : Totals) → Shaped a → Shaped b → Shaped (sum a b)
unfolding sum
sum_shaped a b h k = record {
  answers = sums-many a.answers b.answers (h.answers ∙ sym k.answers) ∙ h.answers;
  types = sums-many a.types b.types (h.types ∙ sym k.types) ∙ h.types;
  marks = sums-many a.marks b.marks (h.marks ∙ sym k.marks) ∙ h.marks;
}

-- ---- for the code: the loops over two arrays, one place at a time
module _ (now d : List ℕ) (i : ℕ) (h : i < length now) (k : i < length d) where
  pub held-step : all holds (sums (drop i now) (drop i d)) ≡ (holds (get_or now i 0 + get_or d i 0) && all holds (sums (drop (i + 1) now) (drop (i + 1) d)))
  unfolding all sums
  held-step = rw (add-one, drop-cons now i 0 h, drop-cons d i 0 k)

  pub sums-step : sums (drop i now) (drop i d) ≡ (get_or now i 0 + get_or d i 0) ∷ sums (drop (i + 1) now) (drop (i + 1) d)
  unfolding sums
  sums-step = rw (add-one, drop-cons now i 0 h, drop-cons d i 0 k)
