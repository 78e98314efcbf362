-- How often a place is counted: of properties, of controls, of a reading.
use Prim.Native.Nat.{ℕ, zero, suc, ◌+◌, ◌≤◌, ◌<◌}
use native.Mathlib.Omega.{arith}
use mathlib.Core.Path.{◌≡◌, refl, sym, ap, ap₂, ◌∙◌}
use mathlib.Core.Bool.{Bool, true, false, not, cond, ◌&&◌}
use mathlib.Core.List.{List, [], ◌∷◌, map}
use lib.Dec.{leb, eqb}
use lib.ListN.{length, get_or}
use borrow.Author.Tests.{eq-eqb, ne_eqb, eqb-true, eqb-false}
use Rattle.rules.specs.Lists.{concat, same, how_many}
use Rattle.rules.specs.NameTables.{control_type_names}
use Rattle.rules.specs.Names.{name_in_lem}
use Rattle.rules.specs.Reading.{Control, Reading, properties_of, properties}
use Rattle.rules.specs.Blob.{Outcome, refused, read}
use Rattle.rules.specs.Totals.{types_counted, is_typed, is_marked, is_unmapped, is_mapped, controls_in, properties_in}
use Rattle.rules.specs.declared.Property.{Property}
use Rattle.totallaws.proofs.TallyLaws.{many-append, many-none, nothing-at}
use Rattle.totallaws.proofs.TotalsLaws.{type_place, type-placed, typed_once, types-many}
use Rattle.tally.specs.Places.{types_at, marks_at, property_places, properties_places, control_places, controls_places, reading_places, outcome_places}

abbrev pub times : ℕ → List ℕ → ℕ
times k is = how_many (λ i. eqb i k) is

-- two equations that say the same
pub eqb_same : (a b c d : ℕ) → (a ≡ b → c ≡ d) → (c ≡ d → a ≡ b) → eqb a b ≡ eqb c d
eqb_same a b c d f g = go (eqb a b) refl
  where
    go : (x : Bool) → eqb a b ≡ x → x ≡ eqb c d
    go true e = sym (eq-eqb c d (f (eqb-true a b e)))
    go false e = sym (ne_eqb c d (λ h. eqb-false a b e (g h)))

-- where one key passes, that one alone does
pub one_place : {K : Type 0} (q : K → Bool) (ks : List K) (d : K) (i j : ℕ) → how_many q ks ≡ 1 → i < length ks → q (get_or ks i d) ≡ true → j < length ks → q (get_or ks j d) ≡ eqb i j
unfolding how_many
one_place q [] d i j once h e k = absurd (omega arith)
one_place q (x ∷ ks) d zero zero once h e k = e ∙ sym (eq-eqb 0 0 refl)
one_place q (x ∷ ks) d zero (suc j) once h e k =
    let rest : how_many q ks ≡ 0 = omega (arith, rw e at once) in
    nothing-at q ks d j rest (omega arith) ∙ sym (ne_eqb 0 (suc j) (λ z. omega arith))
one_place q (x ∷ ks) d (suc i) j once h e k = go (q x) refl once (λ o m l. one_place q ks d i m o (omega arith) e l) j k
  where
    go : (b : Bool) → q x ≡ b → cond b 1 0 + how_many q ks ≡ 1 → (how_many q ks ≡ 1 → (m : ℕ) → m < length ks → q (get_or ks m d) ≡ eqb i m)
        → (j : ℕ) → j < suc (length ks) → q (get_or (x ∷ ks) j d) ≡ eqb (suc i) j
    go true f o rec j k = absurd (let z : ◌≡◌ {A = Bool} false true = sym (nothing-at q ks d i (omega arith) (omega arith)) ∙ e in let y : ◌≡◌ {A = ℕ} 0 1 = cc in omega arith)
    go false f o rec zero k = f ∙ sym (ne_eqb (suc i) 0 (λ z. omega arith))
    go false f o rec (suc j) k = rec (omega arith) j (omega arith) ∙ eqb_same i j (suc i) (suc j) (λ z. omega arith) (λ z. omega arith)

pub type-told : (type j : ℕ) → j < 31 → eqb (type_place type) j ≡ same (name_in_lem control_type_names type) (get_or types_counted j [])
type-told type j h =
    let p = type-placed type in
    sym (one_place (λ name. same (name_in_lem control_type_names type) name) types_counted [] (type_place type) j (typed_once type) (omega (arith, p.0, types-many)) p.1 (omega (arith, types-many)))

-- ---- lists one after the other
pub many-each : {A : Type 0} (p : ℕ → Bool) (f : A → List ℕ) (q : A → Bool) → ((x : A) → how_many p (f x) ≡ cond (q x) 1 0) → (xs : List A) → how_many p (concat (map f xs)) ≡ how_many q xs
unfolding how_many concat
many-each p f q h [] = refl
many-each p f q h (x ∷ xs) = omega (arith, many-append p (f x) (concat (map f xs)), h x, many-each p f q h xs)

many_through : {A B : Type 0} (p : ℕ → Bool) (f : A → List ℕ) (q : B → Bool) (g : A → List B) → ((x : A) → how_many p (f x) ≡ how_many q (g x)) → (xs : List A)
    → how_many p (concat (map f xs)) ≡ how_many q (concat (map g xs))
unfolding how_many concat
many_through p f q g h [] = refl
many_through p f q g h (x ∷ xs) = omega (arith, many-append p (f x) (concat (map f xs)), many-append q (g x) (concat (map g xs)), h x, many_through p f q g h xs)

-- ---- a property
-- u: it is unmapped; m: its mark
abbrev hits : ℕ → Bool → ℕ → ℕ
hits k u m = cond (eqb (cond u 37 38) k) 1 0 + (cond (eqb (marks_at + m) k) 1 0 + 0)

hits_37 : (u : Bool) (m : ℕ) → hits 37 u m ≡ cond u 1 0
hits_37 true m = rw (ne_eqb (marks_at + m) 37 (λ e. omega arith))
hits_37 false m = rw (ne_eqb (marks_at + m) 37 (λ e. omega arith))

hits_38 : (u : Bool) (m : ℕ) → hits 38 u m ≡ cond (not u) 1 0
hits_38 true m = rw (ne_eqb (marks_at + m) 38 (λ e. omega arith))
hits_38 false m = rw (ne_eqb (marks_at + m) 38 (λ e. omega arith))

hits_mark : (j : ℕ) (u : Bool) (m : ℕ) → hits (marks_at + j) u m ≡ cond (eqb m j) 1 0
hits_mark j true m = rw (ne_eqb 37 (marks_at + j) (λ e. omega arith), eqb_same (marks_at + m) (marks_at + j) m j (λ e. omega arith) (λ e. omega arith)) (omega arith)
hits_mark j false m = rw (ne_eqb 38 (marks_at + j) (λ e. omega arith), eqb_same (marks_at + m) (marks_at + j) m j (λ e. omega arith) (λ e. omega arith)) (omega arith)

hits_low : (k : ℕ) → k < 37 → (u : Bool) (m : ℕ) → hits k u m ≡ 0
hits_low k h true m = rw (ne_eqb 37 k (λ e. omega arith), ne_eqb (marks_at + m) k (λ e. omega arith))
hits_low k h false m = rw (ne_eqb 38 k (λ e. omega arith), ne_eqb (marks_at + m) k (λ e. omega arith))

-- ---- a place of properties: q says which are counted there
module _ (in2000 : Bool) (k : ℕ) (q : Property → Bool) (each : (p : Property) → times k (property_places in2000 p) ≡ cond (q p) 1 0) where
  of_properties : (ps : List Property) → times k (properties_places in2000 ps) ≡ how_many q ps
  unfolding properties_places
  of_properties ps = many-each (λ i. eqb i k) (property_places in2000) q each ps

  -- a type isn't counted there
  of_control : 37 ≤ k → (c : Control) → times k (control_places in2000 c) ≡ how_many q (properties_of c)
  unfolding control_places how_many
  of_control h c =
      let n : eqb (types_at + type_place c.type) k ≡ false = ne_eqb (types_at + type_place c.type) k (λ e. omega (arith, (type-placed c.type).0)) in
      many-append (λ i. eqb i k) (properties_places in2000 c.properties) ((types_at + type_place c.type) ∷ [])
      ∙ rw n (omega (arith, of_properties c.properties))

  of_reading : 37 ≤ k → (r : Reading) → times k (reading_places in2000 r) ≡ how_many q (properties r)
  unfolding reading_places controls_places properties
  of_reading h r =
      many-append (λ i. eqb i k) (properties_places in2000 r.own) (concat (map (control_places in2000) r.controls))
      ∙ ap₂ (λ (m n : ℕ). m + n) (of_properties r.own) (many_through (λ i. eqb i k) (control_places in2000) q properties_of (of_control h) r.controls)
      ∙ sym (many-append q r.own (concat (map properties_of r.controls)))

  pub of_outcome : 37 ≤ k → (o : Outcome) → times k (outcome_places in2000 o) ≡ how_many q (properties_in o)
  unfolding how_many
  of_outcome h (refused a) = refl
  of_outcome h (read r) = of_reading h r

module _ (in2000 : Bool) (o : Outcome) where
  pub unmapped_times : times 37 (outcome_places in2000 o) ≡ how_many (is_unmapped in2000) (properties_in o)
  unmapped_times = of_outcome in2000 37 (is_unmapped in2000) (λ p. unfold how_many in hits_37 (in2000 && leb 0x8000 p.id) p.value.mark) (omega arith) o

  pub mapped_times : times 38 (outcome_places in2000 o) ≡ how_many (is_mapped in2000) (properties_in o)
  mapped_times = of_outcome in2000 38 (is_mapped in2000) (λ p. unfold how_many in hits_38 (in2000 && leb 0x8000 p.id) p.value.mark) (omega arith) o

  pub mark_times : (j : ℕ) → times (marks_at + j) (outcome_places in2000 o) ≡ how_many (is_marked j) (properties_in o)
  mark_times j = of_outcome in2000 (marks_at + j) (is_marked j) (λ p. unfold how_many in hits_mark j (in2000 && leb 0x8000 p.id) p.value.mark) (omega arith) o

-- ---- a place of types
module _ (in2000 : Bool) (k : ℕ) (low : k < 37) where
  no-properties : (ps : List Property) → times k (properties_places in2000 ps) ≡ 0
  unfolding properties_places
  no-properties ps = many-each (λ i. eqb i k) (property_places in2000) (λ _. false) (λ p. unfold how_many in hits_low k low (in2000 && leb 0x8000 p.id) p.value.mark) ps ∙ none ps
    where
      none : (ps : List Property) → how_many (λ _. false) ps ≡ 0
      none ps = many-none ps

  module _ (q : Control → Bool) (each : (c : Control) → ◌≡◌ {A = ℕ} (cond (eqb (types_at + type_place c.type) k) 1 0) (cond (q c) 1 0)) where
    type_of_control : (c : Control) → times k (control_places in2000 c) ≡ cond (q c) 1 0
    unfolding control_places how_many
    type_of_control c =
        let z : cond (eqb (types_at + type_place c.type) k) 1 0 + 0 ≡ cond (q c) 1 0 = omega (arith, each c) in
        many-append (λ i. eqb i k) (properties_places in2000 c.properties) ((types_at + type_place c.type) ∷ []) ∙ omega (arith, no-properties c.properties, z)

    pub type_of_outcome : (o : Outcome) → times k (outcome_places in2000 o) ≡ how_many q (controls_in o)
    unfolding how_many reading_places controls_places
    type_of_outcome (refused a) = refl
    type_of_outcome (read r) =
        many-append (λ i. eqb i k) (properties_places in2000 r.own) (concat (map (control_places in2000) r.controls))
        ∙ omega (arith, no-properties r.own, many-each (λ i. eqb i k) (control_places in2000) q type_of_control r.controls)

pub type_times : (in2000 : Bool) (o : Outcome) (j : ℕ) → j < 31 → times (types_at + j) (outcome_places in2000 o) ≡ how_many (is_typed (get_or types_counted j [])) (controls_in o)
type_times in2000 o j h =
    type_of_outcome in2000 (types_at + j) (omega arith) (is_typed (get_or types_counted j []))
    (λ c. ap (λ (b : Bool). cond b 1 0) (eqb_same (types_at + type_place c.type) (types_at + j) (type_place c.type) j (λ e. omega arith) (λ e. omega arith) ∙ type-told c.type j h)) o

-- no answer is counted by a reading
pub answer_times : (in2000 : Bool) (o : Outcome) (k : ℕ) → k < 6 → times k (outcome_places in2000 o) ≡ 0
answer_times in2000 o k h =
    type_of_outcome in2000 k (omega arith) (λ _. false) (λ c. ap (λ (b : Bool). cond b 1 0) (ne_eqb (types_at + type_place c.type) k (λ e. omega arith))) o
    ∙ many-none (controls_in o)
