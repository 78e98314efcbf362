-- Property rows from one to another: sources among them, and places.
use Prim.Native.Nat.{ℕ, zero, suc, ◌+◌, ◌-◌, ◌≤◌, ◌<◌}
use native.Mathlib.Omega.{arith}
use mathlib.Core.Path.{◌≡◌, refl, sym, ap, ◌∙◌}
use mathlib.Core.Bool.{Bool, true, false, ◌&&◌}
use mathlib.Core.List.{List, [], ◌∷◌}
use mathlib.Core.Logic.{◌⊎◌, inl, inr}
use borrow.Author.Tests.{ltb-true, ltb-false, eq-eqb, ne_eqb}
use lib.Dec.{eqb, ltb, leb}
use Rattle.rules.specs.Lists.{all, keep}
use Rattle.rules.specs.Rows.{property_width, row_at}
use Rattle.rules.specs.declared.Property.{Property}
use Rattle.rules.specs.Panel.{is_source, is_box, is_one_text, is_filled, is_placing, is_placed, left_id, top_id, width_id, height_id}
use Rattle.rows.specs.Get.{shown_by_lem, properties_from}
use Rattle.std.specs.List.{list_all, range_with_len}
use Rattle.panel.specs.ByRows.{between}
use Rattle.std.specs.Prelude.{Option, Some, None, MatchOption}
use Rattle.std.specs.Option.{is_some}
use Rattle.panel.specs.Sources.{SourceAt, NextSource}

and-true : (b : Bool) → (b && true) ≡ b
and-true true = refl
and-true false = refl

-- ---- from row j on
module _ (ps : List ℕ) (to j : ℕ) where
  abbrev here : Property
  here = shown_by_lem (row_at property_width j ps)

  next_row : j < to → between ps j to ≡ here ∷ between ps (j + 1) to
  unfolding properties_from
  next_row h = let n : to - j ≡ suc (to - (j + 1)) = omega arith in rw n

  no_row : to ≤ j → between ps j to ≡ []
  unfolding properties_from
  no_row h = let n : to - j ≡ 0 = omega arith in rw n

-- n rows from row k on
pub counted : (ps : List ℕ) (k n : ℕ) → between ps k (k + n) ≡ properties_from ps k n
counted ps k n = let e : k + n - k ≡ n = omega arith in rw e

-- ---- the next source
module _ (ps : List ℕ) (from to : ℕ) where
  -- n rows that are none
  passed : (n : ℕ) → from + n ≤ to → ((k : ℕ) → from ≤ k → k < from + n → is_source (shown_by_lem (row_at property_width k ps)) ≡ false)
      → keep is_source (between ps from to) ≡ keep is_source (between ps (from + n) to)
  unfolding keep
  passed zero h none = let e : from ≡ from + 0 = omega arith in ap (λ (k : ℕ). keep is_source (between ps k to)) e
  passed (suc n) h none =
      let e : from + n + 1 ≡ from + suc n = omega arith in
      passed n (omega arith) (λ k l u. none k l (omega arith))
      ∙ rw (next_row ps to (from + n) (omega arith), none (from + n) (omega arith) (omega arith), e)

  pub first_source : (at : ℕ) → from ≤ at → at < to → is_source (shown_by_lem (row_at property_width at ps)) ≡ true
      → ((k : ℕ) → from ≤ k → k < at → is_source (shown_by_lem (row_at property_width k ps)) ≡ false) → SourceAt ps from to at
  unfolding keep
  first_source at l h e none = record {
    within = h;
    sources =
        let n : from + (at - from) ≡ at = omega arith in
        passed (at - from) (omega arith) (λ k u v. none k u (omega arith)) ∙ rw (n, next_row ps to at h, e);
  }

  pub no_source : ((k : ℕ) → from ≤ k → k < to → is_source (shown_by_lem (row_at property_width k ps)) ≡ false) → keep is_source (between ps from to) ≡ []
  unfolding keep
  no_source none = go (ltb to from) refl
    where
      go : (b : Bool) → ltb to from ≡ b → keep is_source (between ps from to) ≡ []
      go true e = let h = ltb-true to from e in rw (no_row ps to from (omega arith))
      go false e =
          let h = ltb-false to from e in
          let n : from + (to - from) ≡ to = omega arith in
          passed (to - from) (omega arith) (λ k u v. none k u (omega arith)) ∙ rw (n, no_row ps to to (omega arith))

pub found : (ps : List ℕ) (from to : ℕ) (r : Option ℕ)
    → MatchOption r ((k : ℕ) → from ≤ k → k < to → is_source (shown_by_lem (row_at property_width k ps)) ≡ false)
    (λ at. (from ≤ at) × (at < to) × (is_source (shown_by_lem (row_at property_width at ps)) ≡ true) × ((k : ℕ) → from ≤ k → k < at → is_source (shown_by_lem (row_at property_width k ps)) ≡ false))
    → NextSource ps from to r
found ps from to None h = no_source ps from to h
found ps from to (Some at) h = first_source ps from to at h.0 h.1 h.2 h.3

pub no_other : (ps : List ℕ) (from to : ℕ) (next : Option ℕ) → NextSource ps from to next → is_some next ≡ false → keep is_source (between ps from to) ≡ []
no_other ps from to None m e = m
no_other ps from to (Some next) m e = cc

-- ---- one source
pub none_at_all : (ps : List ℕ) (from to : ℕ) → keep is_source (between ps from to) ≡ [] → false ≡ is_one_text (keep is_source (between ps from to))
unfolding is_one_text
none_at_all ps from to e = rw e

module _ {ps : List ℕ} {from to at : ℕ} (n : SourceAt ps from to at) where
  pub two_sources : (next : Option ℕ) → NextSource ps (at + 1) to next → is_some next ≡ true → false ≡ is_one_text (keep is_source (between ps from to))
  unfolding is_one_text
  two_sources None m e = cc
  two_sources (Some next) m e = rw (n.sources, m.sources)

  module _ {p : Property} (is : p ≡ shown_by_lem (row_at property_width at ps)) (alone : keep is_source (between ps (at + 1) to) ≡ []) where
    by-property : is_one_text (keep is_source (between ps from to)) ≡ (eqb p.value.mark 6 && leb 1 p.size)
    unfolding is_one_text
    by-property = rw (n.sources, alone) (ap (λ p. eqb p.value.mark 6 && leb 1 p.size) (sym is))

    pub not_text : (p.value.mark ≡ 6 → ⊥) → false ≡ is_one_text (keep is_source (between ps from to))
    not_text e = sym (by-property ∙ rw (ne_eqb p.value.mark 6 e))

    pub by_size : p.value.mark ≡ 6 → ltb 0 p.size ≡ is_one_text (keep is_source (between ps from to))
    by_size e = sym (by-property ∙ rw (eq-eqb p.value.mark 6 e))

pub no_box_filled : (type : ℕ) (ps : List Property) → is_box type ≡ false → true ≡ is_filled type ps
unfolding is_filled
no_box_filled type ps e = rw e

pub box_filled : (type : ℕ) (ps : List Property) (r : Bool) → is_box type ≡ true → r ≡ is_one_text (keep is_source ps) → r ≡ is_filled type ps
unfolding is_filled
box_filled type ps r e h = rw e h

-- ---- places
module _ (p : Property) where
  pub at_place : (p.id ≡ left_id) ⊎ (p.id ≡ top_id) → eqb p.value.mark 2 ≡ is_placing p
  unfolding is_placing
  at_place (inl e) = rw e (sym (and-true (eqb p.value.mark 2)))
  at_place (inr e) = rw e (sym (and-true (eqb p.value.mark 2)))

  pub not_short : (p.id ≡ height_id) ⊎ (p.id ≡ width_id) → (p.value.mark ≡ 2 → ⊥) → false ≡ is_placing p
  unfolding is_placing
  not_short (inl e) h = rw (e, ne_eqb p.value.mark 2 h)
  not_short (inr e) h = rw (e, ne_eqb p.value.mark 2 h)

  pub by-low : (p.id ≡ height_id) ⊎ (p.id ≡ width_id) → p.value.mark ≡ 2 → ltb p.value.low 0x80000000 ≡ is_placing p
  unfolding is_placing
  by-low (inl e) h = rw (e, eq-eqb p.value.mark 2 h)
  by-low (inr e) h = rw (e, eq-eqb p.value.mark 2 h)

  pub no_place : ((p.id ≡ left_id) ⊎ (p.id ≡ top_id) → ⊥) → ((p.id ≡ height_id) ⊎ (p.id ≡ width_id) → ⊥) → true ≡ is_placing p
  unfolding is_placing
  no_place a b = rw (ne_eqb p.id left_id (λ e. a (inl e)), ne_eqb p.id top_id (λ e. a (inr e)), ne_eqb p.id width_id (λ e. b (inr e)), ne_eqb p.id height_id (λ e. b (inl e)))

-- rows from one to another, each placed
pub all_placed : (ps : List ℕ) (j n : ℕ) → list_all (λ k. is_placing (shown_by_lem (row_at property_width k ps))) (range_with_len j n) ≡ is_placed (properties_from ps j n)
unfolding is_placed all properties_from
all_placed ps j zero = refl
all_placed ps j (suc n) = ap (λ b. is_placing (shown_by_lem (row_at property_width j ps)) && b) (all_placed ps (j + 1) n)
