-- The place of a type, by its row in the table of control types.
use Prim.Native.Nat.{ℕ, suc, ◌≤◌, ◌<◌}
use native.Mathlib.Omega.{arith}
use mathlib.Core.Path.{◌≡◌, refl, sym, ap, ◌∙◌}
use mathlib.Core.Bool.{Bool, true, false, cond}
use mathlib.Core.List.{List, [], ◌∷◌, ◌++◌, map}
use mathlib.Core.Option.{none, some}
use lib.Dec.{T, leb, eqb}
use lib.ListN.{length, get_or}
use borrow.Author.Tests.{eqb-true, ne_eqb, leb-true}
use Rattle.rules.specs.Lists.{all, ascends, find}
use Rattle.rules.specs.NameTables.{Table, control_type_names}
use Rattle.rules.specs.Names.{has_id}
use Rattle.rules.proofs.ListLaws.{and_l, and_r}
use Rattle.rules.proofs.OpenTotals.{totals_open}
use Rattle.names.specs.Lookup.{place_in}
use Rattle.tally.proofs.TypeTable.{codes, places}
use Rattle.totallaws.proofs.TotalsLaws.{type_place, type-places, type-placed, no-type-place}

abbrev ids_of : Table → List ℕ
ids_of t = map (λ row. row.0) t

-- what is kept for each row stands at the place of the row's id, and what is kept for no row after them
by_place : (f : ℕ → ℕ) (last : ℕ) (t : Table) (id : ℕ) → (find (has_id id) t ≡ none → f id ≡ last)
    → get_or (map (λ row. f row.0) t ++ (last ∷ [])) (place_in (ids_of t) id) 0 ≡ f id
unfolding place_in find
by_place f last [] id h = sym (h refl)
by_place f last (row ∷ t) id h = go (eqb row.0 id) refl h (by_place f last t id)
  where
    go : (b : Bool) → eqb row.0 id ≡ b → (cond b (some row) (find (has_id id) t) ≡ none → f id ≡ last)
        → ((find (has_id id) t ≡ none → f id ≡ last) → get_or (map (λ row. f row.0) t ++ (last ∷ [])) (place_in (ids_of t) id) 0 ≡ f id)
        → get_or (map (λ row. f row.0) (row ∷ t) ++ (last ∷ [])) (cond b 0 (suc (place_in (ids_of t) id))) 0 ≡ f id
    go true e h rest = ap f (eqb-true row.0 id e)
    go false e h rest = rest h

pub place-most : (ids : List ℕ) (id : ℕ) → place_in ids id ≤ length ids
unfolding place_in
place-most [] id = omega arith
place-most (x ∷ ids) id = go (eqb x id) (place-most ids id)
  where
    go : (b : Bool) → place_in ids id ≤ length ids → cond b 0 (suc (place_in ids id)) ≤ suc (length ids)
    go true h = omega arith
    go false h = omega arith

codes_are : codes ≡ ids_of control_type_names
unfolding totals_open
codes_are = refl

pub codes_ascend : T (ascends 0 codes)
unfolding totals_open
codes_ascend = tt

pub place_is : (type : ℕ) → get_or places (place_in codes type) 0 ≡ type_place type
place_is type =
    let e : places ≡ map (λ row. type_place row.0) control_type_names ++ (30 ∷ []) = ap (λ (l : List ℕ). l ++ (30 ∷ [])) (sym type-places) in
    (λ i. get_or (e i) (place_in (codes_are i) type) 0) ∙ by_place type_place 30 control_type_names type (no-type-place type)

module _ (type : ℕ) {i : ℕ} (e : i ≡ place_in codes type) where
  pub place_inside : i < 56
  place_inside = omega (arith, e, place-most codes type)

  pub place_found : get_or places i 0 ≡ type_place type
  place_found = ap (λ (j : ℕ). get_or places j 0) e ∙ place_is type

  pub place-small : get_or places i 0 < 31
  place-small = omega (arith, place_found, (type-placed type).0)

-- ---- no type below the first has a name
none_below : (t : Table) (id : ℕ) → all (λ row. leb 100 row.0) t ≡ true → id < 100 → find (has_id id) t ≡ none
unfolding all find
none_below [] id e h = refl
none_below (row ∷ t) id e h =
    let l : 100 ≤ row.0 = leb-true 100 row.0 (and_l (leb 100 row.0) (all (λ row. leb 100 row.0) t) e) in
    rw (ne_eqb row.0 id (λ z. omega arith)) (none_below t id (and_r (leb 100 row.0) (all (λ row. leb 100 row.0) t) e) h)

all-high : all (λ row. leb 100 row.0) control_type_names ≡ true
unfolding totals_open
all-high = refl

pub place-low : (type : ℕ) → type < 100 → 30 ≡ type_place type
place-low type h = sym (no-type-place type (none_below control_type_names type all-high h))
