-- The rows that differ: which they are, in which order, and when a newer table succeeds an older.
use Prim.Native.Nat.{ℕ, zero, suc, ◌+◌, ◌-◌, ◌≤◌, ◌<◌}
use native.Mathlib.Omega.{arith}
use mathlib.Core.Path.{◌≡◌, refl, sym, ap, ap₂, ◌∙◌}
use mathlib.Core.Bool.{Bool, true, false, not, cond, true≢false}
use mathlib.Core.List.{List, [], ◌∷◌, ◌++◌, map, head-eq_of_cons-eq}
use mathlib.Core.Option.{Option, none, some}
use lib.Bits.{bit_or}
use lib.ListN.{length, get_or}
use Rattle.rules.specs.Lists.{concat, all, same}
use Rattle.rules.specs.CodeTable.{Tie, scopes, well_formed_lem, row_of, Extends}
use Rattle.rules.specs.Tree.{Entries, Node, nodes_of}
use Rattle.rules.specs.Access2000.{Prop}
use Rattle.rules.specs.Reading.{property_row}
use Rattle.rules.specs.Read2000.{object_key, tied, shown, property_in, Spot, spot_in, node_spots, spots_of}
use Rattle.rules.specs.Rows.{difference_width}
use Rattle.rules.specs.Differences.{found_same, has_row, has_scope, Site, site_in, no_control, node_sites, sites_of, showing, differs, difference_row, differences_from}
use Rattle.rules.proofs.ListLaws.{map-append, all_there}
use Rattle.joinlaws.proofs.MergeLaws.{all_from}
use Rattle.joinlaws.proofs.JoinLaws.{one-row, row_itself}
use Rattle.joinlaws.proofs.JoinedLaws.{same_true, same_itself}
use Rattle.rules.proofs.CodeTableLaws.{found-held, held_found, kept, unmapped_large, target_small}
use Rattle.rules.proofs.RowsLaws.{Wide}

-- ---- successors
is_row : (r : Tie) (o : Option Tie) → ((q : Tie) → o ≡ some q → q.id ≡ r.id) → found_same r o ≡ true → o ≡ some r
is_row r none i e = absurd (true≢false (sym e))
is_row r (some q) i e = ap some (one-row q r (i q refl) e)

-- "the newer holding every row of the older"
pub has-extends : (older newer : List ℕ) → all (has_scope newer) (scopes older) ≡ true → Extends older newer
unfolding has_scope has_row
has-extends older newer e kind code r h =
    let s : all (has_row newer h.scope.kind h.scope.code) h.scope.rows ≡ true = all_there (has_scope newer) (scopes older) h.scope e h.listed in
    let t : has_row newer h.scope.kind h.scope.code r ≡ true = all_there (has_row newer h.scope.kind h.scope.code) h.scope.rows r s h.row in
    let f : row_of newer h.scope.kind h.scope.code r.id ≡ some r = is_row r _ (λ q e. (found-held newer h.scope.kind h.scope.code r.id q e).1) t in
    rw (h.its-kind, h.its-code) at (found-held newer h.scope.kind h.scope.code r.id r f).0

pub extends-has : (older newer : List ℕ) → well_formed_lem newer ≡ true → Extends older newer → all (has_scope newer) (scopes older) ≡ true
unfolding has_scope has_row
extends-has older newer w x =
    all_from (has_scope newer) (scopes older) λ s m.
    all_from (has_row newer s.kind s.code) s.rows λ r k.
    ap (found_same r) (held_found newer s.kind s.code r w (x s.kind s.code r (record { scope = s; listed = m; its-kind = refl; its-code = refl; row = k })))
    ∙ row_itself r

-- ---- sites and spots
abbrev pub spot_of : Site → Spot
spot_of x = x.spot

same-spots : (n : ℕ) (l : List Spot) → map spot_of (map (site_in n) l) ≡ l
same-spots n [] = refl
same-spots n (x ∷ l) = ap (λ t. x ∷ t) (same-spots n l)

node-spots : (n : ℕ) (ms : List (Node Prop)) → map spot_of (node_sites n ms) ≡ concat (map node_spots ms)
unfolding node_sites concat
node-spots n [] = refl
node-spots n (m ∷ ms) =
    map-append spot_of (map (site_in n) (node_spots m)) (node_sites (n + 1) ms)
    ∙ ap₂ (λ (a b : List Spot). a ++ b) (same-spots n (node_spots m)) (node-spots (n + 1) ms)

pub sites-spots : (s : List ℕ) (x : List Prop × Entries Prop) → map spot_of (sites_of s x) ≡ spots_of s x
unfolding sites_of spots_of
sites-spots s x =
    map-append spot_of (map (site_in no_control) (map (spot_in (object_key s)) x.0)) (node_sites 0 (nodes_of x.1))
    ∙ ap₂ (λ (a b : List Spot). a ++ b) (same-spots no_control (map (spot_in (object_key s)) x.0)) (node-spots 0 (nodes_of x.1))

-- ---- the rows that differ
module _ (older newer s : List ℕ) where
  abbrev old_row : Spot → List ℕ
  old_row x = property_row (showing older s x)

  abbrev new_row : Spot → List ℕ
  new_row x = property_row (showing newer s x)

  same_rows : (x : Spot) → old_row x ≡ new_row x → differs older newer s x ≡ false
  unfolding differs
  same_rows x q = ap (λ row. not (same (old_row x) row)) (sym q) ∙ ap not (same_itself (old_row x))

  pub differs_true : (x : Spot) → differs older newer s x ≡ true → ¬ (old_row x ≡ new_row x)
  differs_true x e q = true≢false (sym e ∙ same_rows x q)

  pub differs_false : (x : Spot) → differs older newer s x ≡ false → old_row x ≡ new_row x
  unfolding differs
  differs_false x e = go (same (old_row x) (new_row x)) refl e
    where
      go : (b : Bool) → same (old_row x) (new_row x) ≡ b → not b ≡ false → old_row x ≡ new_row x
      go true q e = same_true _ _ q
      go false q e = absurd (true≢false e)

  pub differs-is : (x : Spot) → ¬ (old_row x ≡ new_row x) → differs older newer s x ≡ true
  differs-is x n = go (differs older newer s x) refl
    where
      go : (b : Bool) → differs older newer s x ≡ b → b ≡ true
      go true e = refl
      go false e = absurd (n (differs_false x e))

  abbrev rows : ℕ → List Site → List (List ℕ)
  rows n xs = differences_from older newer s n xs

  -- row k of the rows listed speaks of the property j, of those looked at
  pub record Speaks (listed-rows : List (List ℕ)) (n : ℕ) (xs : List Site) (d : Site) (k j : ℕ) : Type 0 where
    pub looked_at : j < length xs
    pub listed : k < length listed-rows
    pub its-row : get_or listed-rows k [] ≡ difference_row older newer s (n + j) (get_or xs j d)
    pub does : differs older newer s (get_or xs j d).spot ≡ true

  -- the rows listed, where x is looked at first
  abbrev grown : Bool → ℕ → Site → List Site → List (List ℕ)
  grown b n x xs = cond b (difference_row older newer s n x ∷ rows (n + 1) xs) (rows (n + 1) xs)

  pub wide : (n : ℕ) (xs : List Site) → Wide difference_width (rows n xs)
  unfolding differences_from difference_row
  wide n [] = tt
  wide n (x ∷ xs) = go (differs older newer s x.spot) (wide (n + 1) xs)
    where
      go : (b : Bool) → Wide difference_width (rows (n + 1) xs) → Wide difference_width (grown b n x xs)
      go true h = (refl, h)
      go false h = h

  -- one more looked at, with a row or without
  later-row : (n : ℕ) (x : Site) (xs : List Site) (d : Site) (k j : ℕ) → Speaks (rows (n + 1) xs) (n + 1) xs d k j
      → Speaks (grown true n x xs) n (x ∷ xs) d (suc k) (suc j) × Speaks (grown false n x xs) n (x ∷ xs) d k (suc j)
  later-row n x xs d k j h =
      let e : n + 1 + j ≡ n + suc j = omega arith in
      let r : get_or (rows (n + 1) xs) k [] ≡ difference_row older newer s (n + suc j) (get_or xs j d) = rw e at h.its-row in (
        record { looked_at = omega (arith, h.looked_at); listed = omega (arith, h.listed); its-row = r; does = h.does },
        record { looked_at = omega (arith, h.looked_at); listed = h.listed; its-row = r; does = h.does },
      )

  this-row : (n : ℕ) (x : Site) (xs : List Site) (d : Site) → differs older newer s x.spot ≡ true → Speaks (grown true n x xs) n (x ∷ xs) d 0 0
  this-row n x xs d e = record { looked_at = omega arith; listed = omega arith; its-row = ap (λ (i : ℕ). difference_row older newer s i x) (omega arith); does = e }

  -- each row listed speaks of one that differs
  pub listed_speaks : (n : ℕ) (xs : List Site) (d : Site) (k : ℕ) → k < length (rows n xs) → (j : ℕ) × Speaks (rows n xs) n xs d k j
  unfolding differences_from
  listed_speaks n [] d k h = absurd (omega arith)
  listed_speaks n (x ∷ xs) d k h = go (differs older newer s x.spot) refl k h (listed_speaks (n + 1) xs d)
    where
      go : (b : Bool) → differs older newer s x.spot ≡ b → (k : ℕ) → k < length (grown b n x xs)
          → ((k : ℕ) → k < length (rows (n + 1) xs) → (j : ℕ) × Speaks (rows (n + 1) xs) (n + 1) xs d k j) → (j : ℕ) × Speaks (grown b n x xs) n (x ∷ xs) d k j
      go true e zero h rec = (0, this-row n x xs d e)
      go true e (suc k) h rec = let r = rec k (omega arith) in (suc r.0, (later-row n x xs d k r.0 r.1).0)
      go false e k h rec = let r = rec k h in (suc r.0, (later-row n x xs d k r.0 r.1).1)

  -- each that differs has a row listed
  pub speaks_listed : (n : ℕ) (xs : List Site) (d : Site) (j : ℕ) → j < length xs → differs older newer s (get_or xs j d).spot ≡ true → (k : ℕ) × Speaks (rows n xs) n xs d k j
  unfolding differences_from
  speaks_listed n [] d j h e = absurd (omega arith)
  speaks_listed n (x ∷ xs) d zero h e = rw e (0, this-row n x xs d e)
  speaks_listed n (x ∷ xs) d (suc j) h e = go (differs older newer s x.spot) (speaks_listed (n + 1) xs d j (omega arith) e)
    where
      go : (b : Bool) → (k : ℕ) × Speaks (rows (n + 1) xs) (n + 1) xs d k j → (k : ℕ) × Speaks (grown b n x xs) n (x ∷ xs) d k (suc j)
      go true r = (suc r.0, (later-row n x xs d r.0 j r.1).0)
      go false r = (r.0, (later-row n x xs d r.0 j r.1).1)

  -- the property rows ascend: a row listed before another speaks of a property before it
  pub listed-least : (n : ℕ) (xs : List Site) (k : ℕ) → k < length (rows n xs) → n ≤ get_or (get_or (rows n xs) k []) 0 0
  unfolding differences_from difference_row
  listed-least n [] k h = absurd (omega arith)
  listed-least n (x ∷ xs) k h = go (differs older newer s x.spot) k h (listed-least (n + 1) xs)
    where
      go : (b : Bool) (k : ℕ) → k < length (grown b n x xs) → ((k : ℕ) → k < length (rows (n + 1) xs) → n + 1 ≤ get_or (get_or (rows (n + 1) xs) k []) 0 0)
          → n ≤ get_or (get_or (grown b n x xs) k []) 0 0
      go true zero h rec = omega arith
      go true (suc k) h rec = omega (arith, rec k (omega arith))
      go false k h rec = omega (arith, rec k h)

  pub listed-ascend : (n : ℕ) (xs : List Site) (i k : ℕ) → i < k → k < length (rows n xs)
      → get_or (get_or (rows n xs) i []) 0 0 < get_or (get_or (rows n xs) k []) 0 0
  unfolding differences_from difference_row
  listed-ascend n [] i k l h = absurd (omega arith)
  listed-ascend n (x ∷ xs) i k l h = go (differs older newer s x.spot) i k l h (listed-ascend (n + 1) xs)
    where
      go : (b : Bool) (i k : ℕ) → i < k → k < length (grown b n x xs)
          → ((i k : ℕ) → i < k → k < length (rows (n + 1) xs) → get_or (get_or (rows (n + 1) xs) i []) 0 0 < get_or (get_or (rows (n + 1) xs) k []) 0 0)
          → get_or (get_or (grown b n x xs) i []) 0 0 < get_or (get_or (grown b n x xs) k []) 0 0
      go true i zero l h rec = absurd (omega arith)
      go true zero (suc k) l h rec = omega (arith, listed-least (n + 1) xs k (omega arith))
      go true (suc i) (suc k) l h rec = rec i k (omega arith) (omega arith)
      go false i k l h rec = rec i k l h

  -- where no row is listed, all are the same
  pub none-listed : (n : ℕ) (xs : List Site) → length (rows n xs) ≡ 0 → map (λ x. old_row x.spot) xs ≡ map (λ x. new_row x.spot) xs
  unfolding differences_from
  none-listed n [] e = refl
  none-listed n (x ∷ xs) e = go (differs older newer s x.spot) refl e (none-listed (n + 1) xs)
    where
      go : (b : Bool) → differs older newer s x.spot ≡ b → length (grown b n x xs) ≡ 0
          → (length (rows (n + 1) xs) ≡ 0 → map (λ y. old_row y.spot) xs ≡ map (λ y. new_row y.spot) xs)
          → map (λ y. old_row y.spot) (x ∷ xs) ≡ map (λ y. new_row y.spot) (x ∷ xs)
      go true d e rec = absurd (omega arith)
      go false d e rec = ap₂ ◌∷◌ (differs_false x.spot d) (rec e)

-- ---- for code: the list in two parts, and what differs told by the two look-ups
module _ (older newer s : List ℕ) where
  pub differences-append : (n : ℕ) (a b : List Site)
      → differences_from older newer s n (a ++ b) ≡ differences_from older newer s n a ++ differences_from older newer s (n + length a) b
  unfolding differences_from
  differences-append n [] b = ap (λ (k : ℕ). differences_from older newer s k b) (omega arith)
  differences-append n (x ∷ a) b =
      go (differs older newer s x.spot)
      (differences-append (n + 1) a b ∙ ap (λ (k : ℕ). differences_from older newer s (n + 1) a ++ differences_from older newer s k b) (omega arith))
    where
      go : (d : Bool) → differences_from older newer s (n + 1) (a ++ b) ≡ differences_from older newer s (n + 1) a ++ differences_from older newer s (n + length (x ∷ a)) b
          → cond d (difference_row older newer s n x ∷ differences_from older newer s (n + 1) (a ++ b)) (differences_from older newer s (n + 1) (a ++ b))
          ≡ cond d (difference_row older newer s n x ∷ differences_from older newer s (n + 1) a) (differences_from older newer s (n + 1) a) ++ differences_from older newer s (n + length (x ∷ a)) b
      go true e = ap (λ l. difference_row older newer s n x ∷ l) e
      go false e = e

  -- the older has no row, and the newer has one
  abbrev pub learned : Option Tie → Option Tie → Bool
  learned none none = false
  learned none (some r) = true
  learned (some q) o = false

  pub differs-learned : well_formed_lem newer ≡ true → Extends older newer → (x : Spot)
      → differs older newer s x ≡ learned (tied older x.scope x.prop.id) (tied newer x.scope x.prop.id)
  unfolding property_in
  differs-learned w ext x = go (tied older x.scope x.prop.id) (tied newer x.scope x.prop.id) refl refl
    where
      shows : (t : List ℕ) (o : Option Tie) → tied t x.scope x.prop.id ≡ o → property_row (showing t s x) ≡ property_row (shown s x.prop o)
      shows t o e = ap (λ y. property_row (shown s x.prop y)) e

      go : (o o' : Option Tie) → tied older x.scope x.prop.id ≡ o → tied newer x.scope x.prop.id ≡ o' → differs older newer s x ≡ learned o o'
      go none none e e' = same_rows older newer s x (shows older none e ∙ sym (shows newer none e'))
      go none (some r) e e' =
          differs-is older newer s x λ q.
          let z : bit_or 0x8000 x.prop.id ≡ r.target = head-eq_of_cons-eq (sym (shows older none e) ∙ q ∙ shows newer (some r) e') in
          let a = unmapped_large x.prop.id in
          let h = found-held newer x.scope.kind x.scope.code x.prop.id r e' in
          let b = target_small newer x.scope.kind x.scope.code r w h.0 in
          omega arith
      go (some r) o' e e' = same_rows older newer s x (shows older (some r) e ∙ sym (shows newer (some r) (kept older newer w ext x.scope.kind x.scope.code x.prop.id r e)))
