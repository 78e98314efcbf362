-- Values that stand in stream order: those of either layout do, all of them, from the object's first to the last control's last.
use Prim.Native.Nat.{ℕ, zero, suc, ◌+◌, ◌≤◌, ◌<◌}
use native.Mathlib.Omega.{arith}
use mathlib.Core.Path.{◌≡◌, refl, sym, ap, ap₂, ◌∙◌}
use mathlib.Core.Bool.{Bool, true, false, cond, not}
use mathlib.Core.List.{List, [], ◌∷◌, ◌++◌, map, append-nil}
use mathlib.Core.Option.{Option, none, some}
use lib.Dec.{ltb, leb, eqb}
use lib.ListN.{length, get_or}
use borrow.Author.Tests.{leb-true, ltb-false, eqb-true}
use Rattle.rules.specs.Lists.{◌>>=◌, concat, keep}
use Rattle.rules.specs.Bytes.{byte, byte_at, half_at_lem, u16}
use Rattle.rules.specs.Tree.{Entry, plain, parent, Entries, end, more, Node, no_parent, node_in, is_reported, reported, preorder1, preorder, nodes_of, levels_at, levels}
use Rattle.rules.specs.Access2000 as old
use Rattle.rules.specs.Later as later
use Rattle.rules.proofs.ListLaws.{Every, every_if, every_then, every_when, and_l, and_r, map-append, concat-append}
use Rattle.rules.proofs.Access2000Laws.{extent-from}
use Rattle.rules.proofs.LaterLaws.{either, group_grows}
use Rattle.claims.proofs.Levels.{levels_every}

-- from p to e the values vs, each a start and a size, stand one behind the other: something stands before each, and none ends behind e
abbrev pub Ordered : ℕ → List (ℕ × ℕ) → ℕ → Type 0
Ordered p [] e = p ≤ e
Ordered p (v ∷ vs) e = (p < v.0) × Ordered (v.0 + v.1) vs e

to_end : (vs : List (ℕ × ℕ)) (p e : ℕ) → Ordered p vs e → p ≤ e
to_end [] p e h = h
to_end (v ∷ vs) p e h = omega (arith, h.0, to_end vs _ e h.1)

pub earlier : (vs : List (ℕ × ℕ)) (q p e : ℕ) → q ≤ p → Ordered p vs e → Ordered q vs e
earlier [] q p e l h = omega arith
earlier (v ∷ vs) q p e l h = (omega (arith, h.0), h.1)

pub join : (a b : List (ℕ × ℕ)) (p m e : ℕ) → Ordered p a m → Ordered m b e → Ordered p (a ++ b) e
join [] b p m e h k = earlier b p m e h k
join (v ∷ a) b p m e h k = (h.0, join a b _ m e h.1 k)

pub split : (a b : List (ℕ × ℕ)) (p e : ℕ) → Ordered p (a ++ b) e → (m : ℕ) × Ordered p a m × Ordered m b e
split [] b p e h = (p, omega arith, h)
split (v ∷ a) b p e h = let r = split a b _ e h.1 in (r.0, (h.0, r.1), r.2)

-- each ends within e, and before the next one starts
pub ends-within : (vs : List (ℕ × ℕ)) (p e : ℕ) → Ordered p vs e → (j : ℕ) → j < length vs → (get_or vs j (0, 0)).0 + (get_or vs j (0, 0)).1 ≤ e
ends-within [] p e h j l = absurd (omega arith)
ends-within (v ∷ vs) p e h zero l = to_end vs _ e h.1
ends-within (v ∷ vs) p e h (suc j) l = ends-within vs _ e h.1 j (omega arith)

starts_past : (vs : List (ℕ × ℕ)) (p e : ℕ) → Ordered p vs e → (k : ℕ) → k < length vs → p < (get_or vs k (0, 0)).0
starts_past [] p e h k l = absurd (omega arith)
starts_past (v ∷ vs) p e h zero l = h.0
starts_past (v ∷ vs) p e h (suc k) l = omega (arith, h.0, starts_past vs _ e h.1 k (omega arith))

pub one_by_one : (vs : List (ℕ × ℕ)) (p e : ℕ) → Ordered p vs e → (j k : ℕ) → j < k → k < length vs → (get_or vs j (0, 0)).0 + (get_or vs j (0, 0)).1 < (get_or vs k (0, 0)).0
one_by_one [] p e h j k l m = absurd (omega arith)
one_by_one (v ∷ vs) p e h j zero l m = absurd (omega arith)
one_by_one (v ∷ vs) p e h zero (suc k) l m = starts_past vs _ e h.1 k (omega arith)
one_by_one (v ∷ vs) p e h (suc j) (suc k) l m = one_by_one vs _ e h.1 j k (omega arith) (omega arith)

-- ---- a tree: its values in preorder stand in stream order, and so do those of what is reported
module _ {P : Type 0} (place : P → ℕ × ℕ) where
  abbrev pub places : List P → List (ℕ × ℕ)
  places = map place

  abbrev pub places_in : List (Node P) → List (ℕ × ℕ)
  places_in ns = concat (map (λ n. places n.props) ns)

  places-append : (a b : List (Node P)) → places_in (a ++ b) ≡ places_in a ++ places_in b
  places-append a b = ap concat (map-append _ a b) ∙ concat-append (map (λ n. places n.props) a) (map (λ n. places n.props) b)

  -- the values of entries with all below them
  abbrev mutual
    pub places_of1 : Entry P → List (ℕ × ℕ)
    places_of1 (plain t qs) = places qs
    places_of1 (parent t qs es) = places qs ++ places_of es

    pub places_of : Entries P → List (ℕ × ℕ)
    places_of end = []
    places_of (more e es) = places_of1 e ++ places_of es

  mutual
    unfolding preorder1 preorder concat

    order_places1 : (level up n : ℕ) (e : Entry P) → places_in (preorder1 level up n e) ≡ places_of1 e
    order_places1 level up n (plain t qs) = append-nil (places qs)
    order_places1 level up n (parent t qs es) = ap (λ l. places qs ++ l) (order-places (suc level) n (suc n) es)

    order-places : (level up n : ℕ) (es : Entries P) → places_in (preorder level up n es) ≡ places_of es
    order-places level up n end = refl
    order-places level up n (more e es) =
        let these = preorder1 level up n e in
        let m = n + length these in
        places-append these (preorder level up m es) ∙ ap₂ ◌++◌ (order_places1 level up n e) (order-places level up m es)

  nodes-places : (es : Entries P) → places_in (nodes_of es) ≡ places_of (reported es)
  unfolding nodes_of
  nodes-places es = order-places 0 no_parent 0 (reported es)

  -- what a reader reads from p on stands in order, up to where it ends
  abbrev pub One : ℕ → Entry P × ℕ → Type 0
  One p x = Ordered p (places_of1 x.0) x.1

  abbrev pub Many : ℕ → Entries P × ℕ → Type 0
  Many p x = Ordered p (places_of x.0) x.1

  pub levels-ordered : (one : (ℕ → ℕ → Option (Entries P × ℕ)) → ℕ → Option (Entry P × ℕ))
      → ((below : ℕ → ℕ → Option (Entries P × ℕ)) → ((n p : ℕ) → Every (Many p) (below n p)) → (p : ℕ) → Every (One p) (one below p))
      → (n p : ℕ) → Every (Many p) (levels_at one levels n p)
  levels-ordered one k =
      levels_every one (λ level. One) (λ level n. Many) (λ level p. omega arith) (λ level n p x y l. join (places_of1 x.0) (places_of y.0) p x.1 y.1) (λ level. k) 256 0 refl

  pub reported-ordered : (es : Entries P) (p e : ℕ) → Ordered p (places_of es) e → Ordered p (places_of (reported es)) e
  unfolding reported
  reported-ordered end p e h = h
  reported-ordered (more x es) p e h = let r = split (places_of1 x) (places_of es) p e h in go (is_reported x) r.0 r.1 (reported-ordered es r.0 e r.2)
    where
      go : (b : Bool) (m : ℕ) → Ordered p (places_of1 x) m → Ordered m (places_of (reported es)) e → Ordered p (places_of (cond b (more x (reported es)) (reported es))) e
      go true m h k = join (places_of1 x) (places_of (reported es)) p m e h k
      go false m h k = earlier (places_of (reported es)) p m e (to_end (places_of1 x) p m h) k

-- where a value stands
abbrev pub old_place : old.Prop → ℕ × ℕ
old_place q = (q.start, q.size)

abbrev pub later_place : later.Prop → ℕ × ℕ
later_place q = (q.start, q.size)

module _ (s : List ℕ) where
  -- ---- Access 2000
  abbrev Behind : {A : Type 0} → ℕ → A × ℕ → Type 0
  Behind p x = p ≤ x.1

  property_past : (p : ℕ) → Every (λ q. p < q.start) (old.property_at s p)
  unfolding old.property_at
  property_past p =
      every_then (λ x. p + 1 ≤ x.0) (λ q. p < q.start) (old.extent_at s (byte s p) (p + 1)) _ (extent-from s (byte s p) (p + 1)) λ x h.
      every_if (λ (q : old.Prop). p < q.start) (leb (x.0 + x.1) (length s)) _ none (λ _. omega arith) λ _. tt

  abbrev Run : ℕ → List old.Prop × ℕ → Type 0
  Run p x = Ordered p (places old_place x.0) x.1

  runs_ordered : (k p : ℕ) → Every (Run p) (old.run_of k s p)
  unfolding old.run_of
  runs_ordered zero p = omega arith
  runs_ordered (suc k) p =
      every_if (Run p) (old.goes_on_lem s p) _ _
      (λ _. every_then (λ q. p < q.start) (Run p) (old.property_at s p) _ (property_past p) λ q h.
      every_then (Run (q.start + q.size)) (Run p) (old.run_of k s (q.start + q.size)) _ (runs_ordered k (q.start + q.size)) λ x l. (h, l))
      λ _. omega arith

  run-ordered : (p : ℕ) → Every (Run p) (old.run_at s p)
  unfolding old.run_at
  run-ordered p = runs_ordered (length s) p

  head-behind : (p : ℕ) → Every (Behind p) (old.head_at_lem s p)
  unfolding old.head_at_lem
  head-behind p =
      every_when (Behind p) (byte_at s p) _ λ b _.
      every_if (Behind p) (eqb b 0xFD) _ _ (λ _. omega arith) λ _.
      every_if (Behind p) (eqb b 0xFE) _ _ (λ _. omega arith) λ _.
      every_if (Behind p) (eqb b 0xFF) _ none (λ _. every_when (Behind p) (half_at_lem s (p + 1)) _ λ n _. omega arith) λ _. tt

  entry-ordered : (below : ℕ → ℕ → Option (Entries old.Prop × ℕ)) → ((n p : ℕ) → Every (Many old_place p) (below n p)) → (p : ℕ) → Every (One old_place p) (old.entry_at s below p)
  unfolding old.entry_at old.close_at
  entry-ordered below deep p =
      every_when (One old_place p) (half_at_lem s p) _ λ type _.
      every_then (Run (p + 2)) (One old_place p) (old.run_at s (p + 2)) _ (run-ordered (p + 2)) λ x h.
      every_then (Behind x.1) (One old_place p) (old.head_at_lem s x.1) _ (head-behind x.1) λ y l.
      go type x.0 x.1 (earlier (places old_place x.0) p (p + 2) x.1 (omega arith) h) y.0 y.1 l
    where
      go : (type : ℕ) (qs : List old.Prop) (m : ℕ) → Ordered p (places old_place qs) m → (o : Option ℕ) (e : ℕ) → m ≤ e
          → Every (One old_place p) (elim o [ none ↦ some (plain type qs, e) | some n ↦ below n e >>= λ l. some (parent type qs l.0, l.1) ])
      go type qs m h none e l = rw (append-nil (places old_place qs)) at (join (places old_place qs) [] p m e h l)
      go type qs m h (some n) e l =
          every_then (Many old_place e) (One old_place p) (below n e) _ (deep n e) λ x k.
          let es = places_of old_place x.0 in
          join (places old_place qs) es p m x.1 h (earlier es m e x.1 l k)

  -- all of the object's properties, and those of nodes
  abbrev pub AllOld : List old.Prop → List (Node old.Prop) → Type 0
  AllOld own ns = Ordered 0 (places old_place own ++ places_in old_place ns) (length s)

  abbrev pub OldOrdered : List old.Prop × Entries old.Prop → Type 0
  OldOrdered x = AllOld x.0 (nodes_of x.1)

  pub old-ordered : Every OldOrdered (old.stream_of s)
  unfolding old.stream_of old.entries_at
  old-ordered =
      every_then (Run 10) OldOrdered (old.run_at s 10) _ (run-ordered 10) λ x h.
      every_then (Behind x.1) OldOrdered (old.head_at_lem s x.1) _ (head-behind x.1) λ y l.
      every_when OldOrdered y.0 _ λ n _.
      every_then (Many old_place y.1) OldOrdered (old.entries_at 256 s n y.1) _ (levels-ordered old_place (old.entry_at s) entry-ordered n y.1) λ z k.
      every_if OldOrdered (eqb z.1 (length s)) (some (x.0, z.0)) none
      (λ t. let e : z.1 ≡ length s = eqb-true _ _ t in
      let own = places old_place x.0 in
      let ns = places_of old_place (reported z.0) in
      let r = reported-ordered old_place z.0 y.1 (length s) (rw e at k) in
      rw (nodes-places old_place z.0) (join own ns 0 x.1 (length s) (earlier own 0 10 x.1 (omega arith) h) (earlier ns x.1 y.1 (length s) l r)))
      λ _. tt

  -- ---- the later layout
  groups_ordered : (k limit p : ℕ) → Ordered p (places later_place (later.group_of k s limit p).props) (later.group_of k s limit p).stop
  unfolding later.group_of later.property_at
  groups_ordered zero limit p = omega arith
  groups_ordered (suc k) limit p =
      either (In p) (later.is_inside s limit p) _ _
      (λ _. either (In p) (later.ends_group (later.trailer_at s p)) _ _ (λ _. (omega arith, omega arith)) λ _.
      let g = later.group_of k s limit (later.end_at s p) in
      (omega arith, earlier (places later_place g.props) _ _ g.stop (omega arith) (groups_ordered k limit (later.end_at s p))))
      λ _. omega arith
    where
      In : ℕ → later.Group → Type 0
      In p g = Ordered p (places later_place g.props) g.stop

  group-ordered : (limit p : ℕ) → Ordered p (places later_place (later.group_at s limit p).props) (later.group_at s limit p).stop
  unfolding later.group_at
  group-ordered limit p = groups_ordered (length s) limit p

  children-behind : (t p : ℕ) → Every (Behind p) (later.children_at s t p)
  unfolding later.children_at
  children-behind t p =
      every_if (Behind p) (eqb t 253) _ _ (λ _. omega arith) λ _.
      every_if (Behind p) (eqb t 254) _ _ (λ _. omega arith) λ _.
      every_if (Behind p) (leb (p + 2) (length s)) _ none (λ _. omega arith) λ _. tt

  with-places : (type : ℕ) (qs : List later.Prop) (es : Entries later.Prop) → places_of1 later_place (later.with_children type qs es) ≡ places later_place qs ++ places_of later_place es
  with-places type qs end = sym (append-nil (places later_place qs))
  with-places type qs (more e es) = refl

  node-ordered : (below : ℕ → ℕ → Option (Entries later.Prop × ℕ)) → ((n p : ℕ) → Every (Many later_place p) (below n p)) → (p : ℕ) → Every (One later_place p) (later.node_at s below p)
  unfolding later.node_at
  node-ordered below deep p =
      let g = later.group_at s (length s) (p + 6) in
      every_when (One later_place p) g.trailer _ λ t _.
      every_then (Behind g.stop) (One later_place p) (later.children_at s t g.stop) _ (children-behind t g.stop) λ y l.
      every_then (Many later_place y.1) (One later_place p) (below y.0 y.1) _ (deep y.0 y.1) λ z k.
      let qs = places later_place g.props in
      let es = places_of later_place z.0 in
      rw (with-places (u16 s p) g.props z.0) (join qs es p g.stop z.1 (earlier qs p (p + 6) g.stop (omega arith) (group-ordered (length s) (p + 6))) (earlier es g.stop y.1 z.1 l k))

  -- what is reported stands behind the object's group
  abbrev Reported : List (Node later.Prop) → Type 0
  Reported ns = Ordered (later.object_group s).stop (places_in later_place ns) (length s)

  tree-ordered : Every (λ es. Reported (nodes_of es)) (later.tree_of s)
  unfolding later.tree_of later.nodes_at
  tree-ordered =
      let g = later.object_group s in
      let R : Entries later.Prop → Type 0 = λ es. Reported (nodes_of es) in
      every_when R g.trailer _ λ t _.
      every_then (Behind g.stop) R (later.children_at s t g.stop) _ (children-behind t g.stop) λ x l.
      every_then (Many later_place x.1) R (later.nodes_at 256 s x.0 x.1) _ (levels-ordered later_place (later.node_at s) node-ordered x.0 x.1) λ y k.
      every_if R (eqb y.1 (length s)) (some y.0) none
      (λ t. let e : y.1 ≡ length s = eqb-true _ _ t in
      let r = reported-ordered later_place y.0 x.1 (length s) (rw e at k) in
      rw (nodes-places later_place y.0) (earlier (places_of later_place (reported y.0)) g.stop x.1 (length s) l r))
      λ _. tt

  -- the matches of a scan from p on: each from p on, behind the one before it and inside
  abbrev Ascend : ℕ → List ℕ → Type 0
  Ascend p [] = Unit
  Ascend p (a ∷ r) = (p ≤ a) × (a ≤ length s) × Ascend a r

  ascend-from : (q p : ℕ) (ms : List ℕ) → q ≤ p → Ascend p ms → Ascend q ms
  ascend-from q p [] l h = tt
  ascend-from q p (a ∷ r) l h = (omega (arith, h.0), h.1, h.2)

  match-inside : (p : ℕ) → later.match_at s p ≡ true → p + 6 ≤ length s
  unfolding later.match_at
  match-inside p m = search (and_l, and_r, leb-true)

  matches_ascend : (k p : ℕ) → Ascend p (later.matches_of k s p)
  unfolding later.matches_of
  matches_ascend zero p = tt
  matches_ascend (suc k) p =
      either (Ascend p) (later.match_at s p) _ _
      (λ m. (omega arith, omega (arith, match-inside p m), ascend-from p (p + 6) (later.matches_of k s (p + 6)) (omega arith) (matches_ascend k (p + 6))))
      λ _. ascend-from p (p + 1) (later.matches_of k s (p + 1)) (omega arith) (matches_ascend k (p + 1))

  -- a group that reaches to `limit` at most, and what stands from there on
  group-then : (a p limit : ℕ) (rest : List (ℕ × ℕ)) → p ≤ a → a ≤ limit → Ordered limit rest (length s) → Ordered p (places later_place (later.group_at s limit a).props ++ rest) (length s)
  group-then a p limit rest l h k =
      let g = later.group_at s limit a in
      let qs = places later_place g.props in
      join qs rest p g.stop (length s) (earlier qs p a g.stop l (group-ordered limit a)) (earlier rest g.stop limit (length s) ((group_grows s limit a).within h) k)

  found-ordered : (ms : List ℕ) (p : ℕ) → p ≤ length s → Ascend p ms → Ordered p (concat (map (places later_place) (later.groups_of s ms))) (length s)
  unfolding later.groups_of concat
  found-ordered [] p l h = l
  found-ordered (a ∷ []) p l h = group-then a p (length s) [] h.0 h.1 (omega arith)
  found-ordered (a ∷ b ∷ r) p l h = group-then a p b _ h.0 h.2.0 (found-ordered (b ∷ r) b h.2.1 (omega arith, h.2.1, h.2.2))

  -- a group without a property has no value
  kept-places : (gs : List (List later.Prop)) → places_in later_place (map (node_in 0 no_parent 0) (keep (λ qs. not (later.is_empty qs)) gs)) ≡ concat (map (places later_place) gs)
  unfolding keep concat
  kept-places [] = refl
  kept-places ([] ∷ gs) = kept-places gs
  kept-places ((q ∷ qs) ∷ gs) = ap (λ l. places later_place (q ∷ qs) ++ l) (kept-places gs)

  scan-ordered : (p : ℕ) → p ≤ length s → Ordered p (places_in later_place (later.scan_from s p)) (length s)
  unfolding later.scan_from later.matches_from
  scan-ordered p l = rw (kept-places (later.groups_of s (later.matches_from s p))) (found-ordered (later.matches_from s p) p l (matches_ascend (length s) p))

  nodes-ordered : (later.object_group s).stop ≤ length s → (o : Option (Entries later.Prop)) → Every (λ es. Reported (nodes_of es)) o → Reported (later.nodes_by s o)
  nodes-ordered l none h = scan-ordered (later.object_group s).stop l
  nodes-ordered l (some es) h = h

  abbrev pub LaterOrdered : List later.Prop × List (Node later.Prop) → Type 0
  LaterOrdered x = Ordered 0 (places later_place x.0 ++ places_in later_place x.1) (length s)

  pub later-ordered : LaterOrdered (later.later_of_lem s)
  unfolding later.later_of_lem concat
  later-ordered =
      either LaterOrdered (ltb (length s) 14) _ _ (λ _. omega arith) λ f.
      let l : 14 ≤ length s = ltb-false _ _ f in
      let g = later.object_group s in
      let own = places later_place g.props in
      join own _ 0 g.stop (length s) (earlier own 0 14 g.stop (omega arith) (group-ordered (length s) 14)) (nodes-ordered ((group_grows s (length s) 14).within l) (later.tree_of s) tree-ordered)
