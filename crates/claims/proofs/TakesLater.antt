-- How many bytes the nodes and properties of a later stream take at least.
use Prim.Native.Nat.{ℕ, zero, suc, ◌+◌, ◌*◌, ◌≤◌, ◌<◌}
use native.Mathlib.Omega.{arith}
use mathlib.Core.Path.{◌≡◌, refl, ap, ◌∙◌}
use mathlib.Core.Bool.{true, not}
use mathlib.Core.List.{List, [], ◌∷◌, map}
use mathlib.Core.Option.{Option, none, some}
use lib.Dec.{leb, eqb}
use lib.ListN.{length, length-append, length-map}
use borrow.Author.Tests.{leb-true, eqb-true, le-ltb, lt-ltb}
use Rattle.rules.specs.Lists.{concat, keep}
use Rattle.rules.specs.Bytes.{u16}
use Rattle.rules.specs.Tree.{Entry, Entries, end, more, is_reported, reported, Node, no_parent, node_in, nodes_of}
use Rattle.rules.specs.Later.{Prop, trailer_at, is_inside, ends_group, Group, group_of, group_at, children_at, with_children, node_at, nodes_at, object_group, tree_of, match_at, matches_of, matches_from, groups_of, is_empty, scan_from, nodes_by, later_of_lem}
use Rattle.rules.specs.Reading.{properties, properties_of}
use Rattle.rules.specs.ReadLater.{property_of, name_in_lem, control_of, read_later_lem}
use Rattle.rules.proofs.ListLaws.{Every, every_if, every_then, every_when, every_at, none_some, and_l, and_r, map-map}
use Rattle.rules.proofs.LaterLaws.{either, group_grows}
use Rattle.claims.proofs.Levels.{levels_every}
use Rattle.claims.proofs.Amounts.{entries_in1, entries_in, props_in1, props_in, props_of, reported_less, nodes-many, each_long}

-- ---- a group that ends by a trailer has a property
abbrev Ends : Group → Type 0
Ends g = (trailer : ℕ) → g.trailer ≡ some trailer → 1 ≤ length g.props

groups_end : (k : ℕ) (s : List ℕ) (limit p : ℕ) → Ends (group_of k s limit p)
unfolding group_of
groups_end zero s limit p = λ t e. absurd (none_some e)
groups_end (suc k) s limit p =
    either Ends (is_inside s limit p) _ _
    (λ _. either Ends (ends_group (trailer_at s p)) _ _ (λ _ t e. omega arith) λ _ t e. omega arith)
    λ _ t e. absurd (none_some e)

group-ends : (s : List ℕ) (limit p : ℕ) → Ends (group_at s limit p)
unfolding group_at
group-ends s limit p = groups_end (length s) s limit p

-- ---- and so nodes have as many properties as there are nodes, or more
abbrev Full : Entries Prop → Type 0
Full end = Unit
Full (more e es) = (entries_in1 e ≤ props_in1 e) × Full es

full_less : (es : Entries Prop) → Full es → entries_in es ≤ props_in es
full_less end h = omega arith
full_less (more e es) h = omega (arith, full_less es h.1)

full_reported : (es : Entries Prop) → Full es → Full (reported es)
unfolding reported
full_reported end h = tt
full_reported (more e es) h = either Full (is_reported e) _ _ (λ _. (h.0, full_reported es h.1)) λ _. full_reported es h.1

module _ (s : List ℕ) where
  -- ---- nodes take 6 bytes each and 18 for each property
  abbrev From : ℕ → ℕ × ℕ → Type 0
  From p x = p ≤ x.1

  children-from : (trailer p : ℕ) → Every (From p) (children_at s trailer p)
  unfolding children_at
  children-from trailer p =
      every_if (From p) (eqb trailer 253) _ _ (λ _. omega arith) λ _.
      every_if (From p) (eqb trailer 254) _ _ (λ _. omega arith) λ _.
      every_if (From p) (leb (p + 2) (length s)) _ _ (λ _. omega arith) λ _. tt

  abbrev NodeTakes : ℕ → ℕ → Entry Prop × ℕ → Type 0
  NodeTakes level p x = (p + 6 * entries_in1 x.0 + 18 * props_in1 x.0 ≤ x.1) × (entries_in1 x.0 ≤ props_in1 x.0)

  abbrev NodesTake : ℕ → ℕ → ℕ → Entries Prop × ℕ → Type 0
  NodesTake level n p x = (p + 6 * entries_in x.0 + 18 * props_in x.0 ≤ x.1) × Full x.0

  with-many : (t : ℕ) (qs : List Prop) (es : Entries Prop) → (entries_in1 (with_children t qs es) ≡ 1 + entries_in es) × (props_in1 (with_children t qs es) ≡ length qs + props_in es)
  with-many t qs end = (refl, omega arith)
  with-many t qs (more e es) = (omega arith, refl)

  node_takes : (level : ℕ) (below : ℕ → ℕ → Option (Entries Prop × ℕ)) → ((n p : ℕ) → Every (NodesTake (level + 1) n p) (below n p)) → (p : ℕ) → Every (NodeTakes level p) (node_at s below p)
  unfolding node_at
  node_takes level below deep p =
      let g = group_at s (length s) (p + 6) in
      every_when (NodeTakes level p) g.trailer _ λ trailer e.
      every_then (From g.stop) (NodeTakes level p) (children_at s trailer g.stop) _ (children-from trailer g.stop) λ c h.
      every_then (NodesTake (level + 1) c.0 c.1) (NodeTakes level p) (below c.0 c.1) _ (deep c.0 c.1) λ x k.
      let w = with-many (u16 s p) g.props x.0 in
      let f = (group_grows s (length s) (p + 6)).past in
      let i = group-ends s (length s) (p + 6) trailer e in
      (omega arith, omega (arith, full_less x.0 k.1))

  nodes-take : (n p : ℕ) → Every (NodesTake 0 n p) (nodes_at 256 s n p)
  unfolding nodes_at
  nodes-take = levels_every (node_at s) NodeTakes NodesTake (λ level p. (omega arith, tt)) (λ level n p x y l h k. (omega arith, (h.1, k.1))) node_takes 256 0 refl

  abbrev TreeTakes : Entries Prop → Type 0
  TreeTakes es = (14 + 6 * entries_in es + 18 * (length (object_group s).props + props_in es) ≤ length s) × Full es

  tree_takes : Every TreeTakes (tree_of s)
  unfolding tree_of
  tree_takes =
      let f = (group_grows s (length s) 14).past in
      every_when TreeTakes (object_group s).trailer _ λ trailer _.
      every_then (From (object_group s).stop) TreeTakes (children_at s trailer (object_group s).stop) _ (children-from trailer (object_group s).stop) λ c h.
      every_then (NodesTake 0 c.0 c.1) TreeTakes (nodes_at 256 s c.0 c.1) _ (nodes-take c.0 c.1) λ x k.
      every_if TreeTakes (eqb x.1 (length s)) _ _ (λ t. let z = eqb-true x.1 (length s) t in (omega arith, k.1)) λ _. tt

-- ---- the scan
-- how many properties groups have
abbrev sum : List (List Prop) → ℕ
sum [] = 0
sum (qs ∷ gs) = length qs + sum gs

module _ (s : List ℕ) where
  -- places that stand in their order, at p or behind, inside the stream
  abbrev Rising : ℕ → List ℕ → Type 0
  Rising p [] = Unit
  Rising p (a ∷ ms) = (p ≤ a) × (a ≤ length s) × Rising a ms

  rising_less : (p q : ℕ) (ms : List ℕ) → p ≤ q → Rising q ms → Rising p ms
  rising_less p q [] l h = tt
  rising_less p q (a ∷ ms) l h = (omega arith, h.1, h.2)

  match-inside : (p : ℕ) → match_at s p ≡ true → p + 6 ≤ length s
  unfolding match_at
  match-inside p m = search (and_l, and_r, leb-true)

  matches_rise : (k p : ℕ) → Rising p (matches_of k s p)
  unfolding matches_of
  matches_rise zero p = tt
  matches_rise (suc k) p =
      either (Rising p) (match_at s p) _ _
      (λ t. (omega arith, omega (arith, match-inside p t), rising_less p (p + 6) (matches_of k s (p + 6)) (omega arith) (matches_rise k (p + 6))))
      λ _. rising_less p (p + 1) (matches_of k s (p + 1)) (omega arith) (matches_rise k (p + 1))

  groups_take : (p : ℕ) (ms : List ℕ) → p ≤ length s → Rising p ms → p + 18 * sum (groups_of s ms) ≤ length s
  unfolding groups_of
  groups_take p [] l h = omega arith
  groups_take p (a ∷ []) l h = let g = group_grows s (length s) a in omega (arith, g.past, g.within h.1)
  groups_take p (a ∷ b ∷ r) l h =
      let g = group_grows s b a in
      let k = h.2 in
      omega (arith, g.past, g.within k.0, groups_take b (b ∷ r) k.1 (omega arith, k.1, k.2))

  -- the groups that are kept have all the properties, and one each at least
  kept : (gs : List (List Prop)) → (props_of (map (node_in 0 no_parent 0) (keep (λ qs. not (is_empty qs)) gs)) ≡ sum gs) × (length (map {A = List Prop} (node_in 0 no_parent 0) (keep (λ qs. not (is_empty qs)) gs)) ≤ sum gs)
  unfolding keep
  kept [] = (refl, omega arith)
  kept ([] ∷ gs) = let h = kept gs in (omega arith, omega arith)
  kept ((q ∷ qs) ∷ gs) = let h = kept gs in (omega arith, omega arith)

  scan_takes : (p : ℕ) → p ≤ length s → (p + 18 * props_of (scan_from s p) ≤ length s) × (length (scan_from s p) ≤ props_of (scan_from s p))
  unfolding scan_from matches_from
  scan_takes p l =
      let k = kept (groups_of s (matches_of (length s) s p)) in
      let h = groups_take p (matches_of (length s) s p) l (matches_rise (length s) p) in
      (omega arith, omega arith)

  -- ---- the counts of the reading, by what is reported
  counts-later : (length (read_later_lem s).controls ≡ length (later_of_lem s).1) × (length (properties (read_later_lem s)) ≡ length (later_of_lem s).0 + props_of (later_of_lem s).1)
  unfolding read_later_lem properties control_of
  counts-later =
      let l : length (map (property_of s) (later_of_lem s).0) ≡ length (later_of_lem s).0 = simp length-map in
      let c = each_long (λ n. map (property_of s) n.props) (λ n. simp length-map) (later_of_lem s).1 in
      let m = ap (λ x. length (concat x)) (map-map properties_of (control_of s (name_in_lem s (tree_of s))) (later_of_lem s).1) in
      (simp length-map, length-append (map (property_of s) (later_of_lem s).0) (concat (map properties_of (map (control_of s (name_in_lem s (tree_of s))) (later_of_lem s).1))) ∙ omega arith)

  counts-by : (own : List Prop) (ns : List (Node Prop)) → later_of_lem s ≡ (own, ns) → (length (read_later_lem s).controls ≡ length ns) × (length (properties (read_later_lem s)) ≡ length own + props_of ns)
  counts-by own ns e =
      let h = counts-later in
      (h.0 ∙ ap (λ x. length x.1) e, h.1 ∙ ap (λ x. length x.0 + props_of x.1) e)

  long-is : (o : Option (Entries Prop)) → 14 ≤ length s → tree_of s ≡ o → later_of_lem s ≡ ((object_group s).props, nodes_by s o)
  unfolding later_of_lem
  long-is o l e = rw (le-ltb (length s) 14 l, e)

  short-is : length s < 14 → later_of_lem s ≡ ([], [])
  unfolding later_of_lem
  short-is l = rw (lt-ltb (length s) 14 l)

  abbrev C : ℕ
  C = length (read_later_lem s).controls

  abbrev P : ℕ
  P = length (properties (read_later_lem s))

  -- "if a later tree, 6C + 18P + 14"
  pub tree-fits : (es : Entries Prop) → tree_of s ≡ some es → (6 * C + 18 * P + 14 ≤ length s) × (C ≤ P)
  tree-fits es e =
      let h : TreeTakes s es = every_at (TreeTakes s) (tree_of s) es (tree_takes s) e in
      let k = counts-by (object_group s).props (nodes_of es) (long-is (some es) (omega arith) e) in
      let n = nodes-many es in
      (omega (arith, reported_less es), omega (arith, full_less (reported es) (full_reported es h.1)))

  -- "if a scan after at least 14 bytes, 18P + 14, with C at most P"
  pub scan-fits : 14 ≤ length s → tree_of s ≡ none → (18 * P + 14 ≤ length s) × (C ≤ P)
  scan-fits l e =
      let g = group_grows s (length s) 14 in
      let h = scan_takes (object_group s).stop (g.within l) in
      let k = counts-by (object_group s).props (scan_from s (object_group s).stop) (long-is none l e) in
      (omega (arith, g.past), omega arith)

  -- "Under 14 bytes: nothing"
  pub short-fits : length s < 14 → (C ≡ 0) × (P ≡ 0)
  short-fits l = counts-by [] [] (short-is l)
