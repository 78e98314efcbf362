-- No entry is read at a level above 255, in either layout.
use Prim.Native.Nat.{ℕ, suc, ◌+◌, ◌≤◌}
use native.Mathlib.Numerals.{add-one}
use mathlib.Core.Path.{refl}
use mathlib.Core.Bool.{Bool, true, false, cond}
use mathlib.Core.List.{List, [], ◌∷◌, ◌++◌}
use mathlib.Core.Option.{Option, none, some}
use lib.Dec.{eqb}
use lib.ListN.{length}
use Rattle.rules.specs.Lists.{◌>>=◌}
use Rattle.rules.specs.Bytes.{half_at_lem, u16}
use Rattle.rules.specs.Tree.{Entry, plain, parent, Entries, end, more, Node, no_parent, is_reported, reported, preorder1, preorder, nodes_of, levels_at}
use Rattle.rules.specs.Access2000 as old
use Rattle.rules.specs.Later as later
use Rattle.rules.proofs.ListLaws.{Every, every_if, every_then, every_when}
use Rattle.claims.proofs.Levels.{levels_every}
use Rattle.claims.proofs.Each.{Each}

-- entries at a level, and what is below an entry at that level
abbrev mutual
  pub Shallow : {P : Type 0} → ℕ → Entries P → Type 0
  Shallow level end = Unit
  Shallow level (more e es) = (level ≤ 255) × Below level e × Shallow level es

  Below : {P : Type 0} → ℕ → Entry P → Type 0
  Below level (plain t qs) = Unit
  Below level (parent t qs es) = Shallow (level + 1) es

-- ---- of the nodes in output order
abbrev pub Low : {P : Type 0} → Node P → Type 0
Low n = n.level ≤ 255

each_append : {A : Type 0} (P : A → Type 0) (a b : List A) → Each P a → Each P b → Each P (a ++ b)
each_append P [] b h k = k
each_append P (x ∷ a) b h k = (h.0, each_append P a b h.1 k)

mutual
  unfolding preorder1 preorder

  low1 : {P : Type 0} (level up n : ℕ) (e : Entry P) → level ≤ 255 → Below level e → Each Low (preorder1 level up n e)
  low1 level up n (plain t qs) l h = (l, tt)
  low1 level up n (parent t qs es) l h = (l, low (suc level) n (suc n) es (rw (add-one level) at h))

  low : {P : Type 0} (level up n : ℕ) (es : Entries P) → Shallow level es → Each Low (preorder level up n es)
  low level up n end h = tt
  low level up n (more e es) h =
      let these = preorder1 level up n e in
      each_append Low these (preorder level up (n + length these) es) (low1 level up n e h.0 h.1) (low level up (n + length these) es h.2)

reported_shallow : {P : Type 0} (level : ℕ) (es : Entries P) → Shallow level es → Shallow level (reported es)
unfolding reported
reported_shallow level end h = tt
reported_shallow level (more e es) h = go (is_reported e) (reported_shallow level es h.2)
  where
    go : (b : Bool) → Shallow level (reported es) → Shallow level (cond b (more e (reported es)) (reported es))
    go true k = (h.0, h.1, k)
    go false k = k

pub nodes-low : {P : Type 0} (es : Entries P) → Shallow 0 es → Each Low (nodes_of es)
unfolding nodes_of
nodes-low es h = low 0 no_parent 0 (reported es) (reported_shallow 0 es h)

-- ---- of what is read
abbrev Many : {P : Type 0} → ℕ → Entries P × ℕ → Type 0
Many level x = Shallow level x.0

abbrev One : {P : Type 0} → ℕ → Entry P × ℕ → Type 0
One level x = Below level x.0

module _ {P : Type 0} (one : (ℕ → ℕ → Option (Entries P × ℕ)) → ℕ → Option (Entry P × ℕ))
    (an-entry : (level : ℕ) (below : ℕ → ℕ → Option (Entries P × ℕ)) → ((n p : ℕ) → Every (Many (level + 1)) (below n p)) → (p : ℕ) → Every (One level) (one below p)) where
  levels_shallow : (n p : ℕ) → Every (Many 0) (levels_at one 256 n p)
  levels_shallow = levels_every one (λ level p. One level) (λ level n p. Many level) (λ level p. tt) (λ level n p x y l h k. (l, h, k)) an-entry 256 0 refl

module _ (s : List ℕ) where
  entry_shallow : (level : ℕ) (below : ℕ → ℕ → Option (Entries old.Prop × ℕ)) → ((n p : ℕ) → Every (Many (level + 1)) (below n p)) → (p : ℕ)
      → Every (One level) (old.entry_at s below p)
  unfolding old.entry_at old.close_at
  entry_shallow level below deep p =
      every_when (One level) (half_at_lem s p) _ λ type _.
      every_when (One level) (old.run_at s (p + 2)) _ λ x _.
      every_when (One level) (old.head_at_lem s x.1) _ λ y _. go type x.0 y.0 y.1
    where
      go : (type : ℕ) (qs : List old.Prop) (o : Option ℕ) (e : ℕ)
          → Every (One {P = old.Prop} level) (elim o [ none ↦ some (plain type qs, e) | some n ↦ below n e >>= λ l. some (parent type qs l.0, l.1) ])
      go type qs none e = tt
      go type qs (some n) e = every_then (Many (level + 1)) (One level) (below n e) _ (deep n e) λ x h. h

  pub old_shallow : Every (λ x. Shallow 0 x.1) (old.stream_of s)
  unfolding old.stream_of old.entries_at
  old_shallow =
      let S : List old.Prop × Entries old.Prop → Type 0 = λ x. Shallow 0 x.1 in
      every_when S (old.run_at s 10) _ λ x _.
      every_when S (old.head_at_lem s x.1) _ λ y _.
      every_when S y.0 _ λ n _.
      every_then (Many 0) S (old.entries_at 256 s n y.1) _ (levels_shallow (old.entry_at s) entry_shallow n y.1) λ z h.
      every_if S (eqb z.1 (length s)) (some (x.0, z.0)) none (λ _. h) λ _. tt

  with_shallow : (level type : ℕ) (qs : List later.Prop) (es : Entries later.Prop) → Shallow (level + 1) es → Below level (later.with_children type qs es)
  with_shallow level type qs end h = tt
  with_shallow level type qs (more e es) h = h

  node_shallow : (level : ℕ) (below : ℕ → ℕ → Option (Entries later.Prop × ℕ)) → ((n p : ℕ) → Every (Many (level + 1)) (below n p)) → (p : ℕ)
      → Every (One level) (later.node_at s below p)
  unfolding later.node_at
  node_shallow level below deep p =
      let g = later.group_at s (length s) (p + 6) in
      every_when (One level) g.trailer _ λ t _.
      every_when (One level) (later.children_at s t g.stop) _ λ y _.
      every_then (Many (level + 1)) (One level) (below y.0 y.1) _ (deep y.0 y.1) λ z h. with_shallow level (u16 s p) g.props z.0 h

  pub tree_shallow : Every (λ es. Shallow 0 es) (later.tree_of s)
  unfolding later.tree_of later.nodes_at
  tree_shallow =
      let S : Entries later.Prop → Type 0 = λ es. Shallow 0 es in
      every_when S (later.object_group s).trailer _ λ t _.
      every_when S (later.children_at s t (later.object_group s).stop) _ λ x _.
      every_then (Many 0) S (later.nodes_at 256 s x.0 x.1) _ (levels_shallow (later.node_at s) node_shallow x.0 x.1) λ y h.
      every_if S (eqb y.1 (length s)) (some y.0) none (λ _. h) λ _. tt
