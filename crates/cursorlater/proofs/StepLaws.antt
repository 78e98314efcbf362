-- The nodes of a later stream are read by their steps; and the cursor after a node.
use Prim.Native.Nat.{ℕ, zero, suc, ◌+◌, ◌<◌}
use native.Mathlib.Omega.{arith}
use mathlib.Core.Path.{◌≡◌, refl, sym, ap, ◌∙◌}
use mathlib.Core.Bool.{true, false}
use mathlib.Core.List.{List}
use mathlib.Core.Option.{Option, none, some}
use lib.Dec.{leb, eqb}
use lib.ListN.{length}
use Rattle.std.specs.Prelude as code
use Rattle.rules.specs.Lists.{◌>>=◌}
use Rattle.rules.specs.Bytes.{Bytes, u16}
use Rattle.rules.specs.Tree.{Entry, parent, Entries, end, more, levels_at, many_at, is_reported}
use Rattle.rules.specs.Later.{Prop, group_at, children_at, with_children, node_at, nodes_at}
use Rattle.rules.proofs.ListLaws.{Every, every_if, every_at}
use Rattle.rows.proofs.LevelLaws.{levels-none, levels-more, is_more}
use Rattle.countlater.specs.Count.{children, behind_by, one_node, top_node}
use Rattle.countlater.specs.declared.Children.{Children}
use Rattle.countlater.proofs.NodeLaws.{children_of_lem, top-reported, top_skipped}
use Rattle.cursor.specs.Walk.{Step, close_by, entry_by}
use Rattle.cursor.specs.Cursors.{top_at}
use Rattle.cursorlater.specs.Steps.{list_of, step_at}

-- ---- a node by its step
abbrev node_with : ℕ → List Prop → Entries Prop × ℕ → Option (Entry Prop × ℕ)
node_with t ps l = some (with_children t ps l.0, l.1)

abbrev parent_of : ℕ → List Prop → Entries Prop × ℕ → Option (Entry Prop × ℕ)
parent_of t ps l = some (parent t ps l.0, l.1)

abbrev later_in : ℕ → List Prop → ℕ × ℕ → Option (Step Prop)
later_in t ps x = some (record { type = t; props = ps; children = list_of x.0; next = x.1 })

node-same : (s : List ℕ) (one : (ℕ → ℕ → Option (Entries Prop × ℕ)) → ℕ → Option (Entry Prop × ℕ)) (d p : ℕ)
    → node_at s (levels_at one d) p ≡ entry_by (step_at s) (levels_at one d) p
unfolding node_at entry_by close_by step_at
node-same s one d p = go (group_at s (length s) (p + 6)).trailer
  where
    stop : ℕ
    stop = (group_at s (length s) (p + 6)).stop

    ps : List Prop
    ps = (group_at s (length s) (p + 6)).props

    some_list : (b : Option (Entries Prop × ℕ)) → Every (λ x. is_more x.0) b
        → (b >>= node_with (u16 s p) ps) ≡ (b >>= parent_of (u16 s p) ps)
    some_list none h = refl
    some_list (some l) h = lists l.0 h
      where
        lists : (es : Entries Prop) → is_more es → ◌≡◌ {A = Option (Entry Prop × ℕ)} (some (with_children (u16 s p) ps es, l.1)) (some (parent (u16 s p) ps es, l.1))
        lists end h = absurd h
        lists (more e es) h = refl

    by_count : (n q : ℕ) → (levels_at one d n q >>= node_with (u16 s p) ps)
        ≡ close_by (levels_at one d) (record { type = u16 s p; props = ps; children = list_of n; next = q })
    by_count zero q = rw (levels-none one d q)
    by_count (suc n) q = some_list (levels_at one d (suc n) q) (levels-more one d (suc n) q (omega arith))

    by-children : (c : Option (ℕ × ℕ)) → (c >>= λ x. levels_at one d x.0 x.1 >>= node_with (u16 s p) ps)
        ≡ (c >>= later_in (u16 s p) ps >>= close_by (levels_at one d))
    by-children none = refl
    by-children (some x) = by_count x.0 x.1

    go : (t : Option ℕ) → (t >>= λ trailer. children_at s trailer stop >>= λ x. levels_at one d x.0 x.1 >>= node_with (u16 s p) ps)
        ≡ (t >>= (λ trailer. children_at s trailer stop >>= later_in (u16 s p) ps) >>= close_by (levels_at one d))
    go none = refl
    go (some t) = by-children (children_at s t stop)

nodes-by : (s : List ℕ) (d n p : ℕ) → levels_at (node_at s) d n p ≡ levels_at (entry_by (step_at s)) d n p
unfolding levels_at
nodes-by s zero zero p = refl
nodes-by s zero (suc n) p = refl
nodes-by s (suc d) n p = ap (λ one. many_at one n p) (λ i q. node-same s (node_at s) d q i)
    ∙ ap (λ below. many_at (entry_by (step_at s) below) n p) (λ i m q. nodes-by s d m q i)

pub nodes-same : (s : List ℕ) (d n p : ℕ) → nodes_at d s n p ≡ levels_at (entry_by (step_at s)) d n p
unfolding nodes_at
nodes-same s d n p = nodes-by s d n p

top-same : (s : List ℕ) (p : ℕ) → node_at s (nodes_at 255 s) p ≡ top_at (step_at s) p
unfolding nodes_at
top-same s p = node-same s (node_at s) 255 p ∙ ap (λ below. entry_by (step_at s) below p) (λ i m q. nodes-by s 255 m q i)

-- ---- a top node that is reported, or can't be read, and one that is skipped
module _ (s : List ℕ) (p : ℕ) where
  pub kept_top : code.None ≡ top_node (one_node 255 s p) → Every (λ e. is_reported e.0 ≡ true) (top_at (step_at s) p)
  kept_top k = rw (← top-same s p) (top-reported (one_node 255 s p) k)

  pub left_top : (next : ℕ) → code.Some next ≡ top_node (one_node 255 s p) → (e : Entry Prop) × (top_at (step_at s) p ≡ some (e, next)) × (is_reported e ≡ false)
  left_top next k =
      let x = top_skipped (one_node 255 s p) next k in
      (x.0, sym (top-same s p) ∙ x.2, x.1)

-- ---- a count fits its word
abbrev CountSmall : ℕ × ℕ → Type 0
CountSmall x = x.0 < 65536

children-small : (s : List ℕ) → Bytes s → (trailer p : ℕ) → Every CountSmall (children_at s trailer p)
unfolding children_at u16
children-small s h trailer p =
    every_if CountSmall (eqb trailer 253) _ _ (λ _. omega arith) λ _.
    every_if CountSmall (eqb trailer 254) _ _ (λ _. omega arith) λ _.
    every_if CountSmall (leb (p + 2) (length s)) _ _ (λ _. omega (arith, h p, h (p + 1))) λ _. tt

behind-small : (s : List ℕ) → Bytes s → (stop : ℕ) (o : code.Option ℕ) → Every CountSmall (behind_by s stop o)
behind-small s h stop code.None = tt
behind-small s h stop (code.Some t) = children-small s h t stop

pub count_small : (s : List ℕ) (stop : ℕ) (o : code.Option ℕ) {b : Children} → code.Some b ≡ children (behind_by s stop o) → Bytes s → b.count < 65536
count_small s stop o {b} e h = every_at CountSmall (behind_by s stop o) (b.count, b.next) (behind-small s h stop o) (children_of_lem (behind_by s stop o) e)
