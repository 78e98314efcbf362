-- Depth in the later layout: "no node at depth 256 (the top is 0)". To compute a stream of 257 nodes would take a minute, so here is a law over every
-- stream whose nodes stand each below the one before it: it is a tree exactly when there are 256 of them or fewer.
use Prim.Native.Nat.{ℕ, zero, suc, ◌+◌, ◌*◌, ◌≤◌}
use native.Mathlib.Omega.{arith}
use mathlib.Core.Path.{◌≡◌, refl, sym, ap, ◌∙◌}
use mathlib.Core.Bool.{Bool, true, false, cond}
use mathlib.Core.List.{List, [], ◌∷◌}
use mathlib.Core.Option.{Option, none, some, some-injective}
use lib.Dec.{ltb, eqb}
use lib.ListN.{length}
use borrow.Author.Tests.{ltb-true, ltb-false, lt-ltb, le-ltb, le-leb, eq-eqb}
use Rattle.rules.specs.Lists.{◌>>=◌}
use Rattle.rules.specs.Bytes.{u16}
use Rattle.rules.specs.Tree.{Entry, Entries, end, more, many_at, levels_at}
use Rattle.rules.specs.Later.{Prop, length_at, trailer_at, end_at, is_inside, ends_group, property_at, with_children, group_at, last_of, children_at, node_at, nodes_at, tree_of}
use Rattle.rules.proofs.OpenStreams.{blob_open}
use Rattle.rules.proofs.WorkedLater.{is_read_lem, chain}
use Rattle.rules.proofs.ListLaws.{none_some}
use Rattle.rules.proofs.LaterLaws.{group-last}

-- a flag with a trailer
abbrev pub Flag : List ℕ → ℕ → ℕ → Type 0
Flag s p trailer = (length_at s p ≡ 0) × (trailer_at s p ≡ trailer)

-- k + 1 nodes from p to the end, each with a flag and, but for the last, one child
abbrev pub Chain : List ℕ → ℕ → ℕ → Type 0
Chain s zero p = Flag s (p + 6) 253 × (length s ≡ p + 24)
Chain s (suc k) p = Flag s (p + 6) 254 × Chain s k (p + 24)

chain_long : (s : List ℕ) (k p : ℕ) → Chain s k p → length s ≡ p + 24 * k + 24
chain_long s zero p c = let e = c.1 in omega (arith, e)
chain_long s (suc k) p c = let e = chain_long s k (p + 24) c.1 in omega (arith, e)

-- the group of a flag whose trailer ends it
flag_group : (s : List ℕ) (p trailer : ℕ) → Flag s p trailer → ends_group trailer ≡ true → p + 18 ≤ length s → group_at s (length s) p ≡ last_of s p
unfolding is_inside
flag_group s p trailer f e h = group-last s (length s) p (omega arith) (le-leb (end_at s p) (length s) (let e = f.0 in omega (arith, e))) (ap ends_group f.1 ∙ e)

-- where a reading of nodes ends, if there is one
abbrev ends : Option (Entries Prop × ℕ) → Option ℕ
ends none = none
ends (some x) = some x.1

no-nodes : (d : ℕ) (s : List ℕ) (p : ℕ) → nodes_at d s 0 p ≡ some (end, p)
unfolding nodes_at levels_at many_at
no-nodes zero s p = refl
no-nodes (suc d) s p = refl

abbrev with-node : (Entries Prop → Entry Prop) → Entries Prop × ℕ → Option (Entry Prop × ℕ)
with-node f x = some (f x.0, x.1)

abbrev alone : Entry Prop × ℕ → Option (Entries Prop × ℕ)
alone y = some (more y.0 end, y.1)

carried : (f : Entries Prop → Entry Prop) (r : Option (Entries Prop × ℕ)) → ends ((r >>= with-node f) >>= alone) ≡ ends r
carried f none = refl
carried f (some x) = refl

-- a node ends where its children end
node-ends : (d : ℕ) (s : List ℕ) (p trailer n : ℕ) → Flag s (p + 6) trailer → ends_group trailer ≡ true → p + 24 ≤ length s
    → children_at s trailer (p + 24) ≡ some (n, p + 24) → ends (nodes_at (suc d) s 1 p) ≡ ends (nodes_at d s n (p + 24))
unfolding nodes_at levels_at many_at node_at
node-ends d s p trailer n f e h c =
    let stop : p + 6 + 14 + length_at s (p + 6) + 4 ≡ p + 24 = omega (arith, f.0) in
    rw (flag_group s (p + 6) trailer f e (omega arith), f.1, stop, c) (carried (λ es. with_children (u16 s p) (property_at s (p + 6) ∷ []) es) (levels_at (node_at s) d n (p + 24)))

one-level : (s : List ℕ) (k p : ℕ) → ends (nodes_at 0 s 1 p) ≡ cond (ltb k 0) (some (length s)) none
unfolding nodes_at levels_at
one-level s k p = rw (le-ltb k 0 (omega arith))

no_child : (s : List ℕ) (p : ℕ) → children_at s 253 p ≡ some (0, p)
unfolding children_at
no_child s p = refl

one_child : (s : List ℕ) (p : ℕ) → children_at s 254 p ≡ some (1, p)
unfolding children_at
one_child s p = refl

one_more : (k d : ℕ) → ltb k d ≡ ltb (suc k) (suc d)
one_more k d = go (ltb k d) refl
  where
    go : (b : Bool) → ltb k d ≡ b → b ≡ ltb (suc k) (suc d)
    go true e = let h = ltb-true k d e in sym (lt-ltb (suc k) (suc d) (omega (arith, h)))
    go false e = let h = ltb-false k d e in sym (le-ltb (suc k) (suc d) (omega (arith, h)))

-- so many levels are enough for a chain, or not
chain_ends : (d : ℕ) (s : List ℕ) (k p : ℕ) → Chain s k p → ends (nodes_at d s 1 p) ≡ cond (ltb k d) (some (length s)) none
chain_ends zero s k p c = one-level s k p
chain_ends (suc d) s zero p c =
    let e = c.1 in
    node-ends d s p 253 0 c.0 refl (omega (arith, e)) (no_child s (p + 24)) ∙ ap ends (no-nodes d s (p + 24)) ∙ rw (lt-ltb 0 (suc d) (omega arith)) (ap some (sym e))
chain_ends (suc d) s (suc k) p c =
    let e = chain_long s k (p + 24) c.1 in
    node-ends d s p 254 1 c.0 refl (omega (arith, e)) (one_child s (p + 24)) ∙ chain_ends d s k (p + 24) c.1
    ∙ ap (λ (b : Bool). cond {A = Option ℕ} b (some (length s)) none) (one_more k d)

-- ---- the law: the object's flag says one node, and k + 1 nodes follow
used-up : (b : Bool) (n : ℕ) (r : Option (Entries Prop × ℕ)) → ends r ≡ cond b (some n) none
    → is_read_lem (r >>= λ y. cond (eqb y.1 n) (some y.0) none) ≡ b
used-up true n none e = absurd (none_some e)
used-up true n (some x) e = rw (eq-eqb x.1 n (some-injective x.1 n e)) refl
used-up false n none e = refl
used-up false n (some x) e = absurd (none_some (sym e))

pub depth : (s : List ℕ) (k : ℕ) → Flag s 14 254 → Chain s k 32 → is_read_lem (tree_of s) ≡ ltb k 256
unfolding tree_of
depth s k f c =
    let e = chain_long s k 32 c in
    let stop : 14 + 14 + length_at s 14 + 4 ≡ 32 = let z = f.0 in omega (arith, z) in
    rw (flag_group s 14 254 f refl (omega (arith, e)), f.1, stop, one_child s 32) (used-up (ltb k 256) (length s) (nodes_at 256 s 1 32) (chain_ends 256 s k 32 c))

-- there are such streams
three-nodes : is_read_lem (tree_of chain) ≡ ltb 2 256
unfolding blob_open
three-nodes = depth chain 2 (refl, refl) ((refl, refl), ((refl, refl), ((refl, refl), refl)))
