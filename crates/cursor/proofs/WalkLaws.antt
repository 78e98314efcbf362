-- A walk visits the entries of what a reader reads, one after the other, whatever the layout.
use Prim.Native.Nat.{ℕ, zero, suc, ◌+◌}
use native.Mathlib.Omega.{arith}
use mathlib.Core.Path.{◌≡◌, refl, ap, ◌∙◌}
use mathlib.Core.Bool.{Bool, true, false}
use mathlib.Core.List.{List, [], ◌∷◌, ◌++◌, append_assoc}
use mathlib.Core.Option.{Option, none, some}
use lib.ListN.{length, length-append}
use Rattle.rules.specs.Lists.{◌>>=◌}
use Rattle.rules.specs.Tree.{Entry, plain, parent, Entries, end, more, Node, node_in, preorder1, preorder, many_at, levels_at, is_reported, reported}
use Rattle.rules.proofs.ListLaws.{Every}
use Rattle.rows.specs.Acts.{Nodes}
use Rattle.rows.proofs.LevelLaws.{levels-none}
use Rattle.cursor.specs.Walk.{Step, node_of, Steps, close_by, entry_by, Frame, frame, picked, ◌before◌, tail_at, rest_at, behind}

abbrev pub is_empty : {A : Type 0} → List A → Type 0
is_empty [] = Unit
is_empty (x ∷ xs) = ⊥

pub picked-reported : {P : Type 0} (es : Entries P) → picked is_reported es ≡ reported es
unfolding picked reported
picked-reported end = refl
picked-reported (more e es) = rw (picked-reported es)

module _ {P : Type 0} (step : Steps P) (pick : Entry P → Bool) where
  -- the innermost list has no entry left
  pub rest_end : (d n up p : ℕ) → rest_at step pick d n (frame 0 up) [] p ≡ some ([], p)
  unfolding rest_at tail_at picked preorder
  rest_end d n up p = rw (levels-none (entry_by step) d p)

  before-none : (o : Nodes P) → ([] before o) ≡ o
  before-none none = refl
  before-none (some y) = refl

  pub rest_pop : (d n up : ℕ) (g : Frame) (fs : List Frame) (p : ℕ) → rest_at step pick d n (frame 0 up) (g ∷ fs) p ≡ rest_at step pick (suc d) n g fs p
  unfolding rest_at tail_at preorder
  rest_pop d n up g fs p = rw (levels-none (entry_by step) d p) (before-none _ ∙ ap (λ (m : ℕ). levels_at (entry_by step) (suc d) g.left p >>= tail_at step pick (suc d) m g.parent fs) (omega arith))

  before_both : (a b : List (Node P)) (o : Nodes P) → ((a ++ b) before o) ≡ (a before (b before o))
  before_both a b none = refl
  before_both a b (some y) = ap (λ l. some (l, y.1)) (append_assoc a b y.0)

  picked_some : (e : Entry P) (es : Entries P) → pick e ≡ true → picked pick (more e es) ≡ more e (picked pick es)
  unfolding picked
  picked_some e es h = rw h

  picked_none : (e : Entry P) (es : Entries P) → pick e ≡ false → picked pick (more e es) ≡ picked pick es
  unfolding picked
  picked_none e es h = rw h

  -- one more entry comes first
  tail_more : (d n up : ℕ) (fs : List Frame) (e : Entry P) (es : Entries P) (q : ℕ) → (is_empty fs → pick e ≡ true)
      → tail_at step pick d n up fs (more e es, q) ≡ (preorder1 (length fs) up n e before tail_at step pick d (n + length (preorder1 (length fs) up n e)) up fs (es, q))
  unfolding tail_at preorder
  tail_more d n up [] e es q h = rw (picked_some e es (h tt))
  tail_more d n up (g ∷ fs) e es q h =
      let these = preorder1 (suc (length fs)) up n e in
      let those = preorder (suc (length fs)) up (n + length these) es in
      let z : n + length (these ++ those) ≡ n + length these + length those = omega (arith, length-append these those) in
      before_both these those (levels_at (entry_by step) (suc d) g.left q >>= tail_at step pick (suc d) (n + length (these ++ those)) g.parent fs)
      ∙ ap (λ (m : ℕ). these before (those before (levels_at (entry_by step) (suc d) g.left q >>= tail_at step pick (suc d) m g.parent fs))) z

  -- the others of its list, put after an entry
  abbrev others : ℕ → ℕ → Entry P × ℕ → Option (Entries P × ℕ)
  others d k e = levels_at (entry_by step) d k e.1 >>= λ y. some (more e.0 y.0, y.1)

  after-entry : (d n k up : ℕ) (fs : List Frame) (e : Entry P) (q m : ℕ) → n + length (preorder1 (length fs) up n e) ≡ m → (is_empty fs → pick e ≡ true)
      → (others d k (e, q) >>= tail_at step pick d n up fs) ≡ (preorder1 (length fs) up n e before rest_at step pick d m (frame k up) fs q)
  unfolding rest_at
  after-entry d n k up fs e q m z h = rw (← z) (go (levels_at (entry_by step) d k q))
    where
      go : (o : Option (Entries P × ℕ)) → (o >>= (λ y. some (more e y.0, y.1)) >>= tail_at step pick d n up fs)
          ≡ (preorder1 (length fs) up n e before (o >>= tail_at step pick d (n + length (preorder1 (length fs) up n e)) up fs))
      go none = refl
      go (some y) = tail_more d n up fs e y.0 y.1 h

  -- ---- the entry at p, then what is after it
  module _ (d n k up : ℕ) (fs : List Frame) where
    abbrev entered : Step P → Nodes P
    entered x = node_of (length fs) up x ∷ [] before behind step pick d n (frame k up) fs x.children x.next

    abbrev Picks : Option (Entry P × ℕ) → Type 0
    Picks o = is_empty fs → Every (λ e. pick e.0 ≡ true) o

    -- its list was read
    by-list : (t : ℕ) (ps : List P) (b : Option (Entries P × ℕ)) → Picks (b >>= λ l. some (parent t ps l.0, l.1))
        → (b >>= (λ l. some (parent t ps l.0, l.1)) >>= others (suc d) k >>= tail_at step pick (suc d) n up fs)
        ≡ (node_in (length fs) up t ps ∷ [] before (b >>= tail_at step pick d (suc n) n (frame k up ∷ fs)))
    unfolding preorder1 tail_at rest_at
    by-list t ps none h = refl
    by-list t ps (some b) h =
        let below = preorder (suc (length fs)) n (suc n) b.0 in
        let m = suc n + length below in
        let z : n + suc (length below) ≡ m = omega arith in
        after-entry (suc d) n k up fs (parent t ps b.0) b.1 m z h
        ∙ before_both (node_in (length fs) up t ps ∷ []) below (levels_at (entry_by step) (suc d) k b.1 >>= tail_at step pick (suc d) m up fs)

    by-step : (x : Step P) → Picks (close_by (levels_at (entry_by step) d) x)
        → (close_by (levels_at (entry_by step) d) x >>= others (suc d) k >>= tail_at step pick (suc d) n up fs) ≡ entered x
    unfolding close_by behind preorder1 preorder rest_at
    by-step x h = go x.children h
      where
        t : ℕ
        t = x.type

        ps : List P
        ps = x.props

        q : ℕ
        q = x.next

        close : Option ℕ → Option (Entry P × ℕ)
        close c = elim c [ none ↦ some (plain t ps, q) | some m ↦ levels_at (entry_by step) d m q >>= λ l. some (parent t ps l.0, l.1) ]

        z : n + 1 ≡ suc n
        z = omega arith

        go : (c : Option ℕ) → Picks (close c)
            → (close c >>= others (suc d) k >>= tail_at step pick (suc d) n up fs) ≡ (node_of (length fs) up x ∷ [] before behind step pick d n (frame k up) fs c q)
        go none h = after-entry (suc d) n k up fs (plain t ps) q (suc n) z h
        go (some zero) h =
            let e = levels-none (entry_by step) d q in
            rw e (after-entry (suc d) n k up fs (parent t ps end) q (suc n) z (rw e at h))
        go (some (suc m)) h = by-list t ps (levels_at (entry_by step) d (suc m) q) h

    pub rest-step : (p : ℕ) → Picks (entry_by step (levels_at (entry_by step) d) p)
        → rest_at step pick (suc d) n (frame (suc k) up) fs p ≡ (step p >>= entered)
    unfolding rest_at levels_at many_at entry_by
    rest-step p h = go (step p) h
      where
        go : (o : Option (Step P)) → Picks (o >>= close_by (levels_at (entry_by step) d))
            → (o >>= close_by (levels_at (entry_by step) d) >>= others (suc d) k >>= tail_at step pick (suc d) n up fs) ≡ (o >>= entered)
        go none h = refl
        go (some x) h = by-step x h

  -- an entry of the top list that isn't picked is skipped
  pub rest_over : (d n k up p : ℕ) (e : Entry P) (q : ℕ) → entry_by step (levels_at (entry_by step) d) p ≡ some (e, q) → pick e ≡ false
      → rest_at step pick (suc d) n (frame (suc k) up) [] p ≡ rest_at step pick (suc d) n (frame k up) [] q
  unfolding rest_at levels_at many_at tail_at
  rest_over d n k up p e q r h = rw r (go (many_at (entry_by step (levels_at (entry_by step) d)) k q))
    where
      go : (o : Option (Entries P × ℕ)) → (o >>= (λ y. some (more e y.0, y.1)) >>= tail_at step pick (suc d) n up []) ≡ (o >>= tail_at step pick (suc d) n up [])
      go none = refl
      go (some y) = ap (λ es. some (preorder 0 up n es, y.1)) (picked_none e y.0 h)
