-- The whole stream written, and what a caller sees.
use Prim.Native.Nat.{ℕ, ◌+◌, ◌≤◌, ◌<◌}
use native.Mathlib.Omega.{arith}
use mathlib.Core.Path.{◌≡◌, refl, sym, ap, ap₂, ◌∙◌, subst}
use mathlib.Core.Bool.{Bool, true, false, cond}
use mathlib.Core.List.{List, map}
use mathlib.Core.Option.{Option, none, some}
use lib.Dec.{ltb, eqb}
use lib.ListN.{length}
use borrow.Author.Tests.{lt-ltb, le-ltb}
use Rattle.std.specs.Prelude as code
use Rattle.rules.specs.Lists.{◌>>=◌, concat}
use Rattle.rules.specs.Answer.{answer, longest}
use Rattle.rules.specs.Rows.{control_width, property_width, room}
use Rattle.rules.specs.Tree.{Entries, Node, levels}
use Rattle.rules.specs.Later.{Prop, nodes_at, object_group, tree_of, nodes_by, scan_from, later_of_lem}
use Rattle.rules.specs.Reading.{Control, properties, control_rows_from, control_rows, property_rows}
use Rattle.rules.specs.ReadLater.{property_of, name_in_lem, control_of, read_later_lem}
use Rattle.rules.specs.declared.Answer.{Answer}
use Rattle.rows.specs.Writing.{State, state}
use Rattle.rows.specs.Acts.{Nodes, top_nodes, Held, Fit, act_by}
use Rattle.rows.specs.declared.Next.{Next}
use Rattle.rows.proofs.WritingLaws.{properties-length}
use Rattle.rows.specs.Judge as judge
use Rattle.rows.specs.Judge.{Written, Exits}
use Rattle.rows.proofs.JudgeLaws.{exits_refused, roomy, exits_read, made-counts, made-fit, made-written}
use Rattle.countlater.specs.Count.{group, children, behind, whole_tree, is_tree, Counted}
use Rattle.countlater.specs.declared.Children.{Children}
use Rattle.countlater.specs.declared.Counts.{Counts}
use Rattle.countlater.proofs.CountLaws.{whole, whole_by, entries_in, tree-by, object_within}
use Rattle.countlater.proofs.NodeLaws.{children_bad}
use Rattle.later.specs.Write.{GroupReady, GroupDone, WrittenBy, tree_control, NodesReady, NodesDone, scanned_control, ScanReady, ScanDone, control, started, BlobReady}
use Rattle.countlater.specs.declared.Group.{Group}
use Rattle.later.proofs.WriteGroupLaws.{many_written}
use Rattle.later.proofs.WriteNodeLaws.{own-many}

-- ---- the tree
pub whole_same : (s : List ℕ) (Q : List (Node Prop) × ℕ → Type 0) (o : Option (Entries Prop × ℕ)) → Held Q (top_nodes (o >>= whole s)) → (o >>= whole s) ≡ o
whole_same s Q none h = absurd h
whole_same s Q (some x) h = go (eqb x.1 (length s)) h
  where
    go : (b : Bool) → Held Q (top_nodes (cond b (some (x.0, x.1)) none)) → cond b (some (x.0, x.1)) none ≡ some x
    go true h = refl
    go false h = absurd h

-- a tree of which Q holds, by its top list
module _ (s : List ℕ) (g : Group) (Q : List (Node Prop) × ℕ → Type 0) (h : Held Q (top_nodes (whole_tree s g))) where
  pub tree-never : code.None ≡ children (behind s g) → ⊥
  unfolding whole_tree
  tree-never e = rw (children_bad (behind s g) e) at h

  pub tree-same : {b : Children} → code.Some b ≡ children (behind s g) → top_nodes (whole_tree s g) ≡ top_nodes (nodes_at levels s b.count b.next)
  tree-same {b} e =
      let k = whole_by s g e in
      ap top_nodes (k ∙ whole_same s Q (nodes_at levels s b.count b.next) (subst (λ o. Held Q (top_nodes o)) k h))

module _ (s : List ℕ) (g : Group) (st : State) (h : NodesReady s (top_nodes (whole_tree s g)) st) {b : Children} (e : code.Some b ≡ children (behind s g)) where
  same : top_nodes (whole_tree s g) ≡ top_nodes (nodes_at levels s b.count b.next)
  same = tree-same s g (λ x. Fit (map (tree_control s) x.0) st) h.fits e

  pub tree-ready : NodesReady s (top_nodes (nodes_at levels s b.count b.next)) st
  tree-ready = rw same at h

  pub tree-done : {cs ps : List ℕ} {r : Next} → NodesDone s (top_nodes (nodes_at levels s b.count b.next)) st cs ps r → NodesDone s (top_nodes (whole_tree s g)) st cs ps r
  tree-done d = d ∙ ap (λ o. act_by (tree_control s) o st) (sym same)

-- ---- the stream
pub later-is : (s : List ℕ) → 14 ≤ length s → read_later_lem s ≡ record { own = map (property_of s) (object_group s).props; controls = map (control s) (nodes_by s (tree_of s)) }
unfolding read_later_lem later_of_lem
later-is s h = rw (le-ltb (length s) 14 h)

pub same-many : (s : List ℕ) (n : Node Prop) → length (control s n).properties ≡ length n.props
same-many s = own-many s (name_in_lem s (tree_of s))

-- ---- the tree where there is one, and the scan where there is none
module _ (s : List ℕ) {tree : Bool} (is : tree ≡ is_tree (tree_of s)) where
  no-tree : {b : Bool} → tree_of s ≡ none → tree ≡ b → b ≡ false
  no-tree e t = sym t ∙ is ∙ ap is_tree e

  a_tree : {b : Bool} {es : Entries Prop} → tree_of s ≡ some es → tree ≡ b → b ≡ true
  a_tree e t = sym t ∙ is ∙ ap is_tree e

  pub in_tree : tree ≡ true → control s ≡ tree_control s
  in_tree b = go (tree_of s) refl
    where
      go : (o : Option (Entries Prop)) → tree_of s ≡ o → control_of s (name_in_lem s o) ≡ tree_control s
      go none e = absurd (let k = no-tree e b in let z : ◌≡◌ {A = ℕ} 0 1 = cc in omega arith)
      go (some es) e = refl

  pub in_scan : tree ≡ false → control s ≡ scanned_control s
  in_scan b = go (tree_of s) refl
    where
      go : (o : Option (Entries Prop)) → tree_of s ≡ o → control_of s (name_in_lem s o) ≡ scanned_control s
      go none e = refl
      go (some es) e = absurd (let k = a_tree e b in let z : ◌≡◌ {A = ℕ} 0 1 = cc in omega arith)

  -- the object's group is gone through
  module _ {g : Group} (ge : g ≡ group (object_group s)) where
    pub tree_is : tree ≡ true → (e : ℕ) × (top_nodes (whole_tree s g) ≡ some (nodes_by s (tree_of s), e))
    tree_is b = go (whole_tree s g) refl
      where
        go : (o : Option (Entries Prop × ℕ)) → whole_tree s g ≡ o → (e : ℕ) × (top_nodes (whole_tree s g) ≡ some (nodes_by s (tree_of s), e))
        go none f = absurd (let k = no-tree (tree-by s ge ∙ ap entries_in f) b in let z : ◌≡◌ {A = ℕ} 0 1 = cc in omega arith)
        go (some x) f = (x.1, ap top_nodes f ∙ sym (ap (λ o. some (nodes_by s o, x.1)) (tree-by s ge ∙ ap entries_in f)))

    pub scan-is : tree ≡ false → nodes_by s (tree_of s) ≡ scan_from s g.stop
    scan-is b = go (tree_of s) refl
      where
        go : (o : Option (Entries Prop)) → tree_of s ≡ o → nodes_by s (tree_of s) ≡ scan_from s g.stop
        go none e = ap (nodes_by s) e ∙ ap (scan_from s) (sym (ap (λ g. g.stop) ge))
        go (some es) e = absurd (let k = a_tree e b in let z : ◌≡◌ {A = ℕ} 0 1 = cc in omega arith)

module _ {s : List ℕ} {tree : Bool} {cs ps : List ℕ} (h : BlobReady s tree cs ps) where
  pub own-ready : GroupReady s (length s) 14 (length ps) 0
  own-ready = record { inside = omega arith; small = h.small; fits = omega (arith, h.own) }

  module _ {w : Group} {ps' : List ℕ} (d : GroupDone s (length s) 14 ps 0 ps' w) where
    -- the object's rows are written, and the nodes' are next
    abbrev st : State
    st = state cs 0 ps' w.count

    started-is : started s cs ps ≡ st
    started-is = let a = sym d.rows in let b = sym (many_written d) in λ i. state cs 0 (a i) (b i)

    all_fit : Fit (map (control s) (nodes_by s (tree_of s))) st
    all_fit = subst (Fit (map (control s) (nodes_by s (tree_of s)))) started-is h.fits

    done-by : (f : Node Prop → Control) → control s ≡ f → (e : ℕ) {cs' ps'' : List ℕ} {r : Next} → WrittenBy f (some (nodes_by s (tree_of s), e)) st cs' ps'' r → Written (read_later_lem s) cs ps cs' ps''
    done-by f k e {cs'} {ps''} {r} n =
        let o : Nodes Prop = some (nodes_by s (tree_of s), e) in
        let x = n ∙ ap₂ (λ f st. act_by f o st) (sym k) (sym started-is) in
        rw (later-is s h.long) (made-written (property_of s) (control s) (same-many s) (object_group s).props (nodes_by s (tree_of s)) cs ps cs' ps'' r.control r.property r.at e x)

    pub blob-tree-ready : tree ≡ true → NodesReady s (top_nodes (whole_tree s w)) st
    blob-tree-ready b = rw (tree_is s h.is d.is b).1 (record { known = h.small; fits = subst (λ f. Fit (map f (nodes_by s (tree_of s))) st) (in_tree s h.is b) all_fit })

    pub blob-tree-done : tree ≡ true → {cs' ps'' : List ℕ} {r : Next} → NodesDone s (top_nodes (whole_tree s w)) st cs' ps'' r → Written (read_later_lem s) cs ps cs' ps''
    blob-tree-done b n = let x = tree_is s h.is d.is b in done-by (tree_control s) (in_tree s h.is b) x.0 (n ∙ ap (λ o. act_by (tree_control s) o st) x.1)

    pub blob-scan-ready : tree ≡ false → ScanReady s w.stop st
    blob-scan-ready b = record {
      within = omega (arith, ap (λ g. g.stop) d.is, object_within s h.long);
      ready = record { known = h.small; fits = subst (λ f. Fit (map f (scan_from s w.stop)) st) (in_scan s h.is b) (rw (sym (scan-is s h.is d.is b)) all_fit) };
    }

    pub blob-scan-done : tree ≡ false → {cs' ps'' : List ℕ} {r : Next} → ScanDone s w.stop st cs' ps'' r → Written (read_later_lem s) cs ps cs' ps''
    blob-scan-done b n = done-by (scanned_control s) (in_scan s h.is b) (length s) (n ∙ ap (λ ns. act_by (scanned_control s) (some (ns, length s)) st) (sym (scan-is s h.is d.is b)))

-- ---- what a caller sees
pub read_short : (s cs ps : List ℕ) → length s < 14 → (a : Answer) → a ≡ answer 0 0 0 0 → Exits (some (read_later_lem s)) cs ps a cs ps
unfolding read_later_lem later_of_lem properties control_rows property_rows control_rows_from concat
read_short s cs ps h a e =
    let z : ltb (room control_width cs) 0 ≡ false = le-ltb (room control_width cs) 0 (omega arith) in
    let y : ltb (room property_width ps) 0 ≡ false = le-ltb (room property_width ps) 0 (omega arith) in
    rw (lt-ltb (length s) 14 h, z, y, e)

module _ {s : List ℕ} (h : 14 ≤ length s) {n : Counts} (c : Counted s n) where
  pub has : judge.Counts (read_later_lem s) n.controls (n.own + n.props) n.own
  has = rw (later-is s h, c.controls, c.props, c.own) (made-counts (property_of s) (control s) (same-many s) (object_group s).props (nodes_by s (tree_of s)))

  module _ (cs ps : List ℕ) (a : Answer) (j : judge.Judged n.controls (n.own + n.props) n.own (room control_width cs) (room property_width ps) a) where
    pub read-refused : (a.number ≡ 0 → ⊥) → Exits (some (read_later_lem s)) cs ps a cs ps
    read-refused = exits_refused cs ps (read_later_lem s) a (j (read_later_lem s) has)

    module _ (z : a.number ≡ 0) where
      pub blob-ready : length s ≤ longest → BlobReady s n.tree cs ps
      blob-ready small =
          let qs = (object_group s).props in
          let r = roomy cs ps (read_later_lem s) a (j (read_later_lem s) has) z in
          record {
            long = h;
            is = c.tree;
            own = omega (arith, r.properties, has.properties-are, c.own);
            small = small;
            fits = made-fit (property_of s) (control s) (same-many s) qs (nodes_by s (tree_of s)) cs ps _ (rw (later-is s h) at r) (properties-length (map (property_of s) qs) ps 0) (omega (arith, small, c.few, c.own, c.controls, c.props));
          }

      pub read_done : (cs' ps' : List ℕ) → Written (read_later_lem s) cs ps cs' ps' → Exits (some (read_later_lem s)) cs ps a cs' ps'
      read_done = exits_read cs ps (read_later_lem s) a (j (read_later_lem s) has) z
