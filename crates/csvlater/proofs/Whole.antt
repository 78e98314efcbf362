-- The whole stream: the object's records, then those of the tree or of the scan.
use Prim.Native.Nat.{ℕ, ◌-◌, ◌≤◌, ◌<◌}
use native.Mathlib.Omega.{arith}
use mathlib.Core.Path.{◌≡◌, sym, ap, ◌∙◌, subst}
use mathlib.Core.Bool.{Bool, true, false}
use mathlib.Core.List.{List, map}
use lib.ListN.{length}
use borrow.Author.Tests.{lt-ltb}
use Rattle.rules.specs.Answer.{longest}
use Rattle.rules.specs.Tree.{Node, levels}
use Rattle.rules.specs.Later.{Prop, nodes_at, object_group, tree_of, nodes_by, later_of_lem}
use Rattle.rules.specs.Reading.{Control}
use Rattle.rules.specs.ReadLater.{property_of, read_later_lem}
use Rattle.rows.specs.Acts.{top_nodes}
use Rattle.countlater.specs.Count.{children, behind, whole_tree, Counted}
use Rattle.std.specs.Prelude as code
use Rattle.countlater.specs.declared.Children.{Children}
use Rattle.countlater.specs.declared.Group.{Group}
use Rattle.countlater.specs.declared.Counts.{Counts}
use Rattle.countlater.proofs.CountLaws.{object_within}
use Rattle.later.specs.Write.{tree_control, scanned_control, control}
use Rattle.later.proofs.ReadLaws.{tree-same, later-is, in_tree, in_scan, tree_is, scan-is}
use Rattle.cursor.proofs.WorkLaws.{ran_some}
use Rattle.csvwalk.specs.Needs.{needs, object_need, controls_need, sheet_need}
use Rattle.csvwalk.proofs.NeedLaws.{needs-none, controls-none, whole_need}
use Rattle.csvlater.specs.Room.{GroupDone, NodesDone, SectionsReady, SectionsDone, TreeReady, TreeDone, ScanReady, ScanDone, StreamReady, BlobReady, BlobDone}
use Rattle.csvlater.specs.declared.GroupLeft.{GroupLeft}

-- ---- the tree, by its top list
module _ {s : List ℕ} {g : Group} {index letters : List ℕ} (h : TreeReady s g index letters) {b : Children} (e : code.Some b ≡ children (behind s g)) where
  same : top_nodes (whole_tree s g) ≡ top_nodes (nodes_at levels s b.count b.next)
  same = tree-same s g (λ x. length x.0 ≤ longest) h.few e

  pub tree-ready : SectionsReady s b.count b.next index letters
  tree-ready = record { small = h.small; few = rw same at h.few; lent = h.lent }

  pub tree-done : {all r : ℕ} → SectionsDone s b.count b.next all r → TreeDone s g all r
  tree-done {all = all} {r = r} d = subst (λ o. NodesDone s o all r) (sym same) d

-- ---- the stream
pub short-done : (s : List ℕ) (all : ℕ) → length s < 14 → BlobDone s all all
unfolding read_later_lem later_of_lem sheet_need
short-done s all h = rw (lt-ltb (length s) 14 h) (omega (arith, needs-none s object_need, controls-none s 0))

pub blob-ready : {s index letters : List ℕ} {n : Counts} → 14 ≤ length s → StreamReady s index letters → Counted s n → BlobReady s n.tree index letters
blob-ready long h c = record { long = long; small = h.small; is = c.tree; few = omega (arith, c.few, c.controls, h.small); lent = h.lent }

module _ {s : List ℕ} {tree : Bool} {index letters : List ℕ} (h : BlobReady s tree index letters) where
  module _ {owner all : ℕ} (oe : owner ≡ object_need) {w : GroupLeft} (d : GroupDone s (length s) 14 owner all w) where
    own-left : w.left ≡ all - needs s object_need (map (property_of s) (object_group s).props)
    own-left = d.is ∙ ap (λ (n : ℕ). all - needs s n (map (property_of s) (object_group s).props)) oe

    done-by : (f : Node Prop → Control) → control s ≡ f → {r : ℕ} → r ≡ w.left - controls_need s 0 (map f (nodes_by s (tree_of s))) → BlobDone s all r
    done-by f k {r} e =
        let z : controls_need s 0 (map (control s) (nodes_by s (tree_of s))) ≡ controls_need s 0 (map f (nodes_by s (tree_of s))) = ap (λ g. controls_need s 0 (map g (nodes_by s (tree_of s)))) k in
        rw (later-is s h.long) (omega (arith, e, own-left, z, whole_need s (record { own = map (property_of s) (object_group s).props; controls = map (control s) (nodes_by s (tree_of s)) })))

    pub blob-tree-ready : tree ≡ true → TreeReady s w.group index letters
    blob-tree-ready b = record { small = h.small; few = rw (tree_is s h.is d.group-is b).1 (omega (arith, h.few)); lent = h.lent }

    pub blob-tree-done : tree ≡ true → {r : ℕ} → TreeDone s w.group w.left r → BlobDone s all r
    blob-tree-done b {r} n = done-by (tree_control s) (in_tree s h.is b) (ran_some (tree_is s h.is d.group-is b).1 n.is).is

    pub blob-scan-ready : tree ≡ false → ScanReady s w.group.stop index letters
    blob-scan-ready b = record {
      within = omega (arith, ap (λ g. g.stop) d.group-is, object_within s h.long);
      small = h.small;
      few = omega (arith, h.few, ap length (scan-is s h.is d.group-is b));
      lent = h.lent;
    }

    pub blob-scan-done : tree ≡ false → {r : ℕ} → ScanDone s w.group.stop w.left r → BlobDone s all r
    blob-scan-done b {r} n = done-by (scanned_control s) (in_scan s h.is b) (n ∙ ap (λ ns. w.left - controls_need s 0 (map (scanned_control s) ns)) (sym (scan-is s h.is d.group-is b)))
