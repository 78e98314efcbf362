-- The whole stream counted, and what is answered.
use Prim.Native.Nat.{ℕ, ◌+◌, ◌*◌, ◌/◌, ◌≤◌, ◌<◌}
use native.Mathlib.Omega.{arith}
use mathlib.Core.Path.{◌≡◌, refl, sym, ap, ap₂, subst, ◌∙◌}
use mathlib.Core.Bool.{Bool, true, false}
use mathlib.Core.List.{List, map}
use mathlib.Core.Option.{some}
use lib.ListN.{length}
use borrow.Author.Tests.{lt-ltb, le-ltb}
use Rattle.rules.specs.Lists.{concat}
use Rattle.rules.specs.Answer.{answer, longest}
use Rattle.rules.specs.Rows.{control_width, property_width}
use Rattle.rules.specs.Tree.{Node, levels}
use Rattle.rules.specs.Later.{Prop, nodes_at, tree_of, nodes_by, later_of_lem}
use Rattle.rules.specs.Reading.{Control, properties}
use Rattle.rules.specs.ReadLater.{read_later_lem}
use Rattle.rules.specs.Blob.{fit, answer_of}
use Rattle.rules.specs.declared.Answer.{Answer}
use Rattle.rows.specs.Acts.{top_nodes}
use Rattle.rows.specs.Judge as judge
use Rattle.countlater.specs.Count.{children, behind, whole_tree, Counted}
use Rattle.std.specs.Prelude as code
use Rattle.countlater.specs.declared.Children.{Children}
use Rattle.countlater.specs.declared.Counts.{Counts}
use Rattle.countlater.proofs.CountLaws.{object_within}
use Rattle.later.specs.Write.{tree_control, scanned_control, control}
use Rattle.later.proofs.ReadLaws.{tree-same, later-is, in_tree, in_scan, tree_is, scan-is, has}
use Rattle.tally.specs.Places.{bumps, properties_places, controls_places, reading_places}
use Rattle.tally.proofs.BumpLaws.{bumps-append, tallied_refused, tallied_read, room-again}
use Rattle.cursor.specs.Work.{Ran}
use Rattle.cursor.proofs.WorkLaws.{ran_some}
use Rattle.tallylater.specs.Counting as counting
use Rattle.tallylater.specs.Counting.{GroupReady, GroupDone, TreeReady, TreeDone, tree_tally, SectionsReady, SectionsDone, ScanReady, ScanDone, BlobReady, BlobDone}
use Rattle.countlater.specs.declared.Group.{Group}

-- ---- the tree, counted by its top list
module _ {s : List ℕ} {g : Group} (h : TreeReady s g) {b : Children} (e : code.Some b ≡ children (behind s g)) where
  same : top_nodes (whole_tree s g) ≡ top_nodes (nodes_at levels s b.count b.next)
  same = tree-same s g (λ x. length x.0 ≤ longest) h.few e

  pub tree-ready : SectionsReady s b.count b.next
  tree-ready = record { small = h.small; few = rw same at h.few }

  pub tree-done : {words words' : List ℕ} → SectionsDone s b.count b.next words words' → TreeDone s g words words'
  tree-done {words = words} {words' = words'} d = record { next = d.next; is = subst (λ o. Ran (tree_tally s) o words words' d.next) (sym same) d.is }

-- ---- the stream
module _ {s : List ℕ} {tree : Bool} (h : BlobReady s tree) where
  pub own-ready : GroupReady s (length s)
  own-ready = record { inside = omega arith; small = h.small }

  module _ {g : Group} {words now : List ℕ} (d : GroupDone s (length s) 14 words now g) where
    -- the nodes are counted after the object's properties
    all_done : (f : Node Prop → Control) → control s ≡ f → {words' : List ℕ} → words' ≡ bumps now (controls_places false (map f (nodes_by s (tree_of s)))) → BlobDone s words words'
    unfolding reading_places
    all_done f k e = record {
      is =
          e ∙ ap₂ (λ (f : Node Prop → Control) (w : List ℕ). bumps w (controls_places false (map f (nodes_by s (tree_of s))))) (sym k) d.is
          ∙ sym (bumps-append words _ _)
          ∙ ap (λ r. bumps words (reading_places false r)) (sym (later-is s h.long));
    }

    pub blob-tree-ready : tree ≡ true → TreeReady s g
    blob-tree-ready b = record { small = h.small; few = rw (tree_is s h.is d.group-is b).1 (omega (arith, h.few)) }

    pub blob-tree-done : tree ≡ true → {words' : List ℕ} → TreeDone s g now words' → BlobDone s words words'
    blob-tree-done b w = all_done (tree_control s) (in_tree s h.is b) (ran_some (tree_is s h.is d.group-is b).1 w.is).is

    pub blob-scan-ready : ScanReady s g.stop
    blob-scan-ready = record { small = h.small; within = omega (arith, ap (λ g. g.stop) d.group-is, object_within s h.long) }

    pub blob-scan-done : tree ≡ false → {words' : List ℕ} → ScanDone s g.stop now words' → BlobDone s words words'
    blob-scan-done b w = all_done (scanned_control s) (in_scan s h.is b) (w.is ∙ ap (λ (ns : List (Node Prop)). bumps now (controls_places false (map (scanned_control s) ns))) (sym (scan-is s h.is d.group-is b)))

-- ---- what is answered
pub tally-short : (s : List ℕ) (cr pr : ℕ) (words : List ℕ) → length s < 14 → {a : Answer} → a ≡ answer 0 0 0 0 → counting.Counted s cr pr words a words
unfolding read_later_lem later_of_lem properties concat bumps reading_places properties_places controls_places
tally-short s cr pr words h e =
    rw (lt-ltb (length s) 14 h, le-ltb cr 0 (omega arith), le-ltb pr 0 (omega arith)) (record { answer-is = e; words_are = refl; few = omega arith })

module _ {s : List ℕ} (h : 14 ≤ length s) {n : Counts} (c : Counted s n) where
  pub blob-ready : length s ≤ longest → BlobReady s n.tree
  blob-ready small = record { long = h; small = small; is = c.tree; few = omega (arith, c.few, c.controls, small) }

  module _ (cr pr : ℕ) {a : Answer} (j : judge.Judged n.controls (n.own + n.props) n.own (cr * control_width / control_width) (pr * property_width / property_width) a) where
    answered : a ≡ answer_of (fit cr pr (some (read_later_lem s)))
    answered = room-again cr pr (read_later_lem s) (j (read_later_lem s) (has h c))

    pub tally-refused : (words : List ℕ) → (a.number ≡ 0 → ⊥) → counting.Counted s cr pr words a words
    tally-refused words k = tallied_refused false cr pr (read_later_lem s) words answered k

    pub tally-done : (words : List ℕ) → length s ≤ longest → a.number ≡ 0 → {words' : List ℕ} → BlobDone s words words' → counting.Counted s cr pr words a words'
    tally-done words small z d = tallied_read false cr pr (read_later_lem s) words answered z (omega (arith, (has h c).controls-are, (has h c).properties-are, c.few, small)) d.is
