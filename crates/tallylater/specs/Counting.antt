-- What the functions that count a stream of the later layout ask and do.
use Rattle.std.specs.Prelude.{ℕ, ◌+◌, ◌≤◌, ◌≡◌, Bool, false, List, [], ◌∷◌, ◌++◌, map, length}
use Rattle.std.proofs.Math.Option.{some}
use Rattle.rules.specs.Answer.{longest}
use Rattle.rules.specs.Later.{Prop, nodes_at, scan_from, tree_of, nodes_by}
use Rattle.rules.specs.ReadLater.{property_of, read_later_lem}
use Rattle.rules.specs.Tree.{Node, levels}
use Rattle.rules.specs.Blob.{fit}
use Rattle.rules.specs.declared.Answer.{Answer}
use Rattle.rows.specs.Acts.{Nodes, top_nodes, Held}
use Rattle.countlater.specs.Count.{whole_tree, is_tree}
use Rattle.later.specs.Write.{tree_control, scanned_control}
use Rattle.later.specs.Groups.{Grouped}
use Rattle.cursor.specs.Work.{Ran}
use Rattle.totallaws.proofs.TotalsLaws.{type_place}
use Rattle.tally.specs.Places.{bumps, types_at, properties_places, reading_places, properties_tally, controls_tally, Tallied}
use Rattle.countlater.specs.declared.Group.{Group}

-- ---- a group
pub record GroupReady (s : List ℕ) (limit : ℕ) : Type 0 where
  pub inside : limit ≤ length s
  pub small : length s ≤ longest

abbrev pub group_tally : List ℕ → List Prop → List ℕ → List ℕ
group_tally s = properties_tally false (property_of s)

abbrev pub GroupDone : (s : List ℕ) → ℕ → ℕ → (words words' : List ℕ) → Group → Type 0
GroupDone s limit at words words' r = Grouped (group_tally s) s limit at words words' r

-- what is counted of a node: its group, then its type
unfoldable pub node_places : List ℕ → ℕ → List Prop → List ℕ
node_places s type props = properties_places false (map (property_of s) props) ++ ((types_at + type_place type) ∷ [])

abbrev pub node_tally : List ℕ → ℕ → List Prop → List ℕ → List ℕ
node_tally s type props words = bumps words (node_places s type props)

-- ---- the tree
abbrev pub top_at : List ℕ → ℕ → ℕ → Nodes Prop
top_at s n at = top_nodes (nodes_at levels s n at)

-- what is counted of its nodes
abbrev pub tree_tally : List ℕ → List (Node Prop) → List ℕ → List ℕ
tree_tally s = controls_tally false (tree_control s)

pub record TreeCounted (s : List ℕ) (o : Nodes Prop) (words words' : List ℕ) : Type 0 where
  pub next : ℕ
  pub is : Ran (tree_tally s) o words words' next

pub record SectionsReady (s : List ℕ) (n at : ℕ) : Type 0 where
  pub small : length s ≤ longest
  pub few : Held (λ x. length x.0 ≤ longest) (top_at s n at)

abbrev pub SectionsDone : List ℕ → ℕ → ℕ → (words words' : List ℕ) → Type 0
SectionsDone s n at words words' = TreeCounted s (top_at s n at) words words'

pub record TreeReady (s : List ℕ) (g : Group) : Type 0 where
  pub small : length s ≤ longest
  pub few : Held (λ x. length x.0 ≤ longest) (top_nodes (whole_tree s g))

abbrev pub TreeDone : List ℕ → Group → (words words' : List ℕ) → Type 0
TreeDone s g words words' = TreeCounted s (top_nodes (whole_tree s g)) words words'

-- ---- the scan
pub record ScanReady (s : List ℕ) (from : ℕ) : Type 0 where
  pub small : length s ≤ longest
  pub within : from ≤ length s

abbrev pub scan_tally : List ℕ → List (Node Prop) → List ℕ → List ℕ
scan_tally s = controls_tally false (scanned_control s)

pub record ScanDone (s : List ℕ) (from : ℕ) (words words' : List ℕ) : Type 0 where
  pub is : words' ≡ scan_tally s (scan_from s from) words

-- ---- the whole stream
pub record BlobReady (s : List ℕ) (tree : Bool) : Type 0 where
  pub long : 14 ≤ length s
  pub small : length s ≤ longest
  pub is : tree ≡ is_tree (tree_of s)
  pub few : length (nodes_by s (tree_of s)) ≤ longest

pub record BlobDone (s words words' : List ℕ) : Type 0 where
  pub is : words' ≡ bumps words (reading_places false (read_later_lem s))

-- what is answered in room for so many rows, and what is counted
abbrev pub Counted : List ℕ → ℕ → ℕ → List ℕ → Answer → List ℕ → Type 0
Counted s control_room property_room words a words' = Tallied false (fit control_room property_room (some (read_later_lem s))) words a words'
