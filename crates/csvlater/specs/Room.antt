-- What the functions that take a later stream's records off a room ask and do.
use Rattle.std.specs.Prelude.{ℕ, ◌-◌, ◌≤◌, ◌≡◌, Bool, List, map, length}
use Rattle.rules.specs.Answer.{longest}
use Rattle.rules.specs.Tree.{levels, no_parent, node_in}
use Rattle.rules.specs.Later.{Prop, nodes_at, scan_from, tree_of, nodes_by}
use Rattle.rules.specs.ReadLater.{property_of, read_later_lem}
use Rattle.rows.specs.Acts.{Nodes, top_nodes, Held}
use Rattle.names.specs.Lookup.{Lent}
use Rattle.countlater.specs.Count.{whole_tree, is_tree}
use Rattle.countlater.specs.declared.Group.{Group}
use Rattle.later.specs.Write.{tree_control, scanned_control}
use Rattle.cursor.specs.Work.{Ran}
use Rattle.later.specs.Groups.{Grouped}
use Rattle.csvwalk.specs.Needs.{controls_need, sheet_need, records_left, controls_left, node_need}
use Rattle.csvlater.specs.declared.GroupLeft.{GroupLeft}

-- ---- a group
pub record GroupReady (s : List ℕ) (limit : ℕ) (index letters : List ℕ) : Type 0 where
  pub inside : limit ≤ length s
  pub small : length s ≤ longest
  pub lent : Lent index letters

abbrev pub GroupDone : (s : List ℕ) → ℕ → ℕ → ℕ → ℕ → GroupLeft → Type 0
GroupDone s limit at owner all r = Grouped (records_left s (property_of s) owner) s limit at all r.left r.group

-- ---- nodes of the tree
-- after one as control n
abbrev pub node_left : List ℕ → ℕ → ℕ → List Prop → ℕ → ℕ
node_left s n type ps all = all - node_need s (tree_control s) n (node_in 0 no_parent type ps)

pub record NodesDone (s : List ℕ) (o : Nodes Prop) (all r : ℕ) : Type 0 where
  pub next : ℕ
  pub is : Ran (controls_left s (tree_control s) 0) o all r next

pub record SectionsReady (s : List ℕ) (n at : ℕ) (index letters : List ℕ) : Type 0 where
  pub small : length s ≤ longest
  pub few : Held (λ x. length x.0 ≤ longest) (top_nodes (nodes_at levels s n at))
  pub lent : Lent index letters

abbrev pub SectionsDone : List ℕ → ℕ → ℕ → ℕ → ℕ → Type 0
SectionsDone s n at = NodesDone s (top_nodes (nodes_at levels s n at))

pub record TreeReady (s : List ℕ) (g : Group) (index letters : List ℕ) : Type 0 where
  pub small : length s ≤ longest
  pub few : Held (λ x. length x.0 ≤ longest) (top_nodes (whole_tree s g))
  pub lent : Lent index letters

abbrev pub TreeDone : List ℕ → Group → ℕ → ℕ → Type 0
TreeDone s g = NodesDone s (top_nodes (whole_tree s g))

-- ---- the scan
pub record ScanReady (s : List ℕ) (from : ℕ) (index letters : List ℕ) : Type 0 where
  pub within : from ≤ length s
  pub small : length s ≤ longest
  pub few : length (scan_from s from) ≤ longest
  pub lent : Lent index letters

abbrev pub ScanDone : List ℕ → ℕ → ℕ → ℕ → Type 0
ScanDone s from all r = r ≡ all - controls_need s 0 (map (scanned_control s) (scan_from s from))

-- ---- the whole stream
pub record StreamReady (s index letters : List ℕ) : Type 0 where
  pub small : length s ≤ longest
  pub lent : Lent index letters

pub record BlobReady (s : List ℕ) (tree : Bool) (index letters : List ℕ) : Type 0 where
  pub long : 14 ≤ length s
  pub small : length s ≤ longest
  pub is : tree ≡ is_tree (tree_of s)
  pub few : length (nodes_by s (tree_of s)) ≤ longest
  pub lent : Lent index letters

abbrev pub BlobDone : List ℕ → ℕ → ℕ → Type 0
BlobDone s all r = r ≡ all - sheet_need s (read_later_lem s)
