-- The writing pass: what each function asks and leaves.
use Rattle.std.specs.Prelude.{ℕ, ◌+◌, ◌*◌, ◌≤◌, ◌≡◌, Bool, cond, List, map, eqb, length}
use Rattle.std.specs.Prelude as code
use Rattle.std.proofs.Math.Option.{Option, none, some}
use Rattle.rules.specs.Lists.{find}
use Rattle.rules.specs.Answer.{longest}
use Rattle.rules.specs.Rows.{property_width}
use Rattle.rules.specs.Reading.{Control}
use Rattle.rules.specs.Tree.{Node}
use Rattle.rules.specs.Later.{Prop, is_inside, ends_group, length_at, end_at, trailer_at, property_at, group_at, scan_from, object_group, tree_of, nodes_by}
use Rattle.rules.specs.ReadLater.{property_of, name_by_lem, name_of, scanned_name, name_in_lem, control_of}
use Rattle.rules.specs.declared.Property.{Property}
use Rattle.rules.specs.declared.Name.{Name}
use Rattle.rules.specs.declared.Name.TheVariants.{Numbered}
use Rattle.rows.specs.Writing.{State, state, write_properties}
use Rattle.rows.specs.Acts.{Nodes, Fit, stood, act_by, Ready}
use Rattle.rows.specs.declared.Next.{Next}
use Rattle.countlater.specs.Count.{group, is_tree}
use Rattle.countlater.specs.declared.Group.{Group}
use Rattle.later.specs.declared.NextProperty.{NextProperty}

-- ---- a group
-- the property at `at` lies within a stream that is not too long
pub record PropertyInside (s : List ℕ) (at size : ℕ) : Type 0 where
  pub small : length s ≤ longest
  pub within : at + 14 + size ≤ length s
  pub is : size ≡ length_at s at

abbrev pub props_at : List ℕ → ℕ → ℕ → List Prop
props_at s limit at = (group_at s limit at).props

pub record GroupReady (s : List ℕ) (limit at room first : ℕ) : Type 0 where
  pub inside : limit ≤ length s
  pub small : length s ≤ longest
  pub fits : (first + length (props_at s limit at)) * property_width ≤ room

pub record GroupDone (s : List ℕ) (limit at : ℕ) (old : List ℕ) (first : ℕ) (new : List ℕ) (r : Group) : Type 0 where
  pub rows : new ≡ write_properties (map (property_of s) (props_at s limit at)) old first
  pub is : r ≡ group (group_at s limit at)

-- ---- a group's properties one by one: n are passed, and the next one stands at p, unless a trailer ended the group
abbrev pub ended : ℕ → code.Option ℕ
ended trailer = cond (ends_group trailer) (code.Some trailer) code.None

abbrev pub next_record : List ℕ → ℕ → ℕ → NextProperty
next_record s n p = record { property = property_of s (property_at s p); group = record { count = n + 1; stop = end_at s p; trailer = ended (trailer_at s p) } }

abbrev pub next_of : List ℕ → ℕ → ℕ → ℕ → code.Option ℕ → code.Option NextProperty
next_of s limit n p (code.Some trailer) = code.None
next_of s limit n p code.None = cond (is_inside s limit p) (code.Some (next_record s n p)) code.None

-- ---- a node's name: that of the first property 0x0014 among these
abbrev pub name_or : Option Property → Name
name_or none = Numbered
name_or (some q) = name_by_lem q

unfoldable pub name_among : List Property → Name
name_among qs = name_or (find (λ q. eqb q.id 0x0014) qs)

-- ---- nodes. What is written of them by f, which makes a control of a node: the slices at exit, and what is next in them and in the stream
abbrev pub WrittenBy : (Node Prop → Control) → Nodes Prop → State → List ℕ → List ℕ → Next → Type 0
WrittenBy f o old cs ps r = some (stood cs r.control ps r.property r.at) ≡ act_by f o old

abbrev pub next : ℕ → ℕ → ℕ → Next
next at control property = record { at = at; control = control; property = property }

-- of the tree: there is room for their rows, and the stream is not too long
abbrev pub tree_control : List ℕ → Node Prop → Control
tree_control s = control_of s (name_of s)

abbrev pub NodesReady : List ℕ → Nodes Prop → State → Type 0
NodesReady s o st = Ready (length s ≤ longest) (tree_control s) o st

abbrev pub NodesDone : List ℕ → Nodes Prop → State → List ℕ → List ℕ → Next → Type 0
NodesDone s = WrittenBy (tree_control s)

-- of the scan, which ends with the stream
abbrev pub scanned_control : List ℕ → Node Prop → Control
scanned_control s = control_of s (scanned_name s)

abbrev pub scanned : List ℕ → ℕ → Nodes Prop
scanned s p = some (scan_from s p, length s)

pub record ScanReady (s : List ℕ) (p : ℕ) (st : State) : Type 0 where
  pub within : p ≤ length s
  pub ready : Ready (length s ≤ longest) (scanned_control s) (scanned s p) st

abbrev pub ScanDone : List ℕ → ℕ → State → List ℕ → List ℕ → Next → Type 0
ScanDone s p = WrittenBy (scanned_control s) (scanned s p)

-- ---- the whole stream
-- how a control is made of a node
abbrev pub control : List ℕ → Node Prop → Control
control s = control_of s (name_in_lem s (tree_of s))

-- the state once the object's properties are written
abbrev pub started : List ℕ → List ℕ → List ℕ → State
started s cs ps = state cs 0 (write_properties (map (property_of s) (object_group s).props) ps 0) (length (object_group s).props)

pub record BlobReady (s : List ℕ) (tree : Bool) (cs ps : List ℕ) : Type 0 where
  pub long : 14 ≤ length s
  pub is : tree ≡ is_tree (tree_of s)
  pub own : length (object_group s).props * property_width ≤ length ps
  pub small : length s ≤ longest
  pub fits : Fit (map (control s) (nodes_by s (tree_of s))) (started s cs ps)
