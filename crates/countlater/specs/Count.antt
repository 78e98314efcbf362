-- The counting pass: what each function answers.
use Rattle.std.specs.Prelude.{ℕ, ◌≤◌, ◌+◌, ◌≡◌, Bool, true, false, cond, List, eqb, length}
use Rattle.std.specs.Prelude as code
use Rattle.std.proofs.Math.Option.{Option, none, some}
use Rattle.rules.specs.Lists.{◌>>=◌}
use Rattle.rules.specs.Tree.{Entry, Entries, is_reported, levels}
use Rattle.rules.specs.Later as later
use Rattle.rules.specs.Later.{Prop, is_inside, length_at, end_at, trailer_at, group_at, children_at, node_at, nodes_at, scan_from, object_group, tree_of, nodes_by}
use Rattle.rules.specs.Told.{told, told_as}
use Rattle.rows.specs.Counting.{props_in}
use Rattle.countlater.specs.declared.Extent.{Extent}
use Rattle.countlater.specs.declared.Group.{Group}
use Rattle.countlater.specs.declared.Children.{Children}
use Rattle.countlater.specs.declared.Head.{Head}
use Rattle.countlater.specs.declared.Scanned.{Scanned}
use Rattle.countlater.specs.declared.Counts.{Counts}

abbrev pub extent_record : ℕ → ℕ → ℕ → Extent
extent_record size next trailer = record { size = size; next = next; trailer = trailer }

-- the property at p, where it ends within the limit
abbrev pub extent : List ℕ → ℕ → ℕ → code.Option Extent
extent s limit p = cond (is_inside s limit p) (code.Some (extent_record (length_at s p) (end_at s p) (trailer_at s p))) code.None

abbrev pub group : later.Group → Group
group g = record { count = length g.props; stop = g.stop; trailer = told g.trailer }

abbrev pub children : Option (ℕ × ℕ) → code.Option Children
children = told_as (λ x. record { count = x.0; next = x.1 })

-- where the nodes behind a group stand, if a trailer ended it
abbrev pub behind_by : List ℕ → ℕ → code.Option ℕ → Option (ℕ × ℕ)
behind_by s stop code.None = none
behind_by s stop (code.Some t) = children_at s t stop

abbrev pub behind : List ℕ → Group → Option (ℕ × ℕ)
behind s g = behind_by s g.stop g.trailer

-- a node's group
abbrev pub group_in : List ℕ → ℕ → later.Group
group_in s p = group_at s (length s) (p + 6)

-- how many children the node at p has, and where they start
unfoldable pub children_of : List ℕ → ℕ → Option (ℕ × ℕ)
children_of s p = do
  trailer ← (group_in s p).trailer
  children_at s trailer (group_in s p).stop

abbrev pub head_record : ℕ → ℕ → ℕ → Head
head_record count below next = record { count = count; below = below; next = next }

abbrev pub head : List ℕ → ℕ → code.Option Head
head s p = told_as (λ x. head_record (length (group_in s p).props) x.0 x.1) (children_of s p)

-- the node at p, with d levels below it
abbrev pub one_node : ℕ → List ℕ → ℕ → Option (Entry Prop × ℕ)
one_node d s p = node_at s (nodes_at d s) p

-- is a top node left out? Then where the next one starts
abbrev pub top_node : {P : Type 0} → Option (Entry P × ℕ) → code.Option ℕ
top_node none = code.None
top_node (some x) = cond (is_reported x.0) code.None (code.Some x.1)

-- the nodes behind the object's group, where they use up the stream
unfoldable pub whole_tree : List ℕ → Group → Option (Entries Prop × ℕ)
whole_tree s g = do
  (n, q) ← behind s g
  (es, e) ← nodes_at levels s n q
  cond (eqb e (length s)) (some (es, e)) none

-- what the scan from p on finds, within its bytes
pub record ScanCounted (s : List ℕ) (p : ℕ) (r : Scanned) : Type 0 where
  pub controls : r.controls ≡ length (scan_from s p)
  pub props : r.props ≡ props_in (scan_from s p)
  pub few : p + r.controls + r.props ≤ length s

-- of a stream without a tree
pub record CountedBy (s : List ℕ) (mine p : ℕ) (r : Counts) : Type 0 where
  pub tree : r.tree ≡ false
  pub own : r.own ≡ mine
  pub controls : r.controls ≡ length (scan_from s p)
  pub props : r.props ≡ props_in (scan_from s p)
  pub few : p + r.controls + r.props ≤ length s

abbrev pub is_tree : Option (Entries Prop) → Bool
is_tree none = false
is_tree (some es) = true

-- of a stream of 14 bytes or more
pub record Counted (s : List ℕ) (r : Counts) : Type 0 where
  pub tree : r.tree ≡ is_tree (tree_of s)
  pub own : r.own ≡ length (object_group s).props
  pub controls : r.controls ≡ length (nodes_by s (tree_of s))
  pub props : r.props ≡ props_in (nodes_by s (tree_of s))
  pub few : r.own + r.controls + r.props ≤ length s
