-- The later layout, as a tree and as a scan.
use Rattle.std.specs.Prelude.{ℕ, zero, suc, ◌+◌, List, [], ◌∷◌, map, Bool, true, false, not, cond, ◌&&◌, ltb, leb, eqb, length}
use Rattle.std.proofs.Math.Option.{Option, none, some}
use Rattle.rules.specs.Lists.{◌>>=◌, keep}
use Rattle.rules.specs.Bytes.{u16, u32}
use Rattle.rules.specs.Tree.{Entry, plain, parent, Entries, end, more, levels_at, levels, Node, no_parent, node_in, nodes_of}

-- a property as stored: its id, its type, and where its value's bytes stand
pub record Prop : Type 0 where
  pub id : ℕ
  pub type : ℕ
  pub start : ℕ
  pub size : ℕ

-- ---- properties and groups
-- a property's parts, from its start on: id at 0, type at 2, 4 bytes passed over at 6, length at 10, value at 14, trailer behind the value
abbrev pub length_at : List ℕ → ℕ → ℕ
length_at s p = u32 s (p + 10)

-- where the property at p ends
abbrev pub end_at : List ℕ → ℕ → ℕ
end_at s p = p + 14 + length_at s p + 4

abbrev pub trailer_at : List ℕ → ℕ → ℕ
trailer_at s p = u32 s (p + 14 + length_at s p)

-- "A property: u16 id, u32 type, 4 bytes passed over, u32 length, value, u32 trailer"
unfoldable pub property_at : List ℕ → ℕ → Prop
property_at s p = record { id = u16 s p; type = u32 s (p + 2); start = p + 14; size = length_at s p }

-- "all inside; one that isn't is unread and ends its group"
unfoldable pub is_inside : List ℕ → ℕ → ℕ → Bool
is_inside s limit p = leb (end_at s p) limit

-- "Trailer 253, 254 or 255 ends a group"
abbrev pub ends_group : ℕ → Bool
ends_group trailer = leb 253 trailer && leb trailer 255

-- a group: its properties, where its reading stopped, and the trailer that ended it, if one did
pub record Group : Type 0 where
  pub props : List Prop
  pub stop : ℕ
  pub trailer : Option ℕ

abbrev pub unended : ℕ → Group
unended p = record { props = []; stop = p; trailer = none }

abbrev pub last_of : List ℕ → ℕ → Group
last_of s p = record { props = property_at s p ∷ []; stop = end_at s p; trailer = some (trailer_at s p) }

abbrev pub before : Prop → Group → Group
before q g = record { props = q ∷ g.props; stop = g.stop; trailer = g.trailer }

-- the group at p, which reaches to `limit` at most, of at most `most` properties
unfoldable pub group_of : ℕ → List ℕ → ℕ → ℕ → Group
group_of zero s limit p = unended p
group_of (suc most) s limit p =
    let longer = before (property_at s p) (group_of most s limit (end_at s p)) in
    cond (is_inside s limit p) (cond (ends_group (trailer_at s p)) (last_of s p) longer) (unended p)

-- each property takes a byte or more, so the stream's length is enough
unfoldable pub group_at : List ℕ → ℕ → ℕ → Group
group_at s limit p = group_of (length s) s limit p

-- ---- the tree
-- "no children, one child, or a u16 count that follows": how many, and the place behind
unfoldable pub children_at : List ℕ → ℕ → ℕ → Option (ℕ × ℕ)
children_at s trailer p =
    cond (eqb trailer 253) (some (0, p))
    (cond (eqb trailer 254) (some (1, p))
    (cond (leb (p + 2) (length s)) (some (u16 s p, p + 2))
    none))

-- a node without children holds no list
abbrev pub with_children : ℕ → List Prop → Entries Prop → Entry Prop
with_children type props end = plain type props
with_children type props (more e es) = parent type props (more e es)

-- "A node: u16 type, 4 bytes, a group that must end by a trailer, its children."
unfoldable pub node_at : List ℕ → (ℕ → ℕ → Option (Entries Prop × ℕ)) → ℕ → Option (Entry Prop × ℕ)
node_at s below p = do
  trailer ← (group_at s (length s) (p + 6)).trailer
  (n, q) ← children_at s trailer (group_at s (length s) (p + 6)).stop
  (children, e) ← below n q
  some (with_children (u16 s p) (group_at s (length s) (p + 6)).props children, e)

unfoldable pub nodes_at : ℕ → List ℕ → ℕ → ℕ → Option (Entries Prop × ℕ)
nodes_at d s n p = levels_at (node_at s) d n p

-- "The object's group starts at 14."
abbrev pub object_group : List ℕ → Group
object_group s = group_at s (length s) 14

-- "If the object's group ends by a trailer and the nodes use up the stream exactly with no node at depth 256"
unfoldable pub tree_of : List ℕ → Option (Entries Prop)
tree_of s = do
  trailer ← (object_group s).trailer
  (n, q) ← children_at s trailer (object_group s).stop
  (es, e) ← nodes_at levels s n q
  cond (eqb e (length s)) (some es) none

-- ---- the scan
-- "scanned for 14 00 0A 00 00 00"
unfoldable pub match_at : List ℕ → ℕ → Bool
match_at s p = leb (p + 6) (length s) && eqb (u16 s p) 0x14 && eqb (u32 s (p + 2)) 0x0A

-- "going on behind a match's six bytes": the places of the matches from p on, in at most `most` steps
unfoldable pub matches_of : ℕ → List ℕ → ℕ → List ℕ
matches_of zero s p = []
matches_of (suc most) s p =
    let found = p ∷ matches_of most s (p + 6) in
    let later = matches_of most s (p + 1) in
    cond (match_at s p) found later

unfoldable pub matches_from : List ℕ → ℕ → List ℕ
matches_from s p = matches_of (length s) s p

-- "each match starts a group that reaches to the next match or the end"
unfoldable pub groups_of : List ℕ → List ℕ → List (List Prop)
groups_of s [] = []
groups_of s (a ∷ []) = (group_at s (length s) a).props ∷ []
groups_of s (a ∷ b ∷ r) = (group_at s b a).props ∷ groups_of s (b ∷ r)

abbrev pub is_empty : List Prop → Bool
is_empty [] = true
is_empty (q ∷ qs) = false

-- "reported with type 0 unless it has no property"; wish 1 of document 02: "Scanned controls are all level 0."
unfoldable pub scan_from : List ℕ → ℕ → List (Node Prop)
scan_from s p = map (node_in 0 no_parent 0) (keep (λ qs. not (is_empty qs)) (groups_of s (matches_from s p)))

-- ---- the whole stream: the object's properties, and what is reported in output order
-- "the bytes from the end of the last good object property (14 if none) are scanned"
abbrev pub nodes_by : List ℕ → Option (Entries Prop) → List (Node Prop)
nodes_by s none = scan_from s (object_group s).stop
nodes_by s (some es) = nodes_of es

-- "Under 14 bytes: nothing, answer 0." "Object rows stay in both."
unfoldable pub later_of_lem : List ℕ → List Prop × List (Node Prop)
later_of_lem s = cond (ltb (length s) 14) ([], []) ((object_group s).props, nodes_by s (tree_of s))
