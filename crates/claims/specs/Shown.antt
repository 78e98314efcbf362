-- What is reported of a stream, by what its bytes spell. "Reported: top entries with type 0x98 to 0x9E, or with a list, even an empty one; then
-- descendants in preorder."
use Rattle.std.specs.Prelude.{ℕ, ◌+◌, Bool, true, cond, ◌&&◌, List, [], ◌∷◌, ◌++◌, leb, length}
use Rattle.claims.specs.Grammar.{Item, leaf, branch, Items, none, one}

-- how many items there are with all below them: of one item, and of a list
abbrev mutual
  pub items_in1 : Item → ℕ
  items_in1 (leaf type qs) = 1
  items_in1 (branch type qs is) = 1 + items_in is

  pub items_in : Items → ℕ
  items_in none = 0
  items_in (one i is) = items_in1 i + items_in is

-- and how many properties they have
abbrev mutual
  pub properties_in1 : Item → ℕ
  properties_in1 (leaf type qs) = length qs
  properties_in1 (branch type qs is) = length qs + properties_in is

  pub properties_in : Items → ℕ
  properties_in none = 0
  properties_in (one i is) = properties_in1 i + properties_in is

-- how many rows the list of each takes, in output order: an item without a list has none
abbrev mutual
  pub list_rows1 : Item → List ℕ
  list_rows1 (leaf type qs) = 0 ∷ []
  list_rows1 (branch type qs is) = items_in is ∷ list_rows is

  pub list_rows : Items → List ℕ
  list_rows none = []
  list_rows (one i is) = list_rows1 i ++ list_rows is

-- what is reported of an item. Wish 1 of document 02: "the level below the reported top entry (0 for it)"
pub record Placed (Q : Type 0) : Type 0 where
  pub level : ℕ
  pub type : ℕ
  pub properties : List Q

abbrev pub placed : {Q : Type 0} → ℕ → ℕ → List Q → Placed Q
placed level type qs = record { level = level; type = type; properties = qs }

-- an item of the top list is reported by its type, or because it has a list
abbrev pub is_reported : Item → Bool
is_reported (leaf type qs) = leb 0x98 type && leb type 0x9E
is_reported (branch type qs is) = true

-- the reported ones of the top list
unfoldable pub shown : Items → Items
shown none = none
shown (one i is) = cond (is_reported i) (one i (shown is)) (shown is)
