-- From the properties and nodes of a later stream to a reading. The code table has no part in it.
use Rattle.std.specs.Prelude.{ℕ, Bool, cond, ◌||◌, List, [], ◌∷◌, map, eqb}
use Rattle.std.proofs.Math.Option.{Option, none, some}
use Rattle.rules.specs.Lists.{find}
use Rattle.rules.specs.Bytes.{part}
use Rattle.rules.specs.Value.{entry_value_lem}
use Rattle.rules.specs.Tree.{Entries, Node}
use Rattle.rules.specs.Later.{Prop, tree_of, later_of_lem}
use Rattle.rules.specs.Reading.{Control, Reading}
use Rattle.rules.specs.declared.Property.{Property}
use Rattle.rules.specs.declared.Name.{Name}
use Rattle.rules.specs.declared.Name.TheVariants.{Text, Numbered, Loose}

unfoldable pub property_of : List ℕ → Prop → Property
property_of s q = record { id = q.id; value = entry_value_lem q.type (part s q.start q.size); start = q.start; size = q.size }

-- ---- names
-- "Text (mark 6 or 8)"
abbrev pub is_text : Property → Bool
is_text p = eqb p.value.mark 6 || eqb p.value.mark 8

-- the name that a Text property gives: mark 6 is a UTF-16 name, mark 8 one that isn't
abbrev pub text_name_lem : Property → Name
text_name_lem p = cond (eqb p.value.mark 6) (Text p.start p.size) (Loose p.start p.size)

-- "if that is Text (mark 6 or 8); otherwise, in the tree, it is numbered"
abbrev pub name_by_lem : Property → Name
name_by_lem p = cond (is_text p) (text_name_lem p) Numbered

abbrev pub name_or : List ℕ → Option Prop → Name
name_or s none = Numbered
name_or s (some q) = name_by_lem (property_of s q)

-- in the tree: "A control's name is its first property 0x0014"
unfoldable pub name_of : List ℕ → Node Prop → Name
name_of s n = name_or s (find (λ q. eqb q.id 0x0014) n.props)

-- a group's first property; a group without one isn't reported
abbrev pub first_of : List Prop → Prop
first_of [] = record { id = 0; type = 0; start = 0; size = 0 }
first_of (q ∷ qs) = q

-- in the scan, by document 02: "A match spells property 0x0014 with type 0x0A, and a group without properties isn't reported, so every scanned control
-- has a Text name first."
unfoldable pub scanned_name : List ℕ → Node Prop → Name
scanned_name s n = text_name_lem (property_of s (first_of n.props))

-- by the stream's tree, if it has one
abbrev pub name_in_lem : List ℕ → Option (Entries Prop) → Node Prop → Name
name_in_lem s none n = scanned_name s n
name_in_lem s (some es) n = name_of s n

-- ---- the reading
unfoldable pub control_of : List ℕ → (Node Prop → Name) → Node Prop → Control
control_of s name n = record { type = n.type; name = name n; properties = map (property_of s) n.props; level = n.level; parent = n.parent }

unfoldable pub read_later_lem : List ℕ → Reading
read_later_lem s = record { own = map (property_of s) (later_of_lem s).0; controls = map (control_of s (name_in_lem s (tree_of s))) (later_of_lem s).1 }
