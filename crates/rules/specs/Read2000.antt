-- From an Access 2000 tree to a reading. Here, and only here, a code table's header codes and rows come in: it is asked whether a type is a
-- header code, and which row has an id in a scope. (That it is well formed, and its layout byte, are asked in Blob.)
use Rattle.std.specs.Prelude.{ℕ, Bool, cond, List, ◌++◌, map, eqb}
use Rattle.std.proofs.Math.Option.{Option, none, some}
use Rattle.std.specs.Int.Bits.{bit_or}
use Rattle.rules.specs.Lists.{concat, find, has}
use Rattle.rules.specs.Bytes.{byte, part}
use Rattle.rules.specs.Utf16.{is_utf16_lem}
use Rattle.rules.specs.Value.{stored_value_lem, value_as_lem}
use Rattle.rules.specs.CodeTable.{Tie, header, row_of}
use Rattle.rules.specs.Tree.{Entries, Node, is_section, nodes_of}
use Rattle.rules.specs.Access2000.{Prop}
use Rattle.rules.specs.Reading.{Control, Reading}
use Rattle.rules.specs.declared.Value.{Value}
use Rattle.rules.specs.declared.Property.{Property}
use Rattle.rules.specs.declared.Name.{Name}
use Rattle.rules.specs.declared.Name.TheVariants.{Text, Numbered}

-- ---- scopes
-- kind 0 form, 1 report, 2 entry
pub record ScopeKey : Type 0 where
  pub kind : ℕ
  pub code : ℕ

-- "Byte 8 equal to 0x97 means report, otherwise form"
unfoldable pub is_report : List ℕ → Bool
is_report s = eqb (byte s 8) 0x97

-- "the scope of the object's run"
unfoldable pub object_key : List ℕ → ScopeKey
object_key s = record { kind = cond (is_report s) 1 0; code = 0 }

-- "An entry's scope is its type as stored."
abbrev pub entry_key : ℕ → ScopeKey
entry_key type = record { kind = 2; code = type }

-- the table's row for an id in a scope, if it has one
abbrev pub tied : List ℕ → ScopeKey → ℕ → Option Tie
tied t w id = row_of t w.kind w.code id

-- ---- properties
abbrev pub bytes_of : List ℕ → Prop → List ℕ
bytes_of s q = part s q.start q.size

abbrev pub property : ℕ → Value → Prop → Property
property id v q = record { id = id; value = v; start = q.start; size = q.size }

-- "A tied id takes its row's target; an untied one shows 0x8000 joined by OR with the raw code."
abbrev pub shown : List ℕ → Prop → Option Tie → Property
shown s q none = property (bit_or 0x8000 q.id) (stored_value_lem q.id (bytes_of s q)) q
shown s q (some r) = property r.target (value_as_lem r.kind q.id (bytes_of s q)) q

unfoldable pub property_in : List ℕ → List ℕ → ScopeKey → Prop → Property
property_in t s w q = shown s q (tied t w q.id)

-- ---- controls
-- "A header code gets 0x1800 joined by OR for a form, 0x1900 for a report."
unfoldable pub type_code : List ℕ → Bool → ℕ → ℕ
type_code headers report type = cond (has type headers) (bit_or (cond report 0x1900 0x1800) type) type

-- "Name: the first id 0xDC (0xDF for types 0x98 to 0x9E)"
abbrev pub name_id : ℕ → ℕ
name_id type = cond (is_section type) 0xDF 0xDC

-- "if its bytes are UTF-16; otherwise numbered"
abbrev pub name_by_lem : List ℕ → Option Prop → Name
name_by_lem s none = Numbered
name_by_lem s (some q) = cond (is_utf16_lem (bytes_of s q)) (Text q.start q.size) Numbered

unfoldable pub name_of : List ℕ → Node Prop → Name
name_of s n = name_by_lem s (find (λ q. eqb q.id (name_id n.type)) n.props)

unfoldable pub control_of : List ℕ → List ℕ → Node Prop → Control
control_of t s n = record {
  type = type_code (header t) (is_report s) n.type;
  name = name_of s n;
  properties = map (property_in t s (entry_key n.type)) n.props;
  level = n.level;
  parent = n.parent;
}

unfoldable pub read2000 : List ℕ → List ℕ → List Prop × Entries Prop → Reading
read2000 t s x = record {
  own = map (property_in t s (object_key s)) x.0;
  controls = map (control_of t s) (nodes_of x.1);
}

-- ---- which scope and which stored property each property row comes from, by the stream alone
pub record Spot : Type 0 where
  pub scope : ScopeKey
  pub prop : Prop

abbrev pub spot_in : ScopeKey → Prop → Spot
spot_in w q = record { scope = w; prop = q }

abbrev pub node_spots : Node Prop → List Spot
node_spots n = map (spot_in (entry_key n.type)) n.props

unfoldable pub spots_of : List ℕ → List Prop × Entries Prop → List Spot
spots_of s x = map (spot_in (object_key s)) x.0 ++ concat (map node_spots (nodes_of x.1))
