-- What an Access 2000 stream reports, by what its bytes spell: its items with their levels, types and names, and its stored properties, each in its scope.
use Rattle.std.specs.Prelude.{ℕ, suc, Bool, cond, ◌&&◌, List, [], ◌∷◌, ◌++◌, map, leb, eqb, length}
use Rattle.std.proofs.Math.Option.{Option, none, some}
use Rattle.std.specs.Int.Bits.{bit_or}
use Rattle.rules.specs.Lists.{concat, find, has}
use Rattle.rules.specs.Bytes.{byte, part}
use Rattle.rules.specs.Utf16.{is_utf16_lem}
use Rattle.rules.specs.CodeTable.{header}
use Rattle.rules.specs.Reading.{Control}
use Rattle.rules.specs.Read2000.{Spot}
use Rattle.rules.specs.declared.Name.{Name}
use Rattle.rules.specs.declared.Name.TheVariants.{Text, Numbered, Loose}
use Rattle.claims.specs.Grammar.{Property, Item, leaf, branch, Items, one, Stream}
use Rattle.claims.specs.Shown.{Placed, placed, shown}

-- items at a level with all below them in preorder, each with its level, its type and its properties
abbrev mutual
  pub in_order1 : ℕ → Item → List (Placed Property)
  in_order1 level (leaf type qs) = placed level type qs ∷ []
  in_order1 level (branch type qs is) = placed level type qs ∷ in_order_lem (suc level) is

  pub in_order_lem : ℕ → Items → List (Placed Property)
  in_order_lem level Items.none = []
  in_order_lem level (one i is) = in_order1 level i ++ in_order_lem level is

-- what is reported: "the level below the reported top entry (0 for it)"
abbrev pub reported : Stream → List (Placed Property)
reported t = in_order_lem 0 (shown t.list)

-- ---- scopes
-- by kind and code, as a code table lists them. Kinds: 0 form, 1 report, 2 entry. A scope's code is 0, or an entry's type; a property's code is its `id`
pub record Scope : Type 0 where
  pub kind : ℕ
  pub code : ℕ

-- "Byte 8 equal to 0x97 means report, otherwise form: the scope of the object's run."
abbrev pub is_report : List ℕ → Bool
is_report stream = eqb (byte stream 8) 0x97

abbrev pub object_scope : List ℕ → Scope
object_scope stream = record { kind = cond (is_report stream) 1 0; code = 0 }

-- "An entry's scope is its type as stored."
abbrev pub entry_scope : ℕ → Scope
entry_scope type = record { kind = 2; code = type }

-- ---- stored properties, each in its scope
abbrev pub in_scope_lem : Scope → Property → Scope × Property
in_scope_lem scope q = (scope, q)

abbrev pub stored_in : Placed Property → List (Scope × Property)
stored_in n = map (in_scope_lem (entry_scope n.type)) n.properties

-- "The object's rows stand first, then each control's."
abbrev pub stored_of : List ℕ → Stream → List (Scope × Property)
stored_of stream t = map (in_scope_lem (object_scope stream)) t.own ++ concat (map stored_in (reported t))

-- a `Spot` is what the definitions take for the scope and the stored property of a property row: here in the same terms
abbrev pub spot_says : List ℕ → Spot → Scope × Property
spot_says stream x =
    (record { kind = x.scope.kind; code = x.scope.code }, record { id = x.prop.id; value = part stream x.prop.start x.prop.size })

-- ---- controls: type, name, how many properties, and level
-- "A header code gets 0x1800 joined by OR for a form, 0x1900 for a report."
abbrev pub type_says : List ℕ → List ℕ → ℕ → ℕ
type_says table stream type = cond (has type (header table)) (bit_or (cond (is_report stream) 0x1900 0x1800) type) type

-- "Name: the first id 0xDC (0xDF for types 0x98 to 0x9E) if its bytes are UTF-16; otherwise numbered.": the name's mark and its bytes
abbrev pub is_name_lem : ℕ → Property → Bool
is_name_lem type q = eqb q.id (cond (leb 0x98 type && leb type 0x9E) 0xDF 0xDC)

abbrev pub name_by_lem : Option Property → ℕ × List ℕ
name_by_lem none = (1, [])
name_by_lem (some q) = cond (is_utf16_lem q.value) (0, q.value) (1, [])

abbrev pub control_says : List ℕ → List ℕ → Placed Property → ℕ × (ℕ × List ℕ) × ℕ × ℕ
control_says table stream n = (type_says table stream n.type, name_by_lem (find (is_name_lem n.type) n.properties), length n.properties, n.level)

-- and what a reading's control shows. Of a name: its mark, and the bytes that its start and length name, where it is a part of the stream
abbrev pub name_shows : List ℕ → Name → ℕ × List ℕ
name_shows stream (Text start size) = (0, part stream start size)
name_shows stream Numbered = (1, [])
name_shows stream (Loose start size) = (2, part stream start size)

abbrev pub control_shows : List ℕ → Control → ℕ × (ℕ × List ℕ) × ℕ × ℕ
control_shows stream c = (c.type, name_shows stream c.name, length c.properties, c.level)
