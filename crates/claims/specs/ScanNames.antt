-- Wish 10 of the customer's document 02. "A match spells property 0x0014 with type 0x0A, and a group without properties isn't reported, so every scanned
-- control has a Text name first. Show this from document 01's rules and take the branch out. Answers don't change, and 01's clause reads 'in the tree'."
use Rattle.std.specs.Prelude.{ℕ, ◌≤◌, ◌<◌, ◌≡◌, List, ◌∷◌, map, ◌⊎◌, length, get_or}
use Rattle.std.proofs.Math.Option.{none}
use Rattle.rules.specs.Bytes.{Bytes}
use Rattle.rules.specs.Later.{Prop, tree_of, later_of_lem}
use Rattle.rules.specs.Reading.{Control, Reading}
use Rattle.rules.specs.ReadLater.{property_of, name_of, control_of, read_later_lem}
use Rattle.rules.specs.Blob.{Exit, exit}
use Rattle.rules.specs.declared.Name.TheVariants.{Text, Numbered, Loose}
use Rattle.claims.specs.RowChecks.{name_mark, name_start, name_length, first_row, property_count, shown_id, value_mark, value_start, value_length}
use Rattle.claims.specs.LaterTree.{Spelled, Given}

-- ---- the reading by document 01's clause as it stood: "otherwise, in tree and scan alike, it is numbered"
unfoldable pub read_alike : List ℕ → Reading
read_alike s = record { own = map (property_of s) (later_of_lem s).0; controls = map (control_of s (name_of s)) (later_of_lem s).1 }

-- ---- of the reading: a control's first property is 0x0014 with type 0x0A, and its name is that Text, with the property's start and length. "Text is mark 6 or 8":
-- mark 6 gives a UTF-16 name, mark 8 one that isn't
pub record TextFirst (stream : List ℕ) (c : Control) : Type 0 where
  pub first : Prop
  pub rest : List Prop
  pub are : c.properties ≡ map (property_of stream) (first ∷ rest)
  pub id : first.id ≡ 0x0014
  pub type : first.type ≡ 0x0A
  pub named : (((property_of stream first).value.mark ≡ 6) × (c.name ≡ Text first.start first.size))
      ⊎ (((property_of stream first).value.mark ≡ 8) × (c.name ≡ Loose first.start first.size))
  pub not_numbered : ¬ (c.name ≡ Numbered)

-- ---- of the rows: the same of control i, by the words that a caller sees
pub record TextNamed (seen : Exit) (i : ℕ) : Type 0 where
  pub has_first : 0 < property_count seen i
  pub id : shown_id seen (first_row seen i) ≡ 0x0014
  pub named : ((value_mark seen (first_row seen i) ≡ 6) × (name_mark seen i ≡ 0)) ⊎ ((value_mark seen (first_row seen i) ≡ 8) × (name_mark seen i ≡ 2))
  pub not_numbered : ¬ (name_mark seen i ≡ 1)
  pub start : name_start seen i ≡ value_start seen (first_row seen i)
  pub size : name_length seen i ≡ value_length seen (first_row seen i)

-- every control row of a stream that is scanned
abbrev pub ScanNamed : List ℕ → Exit → Type 0
ScanNamed stream seen = 14 ≤ length stream → ¬ Spelled stream → seen.answer.number ≡ 0 → (i : ℕ) → i < seen.answer.first → TextNamed seen i

pub record Wish10 : Type 0 where
  -- every control of a stream that is scanned: it has 14 bytes or more, and is no tree. (`nothing` stands in for a control that isn't there)
  pub text-first : (stream : List ℕ) → 14 ≤ length stream → tree_of stream ≡ none
      → (i : ℕ) (nothing : Control) → i < length (read_later_lem stream).controls → TextFirst stream (get_or (read_later_lem stream).controls i nothing)
  -- "Answers don't change": for every stream, whatever its numbers, the reading is the one by the old clause
  pub same-reading : (stream : List ℕ) → read_later_lem stream ≡ read_alike stream
  -- and its row on answer 0, whatever room is lent
  pub text-named : (table stream controls properties : List ℕ) → Bytes stream → Given table stream → ScanNamed stream (exit table stream controls properties)
