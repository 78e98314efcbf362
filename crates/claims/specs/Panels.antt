-- Wish 11 of document 02: panel rules. "It answers yes exactly when all rules hold, and otherwise the first control row that breaks one with the first rule
-- broken in this order." And what a yes is worth to a panel: no TextBox or ComboBox keeps its template's binding because a code table lacks a code.
use Rattle.std.specs.Prelude.{ℕ, zero, suc, ◌+◌, ◌≤◌, ◌<◌, ◌≡◌, true, cond, ◌↔◌, ◌⊎◌, eqb, length, get_or}
use mathlib.Core.List.{List, [], ◌∷◌, Memᴰ}
use Rattle.std.proofs.Math.Option.{some}
use Rattle.rules.specs.Lists.{keep, text}
use Rattle.rules.specs.Bytes.{part}
use Rattle.rules.specs.Utf16.{is_utf16_lem}
use Rattle.rules.specs.Answer.{answer}
use Rattle.rules.specs.Value.{value}
use Rattle.rules.specs.CodeTable.{Tie, Holds}
use Rattle.rules.specs.Tree.{Entries, Node, nodes_of}
use Rattle.rules.specs.Access2000.{Prop, stream_of}
use Rattle.rules.specs.Rows.{control_width, property_width, row_at}
use Rattle.rules.specs.Reading.{Control}
use Rattle.rules.specs.Read2000.{bytes_of, control_of}
use Rattle.rules.specs.Blob.{Exit, is2000, exit}
use Rattle.rules.specs.Panel.{type_name, name_bytes, is_source, left_id, top_id, width_id, height_id, panel_exit}
use Rattle.rules.specs.declared.Answer.{Answer}
use Rattle.rules.specs.declared.Property.{Property}
use Rattle.rules.specs.declared.Name.{Name}
use Rattle.rules.specs.declared.Name.TheVariants.{Text, Numbered, Loose}
use Rattle.claims.specs.Demand1.{Refused}
use Rattle.claims.specs.Demand3.{Successor, Lent, SameRoom}
use Rattle.claims.specs.RowChecks.{property_word, shown_id, value_mark, value_start, value_length, control_type, name_mark, name_start, name_length, first_row, property_count, level, parent_row}

-- ---- what the rows show, by their words
abbrev pub shown_property : Exit → ℕ → Property
shown_property seen j = record { id = shown_id seen j; value = value (value_mark seen j) (property_word 2 seen j) (property_word 3 seen j); start = value_start seen j; size = value_length seen j }

-- n property rows from row j on
unfoldable pub shown_properties : Exit → ℕ → ℕ → List Property
shown_properties seen j zero = []
shown_properties seen j (suc n) = shown_property seen j ∷ shown_properties seen (j + 1) n

abbrev pub shown_name : ℕ → ℕ → ℕ → Name
shown_name mark start size = cond (eqb mark 0) (Text start size) (cond (eqb mark 1) Numbered (Loose start size))

unfoldable pub shown_control : Exit → ℕ → Control
shown_control seen i = record {
  type = control_type seen i;
  name = shown_name (name_mark seen i) (name_start seen i) (name_length seen i);
  properties = shown_properties seen (first_row seen i) (property_count seen i);
  level = level seen i;
  parent = parent_row seen i;
}

-- n control rows from row i on
unfoldable pub shown_controls : Exit → ℕ → ℕ → List Control
shown_controls seen i zero = []
shown_controls seen i (suc n) = shown_control seen i ∷ shown_controls seen (i + 1) n

-- ---- the rules, of control i
abbrev pub no-control : Control
no-control = record { type = 0; name = Numbered; properties = []; level = 0; parent = 0 }

abbrev pub control : List Control → ℕ → Control
control cs i = get_or cs i no-control

-- the bytes of its name
abbrev pub its_name : List ℕ → List Control → ℕ → List ℕ
its_name s cs i = name_bytes s i (control cs i).name

abbrev pub IsBox : ℕ → Type 0
IsBox type = (type_name type ≡ text "TextBox") ⊎ (type_name type ≡ text "ComboBox")

-- "exactly one property 0x001B, and that is Text (mark 6) of at least one byte"
pub record OneText (ps : List Property) : Type 0 where
  pub source : Property
  pub only : keep is_source ps ≡ source ∷ []
  pub is-text : source.value.mark ≡ 6
  pub not_empty : 1 ≤ source.size

-- "is Short and those of Width and Height are not negative"
pub record Placing (p : Property) : Type 0 where
  pub short : ((p.id ≡ left_id) ⊎ ((p.id ≡ top_id) ⊎ ((p.id ≡ width_id) ⊎ (p.id ≡ height_id)))) → p.value.mark ≡ 2
  pub not_negative : ((p.id ≡ width_id) ⊎ (p.id ≡ height_id)) → p.value.low < 0x80000000

-- control i keeps the rule of this number
pub data Kept (s : List ℕ) (cs : List Control) (i : ℕ) : ℕ → Type 0 where
  -- "every type code has a type name"
  one : ¬ (type_name (control cs i).type ≡ []) → Kept s cs i 1
  -- "names with mark 0 only"
  two : {start size : ℕ} → (control cs i).name ≡ Text start size → Kept s cs i 2
  -- "no name equal, byte for byte, to an earlier row's"
  three : ((j : ℕ) → j < i → ¬ (its_name s cs j ≡ its_name s cs i)) → Kept s cs i 3
  -- "each TextBox or ComboBox has exactly one property 0x001B .."
  four : (IsBox (control cs i).type → OneText (control cs i).properties) → Kept s cs i 4
  -- "every property of a control with the id of Left, Top, Width or Height .."
  five : ((p : Property) → Memᴰ p (control cs i).properties → Placing p) → Kept s cs i 5
  -- "level at most 7"
  six : (control cs i).level ≤ 7 → Kept s cs i 6

abbrev pub AllKept : List ℕ → List Control → ℕ → Type 0
AllKept s cs i = (rule : ℕ) → 1 ≤ rule → rule ≤ 6 → Kept s cs i rule

-- "the first control row that breaks one with the first rule broken in this order"
pub record FirstBroken (s : List ℕ) (cs : List Control) (i rule : ℕ) : Type 0 where
  pub row : i < length cs
  pub least : 1 ≤ rule
  pub most : rule ≤ 6
  pub broken : ¬ Kept s cs i rule
  pub rows_before : (j : ℕ) → j < i → AllKept s cs j
  pub rules_before : (r : ℕ) → 1 ≤ r → r < rule → Kept s cs i r

-- "On 0 the counts are 1, 0, 0 for yes, else 0, the row, the rule (1 to 6)."
pub data Verdict (s : List ℕ) (cs : List Control) : Answer → Type 0 where
  yes : ((i : ℕ) → i < length cs → AllKept s cs i) → Verdict s cs (answer 0 1 0 0)
  no : (i rule : ℕ) → FirstBroken s cs i rule → Verdict s cs (answer 0 0 i rule)

-- the controls that an accepted call's rows show
abbrev pub controls_of : Exit → ℕ → List Control
controls_of seen n = shown_controls seen 0 n

-- ---- what a yes is worth, of an Access 2000 stream
-- the node n of the stream is a box: its one property 0x001B comes of a stored property whose code the table has in that scope, as a Text for 0x001B
pub record Sourced (t s : List ℕ) (n : Node Prop) : Type 0 where
  pub stored : Prop
  pub its : Memᴰ stored n.props
  pub row : Tie
  pub held : Holds t 2 n.type row
  pub its-code : row.id ≡ stored.id
  pub its-target : row.target ≡ 0x001B
  pub a_text : row.kind ≡ 1
  pub utf16 : is_utf16_lem (bytes_of s stored) ≡ true
  pub not_empty : 1 ≤ stored.size

-- an older table has no row for the code of a box's source
abbrev pub Lacks : List ℕ → Node Prop → Prop → Type 0
Lacks t n q = (r : Tie) → Holds t 2 n.type r → ¬ (r.id ≡ q.id)

-- no, by rule 4, and the row that breaks it isn't after row k
pub record NoSource (k : ℕ) (a : Answer) : Type 0 where
  pub number : a.number ≡ 0
  pub no : a.first ≡ 0
  pub row : a.second ≤ k
  pub rule : a.third ≡ 4

-- two calls left the same rows, and these name the same bytes (a numbered row names none)
pub record SameRows (s s' : List ℕ) (seen seen' : Exit) : Type 0 where
  pub answer : seen.answer ≡ seen'.answer
  pub controls : (i : ℕ) → i < seen.answer.first → row_at control_width i seen.controls ≡ row_at control_width i seen'.controls
  pub properties : (j : ℕ) → j < seen.answer.second → row_at property_width j seen.properties ≡ row_at property_width j seen'.properties
  pub names : (i : ℕ) → i < seen.answer.first → ¬ (name_mark seen i ≡ 1) → part s (name_start seen i) (name_length seen i) ≡ part s' (name_start seen i) (name_length seen i)

pub record Wish11 : Type 0 where
  -- 5, 8, 4, 6, 7 as for the Blob itself, with the same counts, and then nothing is written (Demand1)
  pub refused : (t s controls properties : List ℕ) → Refused (exit t s controls properties).answer → panel_exit t s controls properties ≡ exit t s controls properties
  -- else it is answered 0, and the rows stay written: those that `read_blob` writes, for yes and for no
  pub accepted : (t s controls properties : List ℕ) → (exit t s controls properties).answer.number ≡ 0 → (panel_exit t s controls properties).answer.number ≡ 0
  pub rows : (t s controls properties : List ℕ)
      → ((panel_exit t s controls properties).controls ≡ (exit t s controls properties).controls) × ((panel_exit t s controls properties).properties ≡ (exit t s controls properties).properties)
  -- of an accepted reading: the verdict on what the rows show by their words, and no other
  pub judged : (t s controls properties : List ℕ) → (exit t s controls properties).answer.number ≡ 0
      → (a : Answer) → Verdict s (controls_of (exit t s controls properties) (exit t s controls properties).answer.first) a ↔ (a ≡ (panel_exit t s controls properties).answer)
  -- it is a function of the rows and of the bytes that they name, whatever the tables, the streams and the room
  pub by_rows : (t s controls properties t' s' controls' properties' : List ℕ) → (exit t s controls properties).answer.number ≡ 0
      → SameRows s s' (exit t s controls properties) (exit t' s' controls' properties')
      → (panel_exit t s controls properties).answer ≡ (panel_exit t' s' controls' properties').answer
  -- on yes every TextBox or ComboBox, of either layout, has its one source, and that is text
  pub filled : (t s controls properties : List ℕ) → (panel_exit t s controls properties).answer ≡ answer 0 1 0 0
      → (i : ℕ) → i < (exit t s controls properties).answer.first → IsBox (control_type (exit t s controls properties) i)
      → OneText (shown_properties (exit t s controls properties) (first_row (exit t s controls properties) i) (property_count (exit t s controls properties) i))
  -- and in an Access 2000 stream the code table has its code: no panel keeps its template's binding because of an unmapped one
  pub sourced : (t s controls properties : List ℕ) → (panel_exit t s controls properties).answer ≡ answer 0 1 0 0
      → (x : List Prop × Entries Prop) → is2000 t s ≡ true → stream_of s ≡ some x
      → (n : Node Prop) → Memᴰ n (nodes_of x.1) → IsBox (control_of t s n).type → Sourced t s n
  -- so under an older table (demand 3) that lacks that code the same form, in the same room, is answered no with rule 4, at that box's row k or before it
  pub older-no : (older newer s : List ℕ) (lent lent' : Lent) → Successor older newer → SameRoom lent lent'
      → (panel_exit newer s lent'.controls lent'.properties).answer ≡ answer 0 1 0 0
      → (x : List Prop × Entries Prop) → is2000 newer s ≡ true → stream_of s ≡ some x
      → (k : ℕ) (n : Node Prop) → k < length (nodes_of x.1) → ((d : Node Prop) → get_or (nodes_of x.1) k d ≡ n)
      → IsBox (control_of newer s n).type → (q : Sourced newer s n) → Lacks older n q.stored
      → NoSource k (panel_exit older s lent.controls lent.properties).answer
