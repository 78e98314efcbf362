-- Wish 8 of document 02. "Split the Blob reader into one for Access 2000 and one for the later layout .. Refusals: 15 where the first byte speaks for the other
-- layout (an empty stream speaks for the later one), after 5 and 8; the later reader is told the layout byte as a number and never answers 8."
use Rattle.std.specs.Prelude.{ℕ, ◌≤◌, ◌<◌, ◌≡◌, true, false, List, ◌↔◌, length}
use Rattle.rules.specs.Bytes.{Bytes}
use Rattle.rules.specs.Answer.{refusal}
use Rattle.rules.specs.CodeTable.{layout, well_formed_lem}
use Rattle.rules.specs.Rows.{control_width, property_width, room}
use Rattle.rules.specs.Reading.{properties}
use Rattle.rules.specs.ReadLater.{read_later_lem}
use Rattle.rules.specs.Blob.{Exit, speaks2000, is2000, counted, exit, exit2000, exit_later}
use Rattle.rules.specs.declared.Answer.{Answer}
use Rattle.claims.specs.Answers.{Judged, BlobAnswer}
use Rattle.claims.specs.Demand1.{Refused}

-- ---- the answers of the two readers, each given exactly then
-- Access 2000: 5, 8, 15, then as document 01's table says
pub data Answer2000 (table stream controls properties' : List ℕ) : Answer → Type 0 where
  five : 16777216 < length stream → Answer2000 table stream controls properties' (refusal 5)
  eight : length stream ≤ 16777216 → well_formed_lem table ≡ false → Answer2000 table stream controls properties' (refusal 8)
  fifteen : Judged table stream → is2000 table stream ≡ false → Answer2000 table stream controls properties' (refusal 15)
  chosen : Judged table stream → is2000 table stream ≡ true → {a : Answer} → BlobAnswer table stream controls properties' a → Answer2000 table stream controls properties' a

-- later: 5, 15, 6, 7
pub data AnswerLater (layoutByte : ℕ) (stream controls properties' : List ℕ) : Answer → Type 0 where
  five : 16777216 < length stream → AnswerLater layoutByte stream controls properties' (refusal 5)
  fifteen : length stream ≤ 16777216 → speaks2000 layoutByte stream ≡ true → AnswerLater layoutByte stream controls properties' (refusal 15)
  six : length stream ≤ 16777216 → speaks2000 layoutByte stream ≡ false
      → room control_width controls < length (read_later_lem stream).controls
      → AnswerLater layoutByte stream controls properties' (counted 6 (read_later_lem stream))
  seven : length stream ≤ 16777216 → speaks2000 layoutByte stream ≡ false
      → length (read_later_lem stream).controls ≤ room control_width controls
      → room property_width properties' < length (properties (read_later_lem stream))
      → AnswerLater layoutByte stream controls properties' (counted 7 (read_later_lem stream))
  zero : length stream ≤ 16777216 → speaks2000 layoutByte stream ≡ false
      → length (read_later_lem stream).controls ≤ room control_width controls
      → length (properties (read_later_lem stream)) ≤ room property_width properties'
      → AnswerLater layoutByte stream controls properties' (counted 0 (read_later_lem stream))

-- demand 1 of a reader, whose table of answers is `Table`
pub record Reads (Table : Answer → Type 0) (controls properties : List ℕ) (e : Exit) : Type 0 where
  pub exactly : (a : Answer) → Table a ↔ (a ≡ e.answer)
  pub controls_stay : Refused e.answer → e.controls ≡ controls
  pub properties_stay : Refused e.answer → e.properties ≡ properties

-- ---- the readers and the choice agree
-- a call that is refused with 15 and changes nothing
pub record NotMine (controls properties : List ℕ) (e : Exit) : Type 0 where
  pub answer : e.answer ≡ refusal 15
  pub controls_stay : e.controls ≡ controls
  pub properties_stay : e.properties ≡ properties

-- what the choice and each reader show of one stream by one table. (`seen` is the choice's exit)
pub record Agree (table stream controls properties : List ℕ) (seen by_2000 by-later : Exit) : Type 0 where
  -- the first byte speaks for Access 2000: the choice gives what that reader gives, and the later one, told the table's layout byte, gives 15
  pub for_2000 : is2000 table stream ≡ true → seen ≡ by_2000
  pub not_later : is2000 table stream ≡ true → length stream ≤ 16777216 → NotMine controls properties by-later
  -- it speaks for the later layout: the other way round. (The later reader has no table to refuse)
  pub for_later : is2000 table stream ≡ false → well_formed_lem table ≡ true → seen ≡ by-later
  pub not_2000 : is2000 table stream ≡ false → Judged table stream → NotMine controls properties by_2000
  -- a table that isn't well formed: the choice gives what the reader gives that has the table, whatever the stream speaks for
  pub bad_table_lem : well_formed_lem table ≡ false → seen ≡ by_2000

pub record Wish8 : Type 0 where
  pub reads_2000 : (table stream controls properties : List ℕ) → Reads (Answer2000 table stream controls properties) controls properties (exit2000 table stream controls properties)
  pub reads-later : (layoutByte : ℕ) (stream controls properties : List ℕ)
      → Reads (AnswerLater layoutByte stream controls properties) controls properties (exit_later layoutByte stream controls properties)
  pub agree : (table stream controls properties : List ℕ)
      → Agree table stream controls properties (exit table stream controls properties) (exit2000 table stream controls properties) (exit_later (layout table) stream controls properties)
  -- "the later reader .. never answers 8", nor 4
  pub never_8 : (layoutByte : ℕ) (stream controls properties : List ℕ) → ¬ ((exit_later layoutByte stream controls properties).answer.number ≡ 8)
  pub never_4 : (layoutByte : ℕ) (stream controls properties : List ℕ) → ¬ ((exit_later layoutByte stream controls properties).answer.number ≡ 4)
  -- a byte is below 256: with a greater number no first byte speaks for Access 2000, and 15 never comes
  pub above_255 : (layoutByte : ℕ) (stream controls properties : List ℕ) → Bytes stream → 256 ≤ layoutByte
      → ¬ ((exit_later layoutByte stream controls properties).answer.number ≡ 15)
