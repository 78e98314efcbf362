-- Demand 3. Two well-formed tables with one layout byte and the same header codes, the newer holding every row of the older: over the same
-- Access 2000 stream and room both give the same answer number, controls, names and property count, and on answer 0 a property differs
-- exactly where the newer has its code in that scope and the older hasn't; there the older shows the raw code marked unmapped with its
-- stored value, the newer its row's target.
use Rattle.std.specs.Prelude.{ℕ, ◌*◌, ◌<◌, ◌≡◌, List, true, ◌↔◌, length, get_or, take, drop}
use Rattle.std.specs.Int.Bits.{bit_or}
use Rattle.rules.specs.Value.{stored_value_lem, value_as_lem}
use Rattle.rules.specs.CodeTable.{Tie, layout, header, well_formed_lem, Holds, Extends}
use Rattle.rules.specs.Rows.{control_width, property_width, room, row_at}
use Rattle.rules.specs.Reading.{property_row}
use Rattle.rules.specs.Read2000.{Spot, bytes_of, property}
use Rattle.rules.specs.Blob.{Exit, is2000, exit, exit2000, spots}

-- the two tables
pub record Successor (older newer : List ℕ) : Type 0 where
  pub older-formed : well_formed_lem older ≡ true
  pub newer-formed : well_formed_lem newer ≡ true
  pub one-layout : layout older ≡ layout newer
  pub same-header : header older ≡ header newer
  pub holds_every_row : Extends older newer

-- a `Spot` x is a stored property with the scope that it stands in (Stored). Its code is its raw `id`; the scope has a kind and a code of its own.
-- The newer has the code of x in its scope, and the older hasn't:
pub record Learned (older newer : List ℕ) (x : Spot) : Type 0 where
  pub row : Tie
  pub newer-has : Holds newer x.scope.kind x.scope.code row
  pub its-code : row.id ≡ x.prop.id
  pub older_hasn't : (r : Tie) → Holds older x.scope.kind x.scope.code r → ¬ (r.id ≡ x.prop.id)

-- the six words `old` and `new` of the property x. `exactly` says where they differ, `else_same` that they are equal elsewhere
pub record RowSays (older newer s : List ℕ) (x : Spot) (old new : List ℕ) : Type 0 where
  pub exactly : (¬ (old ≡ new)) ↔ Learned older newer x
  pub else_same : ¬ Learned older newer x → old ≡ new
  pub older-shows : Learned older newer x → old ≡ property_row (property (bit_or 0x8000 x.prop.id) (stored_value_lem x.prop.id (bytes_of s x.prop)) x.prop)
  pub newer-shows : (l : Learned older newer x) → new ≡ property_row (property l.row.target (value_as_lem l.row.kind x.prop.id (bytes_of s x.prop)) x.prop)

-- what `get_or` gives where there is no row: only asked for at rows that are there
abbrev pub no-spot : Spot
no-spot = record { scope = record { kind = 0; code = 0 }; prop = record { id = 0; start = 0; size = 0 } }

-- ---- the same room, whatever stood in it
-- the two slices that a call is lent
pub record Lent : Type 0 where
  pub controls : List ℕ
  pub properties : List ℕ

-- "Row room is the lent length divided by the row's words, rounded down."
pub record SameRoom (lent lent' : Lent) : Type 0 where
  pub of_controls : room control_width lent.controls ≡ room control_width lent'.controls
  pub of_properties : room property_width lent.properties ≡ room property_width lent'.properties

-- the words of so many rows
abbrev pub control_words : ℕ → List ℕ → List ℕ
control_words n words = take (n * control_width) words

abbrev pub property_words : ℕ → List ℕ → List ℕ
property_words n words = take (n * property_width) words

-- behind the rows of a call that was answered 0, each slice has its own old words
pub record Behind (lent : Lent) (e : Exit) : Type 0 where
  pub controls : drop (e.answer.first * control_width) e.controls ≡ drop (e.answer.first * control_width) lent.controls
  pub properties : drop (e.answer.second * property_width) e.properties ≡ drop (e.answer.second * property_width) lent.properties

-- a refused call leaves each slice as it was
pub record Unchanged (lent : Lent) (e : Exit) : Type 0 where
  pub controls : e.controls ≡ lent.controls
  pub properties : e.properties ≡ lent.properties

-- what a caller sees of two calls, up to the words of the property rows
pub record Alike (lent lent' : Lent) (a b : Exit) : Type 0 where
  -- the answer number and the three counts
  pub same_answer : a.answer ≡ b.answer
  -- on answer 0: all eight words of each control row are the same. A name is told by words of its row, so these are the names too; and so are level and parent
  -- (wish 1 of document 02), in which the table has no part
  pub same-controls : a.answer.number ≡ 0 → control_words a.answer.first a.controls ≡ control_words a.answer.first b.controls
  -- and what stands behind the rows is each one's own
  pub behind : a.answer.number ≡ 0 → Behind lent a × Behind lent' b
  -- on a refusal: so is every word
  pub refusal : ¬ (a.answer.number ≡ 0) → Unchanged lent a × Unchanged lent' b

-- ---- what a caller sees by the older table, and by the newer
-- of an Access 2000 stream
pub record SameBut (older newer s : List ℕ) (lent lent' : Lent) (a b : Exit) : Type 0 where
  pub alike : Alike lent lent' a b
  -- on answer 0: the reported properties of the stream have a row each, and row i says what it should. (`spots` lists them; that they are those which the
  -- bytes spell, each in its scope, says `RowChecks.stored`)
  pub a_row-each : a.answer.number ≡ 0 → length (spots s) ≡ a.answer.second
  pub rows : a.answer.number ≡ 0 → (i : ℕ) → i < a.answer.second
      → RowSays older newer s (get_or (spots s) i no-spot) (row_at property_width i a.properties) (row_at property_width i b.properties)

-- of any other stream: the property rows are the same too
pub record Same (lent lent' : Lent) (a b : Exit) : Type 0 where
  pub alike : Alike lent lent' a b
  pub same-properties : a.answer.number ≡ 0 → property_words a.answer.second a.properties ≡ property_words a.answer.second b.properties

-- what a call shows by a table: of the Access 2000 reader, and of the choice by the first byte
abbrev pub exit_of2000 : List ℕ → List ℕ → Lent → Exit
exit_of2000 table s lent = exit2000 table s lent.controls lent.properties

abbrev pub exit_of : List ℕ → List ℕ → Lent → Exit
exit_of table s lent = exit table s lent.controls lent.properties

pub record Demand3 : Type 0 where
  -- wish 8: "Demand 3 then speaks of the Access 2000 reader." Nothing is asked of the stream: one that speaks for the later layout is answered 15 by both tables
  pub same_but : (older newer s : List ℕ) (lent lent' : Lent) → Successor older newer → SameRoom lent lent'
      → SameBut older newer s lent lent' (exit_of2000 older s lent) (exit_of2000 newer s lent')
  -- the choice, over one Access 2000 stream: its first byte is the layout byte of both
  pub chosen-same_but : (older newer s : List ℕ) (lent lent' : Lent) → Successor older newer → SameRoom lent lent' → is2000 older s ≡ true
      → SameBut older newer s lent lent' (exit_of older s lent) (exit_of newer s lent')
  -- over any other stream the two tables say the very same
  pub later_same : (older newer s : List ℕ) (lent lent' : Lent) → Successor older newer → SameRoom lent lent' → ¬ (is2000 older s ≡ true)
      → Same lent lent' (exit_of older s lent) (exit_of newer s lent')
