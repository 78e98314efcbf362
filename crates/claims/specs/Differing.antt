-- Which panels come out otherwise. "The auditor asked which panels converted under the earlier table would come out otherwise under today's. I couldn't answer."
-- The list has each property that does and no other, and says what the two readings show. It is empty exactly when the two conversions are word for word the same.
use Rattle.std.specs.Prelude.{ℕ, ◌+◌, ◌*◌, ◌≤◌, ◌<◌, ◌≡◌, true, List, ◌↔◌, length, get_or, drop}
use Rattle.std.proofs.Math.Option.{none, some}
use Rattle.rules.specs.Answer.{answer, refusal}
use Rattle.rules.specs.CodeTable.{well_formed_lem}
use Rattle.rules.specs.Access2000.{stream_of}
use Rattle.rules.specs.Rows.{property_width, difference_width, room, row_at}
use Rattle.rules.specs.Listing.{word}
use Rattle.rules.specs.Reading.{Reading, properties}
use Rattle.rules.specs.Read2000.{Spot}
use Rattle.rules.specs.Blob.{Exit, is2000, reading_of, exit, spots}
use Rattle.rules.specs.Differences.{succeeds, difference_rows, DifferencesExit, differences_exit}
use Rattle.rules.specs.declared.Answer.{Answer}
use Rattle.claims.specs.Demand1.{Refused}
use Rattle.claims.specs.Demand3.{Successor, Learned, no-spot}
use Rattle.claims.specs.RowChecks.{first_row, property_count, shown_id, value_mark, value_start, value_length}

-- ---- the answers, and when they are given
-- neither 5, 8 nor 19
pub record Comparable (older newer stream : List ℕ) : Type 0 where
  pub not_long : length stream ≤ 16777216
  pub successor : Successor older newer

pub data DifferencesAnswer (older newer stream rows : List ℕ) : Answer → Type 0 where
  -- stream over 16,777,216 bytes
  five : 16777216 < length stream → DifferencesAnswer older newer stream rows (refusal 5)
  -- a code table not well formed
  eight : length stream ≤ 16777216 → ¬ ((well_formed_lem older ≡ true) × (well_formed_lem newer ≡ true)) → DifferencesAnswer older newer stream rows (refusal 8)
  -- the newer is no successor of the older
  nineteen : length stream ≤ 16777216 → well_formed_lem older ≡ true → well_formed_lem newer ≡ true → ¬ Successor older newer
      → DifferencesAnswer older newer stream rows (refusal 19)
  -- Access 2000 stream fits no reading
  four : Comparable older newer stream → is2000 older stream ≡ true → stream_of stream ≡ none → DifferencesAnswer older newer stream rows (refusal 4)
  -- more rows needed than lent: the rows needed, and the properties
  six : Comparable older newer stream → {r : Reading} → reading_of older stream ≡ some r
      → room difference_width rows < length (difference_rows older newer stream)
      → DifferencesAnswer older newer stream rows (answer 6 (length (difference_rows older newer stream)) (length (properties r)) 0)
  -- listed: the rows, and the properties
  zero : Comparable older newer stream → {r : Reading} → reading_of older stream ≡ some r
      → length (difference_rows older newer stream) ≤ room difference_width rows
      → DifferencesAnswer older newer stream rows (answer 0 (length (difference_rows older newer stream)) (length (properties r)) 0)

-- ---- what is listed
-- row k of the list
abbrev pub listed : DifferencesExit → ℕ → List ℕ
listed seen k = row_at difference_width k seen.rows

-- the property row i is listed
abbrev pub Lists : DifferencesExit → ℕ → Type 0
Lists seen i = (k : ℕ) × (k < seen.answer.first) × (word (listed seen k) 0 ≡ i)

-- where a property row stands, by a reading's words: before all controls, as one of the object's, or among those that a control's row names
pub data Under (a : Exit) (i : ℕ) : ℕ → Type 0 where
  the_object : i < a.answer.third → Under a i 0xFFFFFFFF
  a_control : {c : ℕ} → c < a.answer.first → first_row a c ≤ i → i < first_row a c + property_count a c → Under a i c

-- the ten words of a row listed, where a and b are what a caller sees by the older table and by the newer
pub record Says (a b : Exit) (i : ℕ) (x : Spot) (row : List ℕ) : Type 0 where
  pub control : Under a i (word row 1)
  pub raw_code : word row 2 ≡ x.prop.id
  pub scope-kind : word row 3 ≡ x.scope.kind
  pub scope-code : word row 4 ≡ x.scope.code
  pub older-id : word row 5 ≡ shown_id a i
  pub newer-id : word row 6 ≡ shown_id b i
  pub newer-mark : word row 7 ≡ value_mark b i
  pub start : word row 8 ≡ value_start a i
  pub size : word row 9 ≡ value_length a i

pub record Differing (older newer s : List ℕ) (a b : Exit) (seen : DifferencesExit) : Type 0 where
  -- the properties looked at are those of the reading
  pub all_looked_at : seen.answer.second ≡ a.answer.second
  -- a property is listed exactly when its row differs
  pub exactly : (i : ℕ) → Lists seen i ↔ ((i < a.answer.second) × (¬ (row_at property_width i a.properties ≡ row_at property_width i b.properties)))
  -- and exactly when the newer has its code in that scope and the older hasn't
  pub learned : (i : ℕ) → Lists seen i ↔ ((i < a.answer.second) × Learned older newer (get_or (spots s) i no-spot))
  -- in row order, each once
  pub in_order : (j k : ℕ) → j < k → k < seen.answer.first → word (listed seen j) 0 < word (listed seen k) 0
  pub says : (k : ℕ) → k < seen.answer.first → Says a b (word (listed seen k) 0) (get_or (spots s) (word (listed seen k) 0) no-spot) (listed seen k)

pub record Differences : Type 0 where
  -- what 19 is judged by is demand 3's premise
  pub judged : (older newer : List ℕ) → well_formed_lem older ≡ true → well_formed_lem newer ≡ true → (succeeds older newer ≡ true) ↔ Successor older newer
  pub answers : (older newer s rows : List ℕ) (a : Answer) → DifferencesAnswer older newer s rows a ↔ (a ≡ (differences_exit older newer s rows).answer)
  -- a refusal writes nothing, and what stands after the list stays
  pub rows_stay : (older newer s rows : List ℕ) → Refused (differences_exit older newer s rows).answer → (differences_exit older newer s rows).rows ≡ rows
  pub after : (older newer s rows : List ℕ) → (differences_exit older newer s rows).answer.number ≡ 0
      → drop ((differences_exit older newer s rows).answer.first * difference_width) (differences_exit older newer s rows).rows
      ≡ drop ((differences_exit older newer s rows).answer.first * difference_width) rows
  -- against what two readings show, each in room of its own that suffices
  pub differing : (older newer s rows controls properties controls' properties' : List ℕ) → (differences_exit older newer s rows).answer.number ≡ 0 → is2000 older s ≡ true
      → (exit older s controls properties).answer.number ≡ 0 → (exit newer s controls' properties').answer.number ≡ 0
      → Differing older newer s (exit older s controls properties) (exit newer s controls' properties') (differences_exit older newer s rows)
  -- nothing is listed exactly when the two conversions are word for word the same, whatever the room
  pub nothing : (older newer s rows : List ℕ) → (differences_exit older newer s rows).answer.number ≡ 0
      → ((differences_exit older newer s rows).answer.first ≡ 0) ↔ ((controls properties : List ℕ) → exit older s controls properties ≡ exit newer s controls properties)
  -- "A later stream gives none."
  pub later : (older newer s rows : List ℕ) → (differences_exit older newer s rows).answer.number ≡ 0 → ¬ (is2000 older s ≡ true)
      → (differences_exit older newer s rows).answer.first ≡ 0
