-- What a Blob comes to: a refusal, or a reading. The answer and both lent slices at exit are functions of it.
use Rattle.std.specs.Prelude.{ℕ, Bool, cond, not, ◌&&◌, List, [], ltb, eqb, length}
use Rattle.std.proofs.Math.Option.{Option, none, some}
use Rattle.rules.specs.Bytes.{byte}
use Rattle.rules.specs.Answer.{answer, refusal, no_reading, too_long_lem, more_controls, more_properties, bad_table, other_layout, longest}
use Rattle.rules.specs.CodeTable.{layout, well_formed_lem}
use Rattle.rules.specs.Tree.{Entries}
use Rattle.rules.specs.Access2000.{Prop, stream_of}
use Rattle.rules.specs.Reading.{Reading, properties, control_rows, property_rows}
use Rattle.rules.specs.Rows.{control_width, property_width, room, written}
use Rattle.rules.specs.Read2000.{read2000, Spot, spots_of}
use Rattle.rules.specs.ReadLater.{read_later_lem}
use Rattle.rules.specs.declared.Answer.{Answer}

-- ---- which reading
-- the first byte speaks for Access 2000 where it is the layout byte. Wish 8 of document 02: "an empty stream speaks for the later one"
abbrev pub speaks2000 : ℕ → List ℕ → Bool
speaks2000 layoutByte s = ltb 0 (length s) && eqb (byte s 0) layoutByte

-- the later layout is "chosen when the first byte isn't the code table's layout byte, the empty stream included"
unfoldable pub is2000 : List ℕ → List ℕ → Bool
is2000 t s = speaks2000 (layout t) s

abbrev pub read_by : List ℕ → List ℕ → Option (List Prop × Entries Prop) → Option Reading
read_by t s none = none
read_by t s (some x) = some (read2000 t s x)

unfoldable pub reading_of : List ℕ → List ℕ → Option Reading
reading_of t s = cond (is2000 t s) (read_by t s (stream_of s)) (some (read_later_lem s))

-- ---- the outcome
pub data Outcome : Type 0 where
  refused : Answer → Outcome
  read : Reading → Outcome

-- "controls, property rows, object's own rows"
abbrev pub counted : ℕ → Reading → Answer
counted number r = answer number (length r.controls) (length (properties r)) (length r.own)

-- 4 where there is no reading; then "more control rows needed than lent" and "more property rows needed than lent", counts "as needed"
abbrev pub fit : ℕ → ℕ → Option Reading → Outcome
fit control_room property_room none = refused (refusal no_reading)
fit control_room property_room (some r) =
    cond (ltb control_room (length r.controls)) (refused (counted more_controls r))  -- 6
    (cond (ltb property_room (length (properties r))) (refused (counted more_properties r))  -- 7
    (read r))

-- "Order for a Blob: 5, 8, 4, 6, 7." Room is a number of rows
unfoldable pub outcome : List ℕ → List ℕ → ℕ → ℕ → Outcome
outcome t s control_room property_room =
    cond (ltb longest (length s)) (refused (refusal too_long_lem))  -- 5
    (cond (not (well_formed_lem t)) (refused (refusal bad_table))  -- 8
    (fit control_room property_room (reading_of t s)))  -- 4, 6, 7

-- ---- what is seen of it
abbrev pub answer_of : Outcome → Answer
answer_of (refused a) = a
answer_of (read r) = counted 0 r

-- "A refusal writes nothing."
abbrev pub controls_shown : Outcome → List (List ℕ)
controls_shown (refused a) = []
controls_shown (read r) = control_rows r

abbrev pub properties_shown : Outcome → List (List ℕ)
properties_shown (refused a) = []
properties_shown (read r) = property_rows r

-- all that a caller sees, with the two lent slices
pub record Exit : Type 0 where
  pub answer : Answer
  pub controls : List ℕ
  pub properties : List ℕ

abbrev pub exit_by_lem : Outcome → List ℕ → List ℕ → Exit
exit_by_lem o controls properties = record {
  answer = answer_of o;
  controls = written (controls_shown o) controls;
  properties = written (properties_shown o) properties;
}

unfoldable pub exit : List ℕ → List ℕ → List ℕ → List ℕ → Exit
exit t s controls properties = exit_by_lem (outcome t s (room control_width controls) (room property_width properties)) controls properties

-- ---- a reader for each layout. Wish 8: "The archive desk knows from its register which layout a file has, and wants a wrong first byte to be noticed."
-- "15 where the first byte speaks for the other layout .., after 5 and 8": so 5, 8, 15, 4, 6, 7
unfoldable pub outcome2000 : List ℕ → List ℕ → ℕ → ℕ → Outcome
outcome2000 t s control_room property_room =
    cond (ltb longest (length s)) (refused (refusal too_long_lem))  -- 5
    (cond (not (well_formed_lem t)) (refused (refusal bad_table))  -- 8
    (cond (not (is2000 t s)) (refused (refusal other_layout))  -- 15
    (fit control_room property_room (read_by t s (stream_of s)))))  -- 4, 6, 7

-- "the later reader is told the layout byte as a number and never answers 8": so 5, 15, 6, 7
unfoldable pub outcome_later : ℕ → List ℕ → ℕ → ℕ → Outcome
outcome_later layoutByte s control_room property_room =
    cond (ltb longest (length s)) (refused (refusal too_long_lem))  -- 5
    (cond (speaks2000 layoutByte s) (refused (refusal other_layout))  -- 15
    (fit control_room property_room (some (read_later_lem s))))  -- 6, 7

unfoldable pub exit2000 : List ℕ → List ℕ → List ℕ → List ℕ → Exit
exit2000 t s controls properties = exit_by_lem (outcome2000 t s (room control_width controls) (room property_width properties)) controls properties

unfoldable pub exit_later : ℕ → List ℕ → List ℕ → List ℕ → Exit
exit_later layoutByte s controls properties = exit_by_lem (outcome_later layoutByte s (room control_width controls) (room property_width properties)) controls properties

-- ---- which scope and stored property a property row speaks of, in an Access 2000 stream
abbrev pub spots_in : List ℕ → Option (List Prop × Entries Prop) → List Spot
spots_in s none = []
spots_in s (some x) = spots_of s x

unfoldable pub spots : List ℕ → List Spot
spots s = spots_in s (stream_of s)
