-- Differences: what a newer code table changes. Which properties of an Access 2000 stream come out otherwise than under the older, and how.
use Rattle.std.specs.Prelude.{ℕ, ◌+◌, Bool, false, not, cond, ◌&&◌, List, [], ◌∷◌, ◌++◌, map, ltb, eqb, length}
use Rattle.std.proofs.Math.Option.{Option, none, some}
use Rattle.rules.specs.Lists.{all, same}
use Rattle.rules.specs.Answer.{answer, refusal, no_reading, too_long_lem, more_controls, bad_table, no_successor, longest}
use Rattle.rules.specs.CodeTable.{Tie, Scope, scopes, well_formed_lem, row_of}
use Rattle.rules.specs.Join.{same_row_lem, same_head_lem}
use Rattle.rules.specs.Tree.{Entries, Node, nodes_of}
use Rattle.rules.specs.Access2000.{Prop, stream_of}
use Rattle.rules.specs.Reading.{Reading, properties, property_row}
use Rattle.rules.specs.Read2000.{object_key, property_in, Spot, spot_in, node_spots}
use Rattle.rules.specs.Rows.{difference_width, room, written}
use Rattle.rules.specs.Blob.{is2000, reading_of}
use Rattle.rules.specs.declared.Answer.{Answer}
use Rattle.rules.specs.declared.Property.{Property}

-- ---- the two tables
-- what is found for an id is this row of that id
abbrev pub found_same : Tie → Option Tie → Bool
found_same r none = false
found_same r (some q) = same_row_lem q r

-- the table has this row in a scope of this kind and code
unfoldable pub has_row : List ℕ → ℕ → ℕ → Tie → Bool
has_row t kind code r = found_same r (row_of t kind code r.id)

-- and every row of this scope
unfoldable pub has_scope : List ℕ → Scope → Bool
has_scope t s = all (has_row t s.kind s.code) s.rows

-- demand 3: "one layout byte and the same header codes, the newer holding every row of the older"
unfoldable pub succeeds : List ℕ → List ℕ → Bool
succeeds older newer = same_head_lem older newer && all (has_scope newer) (scopes older)

-- ---- the properties of an Access 2000 stream, each with its control row
pub record Site : Type 0 where
  pub control : ℕ
  pub spot : Spot

abbrev pub site_in : ℕ → Spot → Site
site_in control x = record { control = control; spot = x }

-- the control row of the object's own properties
abbrev pub no_control : ℕ
no_control = 0xFFFFFFFF

-- those of nodes, the first of which has the control row n
unfoldable pub node_sites : ℕ → List (Node Prop) → List Site
node_sites n [] = []
node_sites n (m ∷ ms) = map (site_in n) (node_spots m) ++ node_sites (n + 1) ms

-- in row order: the object's, then each control's
unfoldable pub sites_of : List ℕ → List Prop × Entries Prop → List Site
sites_of s x = map (site_in no_control) (map (spot_in (object_key s)) x.0) ++ node_sites 0 (nodes_of x.1)

abbrev pub sites_in : List ℕ → Option (List Prop × Entries Prop) → List Site
sites_in s none = []
sites_in s (some x) = sites_of s x

unfoldable pub sites : List ℕ → List Site
sites s = sites_in s (stream_of s)

-- ---- what differs
-- the property of a spot, as a table shows it
abbrev pub showing : List ℕ → List ℕ → Spot → Property
showing t s x = property_in t s x.scope x.prop

-- some word of its row does
unfoldable pub differs : List ℕ → List ℕ → List ℕ → Spot → Bool
differs older newer s x = not (same (property_row (showing older s x)) (property_row (showing newer s x)))

-- ten words: property row, control row, raw code, scope kind, scope code, older id, newer id, newer mark, start, length
unfoldable pub difference_row : List ℕ → List ℕ → List ℕ → ℕ → Site → List ℕ
difference_row older newer s i x =
    i ∷ x.control ∷ x.spot.prop.id ∷ x.spot.scope.kind ∷ x.spot.scope.code
    ∷ (showing older s x.spot).id ∷ (showing newer s x.spot).id ∷ (showing newer s x.spot).value.mark
    ∷ x.spot.prop.start ∷ x.spot.prop.size ∷ []

-- a row for each that differs, in row order; the first of them all has the property row i
unfoldable pub differences_from : List ℕ → List ℕ → List ℕ → ℕ → List Site → List (List ℕ)
differences_from older newer s i [] = []
differences_from older newer s i (x ∷ xs) =
    let rest = differences_from older newer s (i + 1) xs in
    cond (differs older newer s x.spot) (difference_row older newer s i x ∷ rest) rest

-- a later stream has none: no code table is asked there
unfoldable pub difference_rows : List ℕ → List ℕ → List ℕ → List (List ℕ)
difference_rows older newer s = cond (is2000 older s) (differences_from older newer s 0 (sites s)) []

-- ---- the answer
-- rows, and the properties of the reading: "all counts as needed" on 6, and the same on 0
abbrev pub differences_fit : ℕ → List (List ℕ) → Option Reading → Answer
differences_fit rowRoom rows none = refusal no_reading  -- 4
differences_fit rowRoom rows (some r) =
    cond (ltb rowRoom (length rows)) (answer more_controls (length rows) (length (properties r)) 0)  -- 6
    (answer 0 (length rows) (length (properties r)) 0)

-- 5, 8, 19, 4, 6
unfoldable pub differences_answer : List ℕ → List ℕ → List ℕ → ℕ → Answer
differences_answer older newer s rowRoom =
    cond (ltb longest (length s)) (refusal too_long_lem)  -- 5
    (cond (not (well_formed_lem older && well_formed_lem newer)) (refusal bad_table)  -- 8
    (cond (not (succeeds older newer)) (refusal no_successor)  -- 19
    (differences_fit rowRoom (difference_rows older newer s) (reading_of older s))))  -- 4, 6

-- all that a caller sees
pub record DifferencesExit : Type 0 where
  pub answer : Answer
  pub rows : List ℕ

-- "A refusal writes nothing. On 0, rows beyond the count keep their old words."
unfoldable pub differences_exit : List ℕ → List ℕ → List ℕ → List ℕ → DifferencesExit
differences_exit older newer s rows =
    let given = differences_answer older newer s (room difference_width rows) in
    record { answer = given; rows = cond (eqb given.number 0) (written (difference_rows older newer s) rows) rows }
