-- Counts. "counts are those of the reading": on answer 0 the counts are the numbers of the rows, and the lent slices hold the rows.
use Rattle.std.specs.Prelude.{ℕ, ◌*◌, ◌≡◌, List, ◌++◌, length, drop}
use Rattle.rules.specs.Lists.{concat}
use Rattle.rules.specs.Rows.{control_width, property_width, type_info_width, room}
use Rattle.rules.specs.TypeInfo.{TypeInfoExit, type_info_exit, type_info_rows}
use Rattle.rules.specs.Reading.{Reading, control_rows, property_rows}
use Rattle.rules.specs.Blob.{Exit, read, outcome, exit}

-- what a caller sees of a reading: its counts are the numbers of its rows, and the lent slices hold the rows and then what stood there before
pub record Counted (controls properties : List ℕ) (r : Reading) (seen : Exit) : Type 0 where
  pub number : seen.answer.number ≡ 0
  pub first : seen.answer.first ≡ length (control_rows r)
  pub second : seen.answer.second ≡ length (property_rows r)
  pub third : seen.answer.third ≡ length r.own
  pub control-words : seen.controls ≡ concat (control_rows r) ++ drop (length (control_rows r) * control_width) controls
  pub property-words : seen.properties ≡ concat (property_rows r) ++ drop (length (property_rows r) * property_width) properties

-- wherever there is a reading and room for it: there `outcome` is `read r`, and there alone the answer is 0 (`BlobAnswer.zero`)
abbrev pub Counts : List ℕ → List ℕ → List ℕ → List ℕ → Exit → Type 0
Counts table stream controls properties seen =
    (r : Reading) → outcome table stream (room control_width controls) (room property_width properties) ≡ read r → Counted controls properties r seen

-- the same of TypeInfo
pub record InfoCounted (stream rows : List ℕ) (seen : TypeInfoExit) : Type 0 where
  pub first : seen.answer.first ≡ length (type_info_rows stream)
  pub words : seen.rows ≡ concat (type_info_rows stream) ++ drop (length (type_info_rows stream) * type_info_width) rows

abbrev pub InfoCounts : List ℕ → List ℕ → TypeInfoExit → Type 0
InfoCounts stream rows seen = seen.answer.number ≡ 0 → InfoCounted stream rows seen

pub record AllCounts : Type 0 where
  pub blobs : (table stream controls properties : List ℕ) → Counts table stream controls properties (exit table stream controls properties)
  pub type-infos : (stream rows : List ℕ) → InfoCounts stream rows (type_info_exit stream rows)
