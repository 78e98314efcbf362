-- What the writer of comma-separated text asks of its parts.
use Rattle.std.specs.Prelude.{ℕ, ◌+◌, ◌-◌, ◌*◌, ◌≤◌, ◌≡◌, Bool, true, ◌&&◌, ◌||◌, List, leb, eqb, length}
use Rattle.rules.specs.Answer.{longest}
use Rattle.rules.specs.Rows.{control_width, property_width, room}
use Rattle.rules.specs.CodeTable.{well_formed_lem}
use Rattle.rules.specs.Reading.{Reading, properties}
use Rattle.rules.specs.Blob.{outcome, read, reading_of}
use Rattle.rules.specs.Csv.{csv_of, countable, CsvExit}
use Rattle.rules.specs.declared.Answer.{Answer}
use Rattle.rows.specs.Acts.{Held}
use Rattle.names.specs.Lookup.{Lent}
use Rattle.csvwalk.specs.Needs.{sheet_need}

-- all that a caller sees of a call
abbrev pub csv_left : Answer → List ℕ → List ℕ → List ℕ → CsvExit
csv_left a controls properties out = record { answer = a; controls = controls; properties = properties; out = out }

-- an answer that has a reading's counts
unfoldable pub is_read_lem : ℕ → Bool
is_read_lem n = eqb n 0 || eqb n 6 || eqb n 7

-- by what is answered without room, so many rows are enough
unfoldable pub is_enough : Answer → ℕ → ℕ → Bool
is_enough needed control_room property_room = is_read_lem needed.number && (leb needed.first control_room && leb needed.second property_room)

-- so long is the text of so many rows at most: the header, 94 bytes a record, and twice the bytes of the values
unfoldable pub ample : ℕ → ℕ → ℕ
ample rows size = 34 + 94 * rows + 2 * size

-- there is a reading, and the names are lent
pub record Readable (t s index letters : List ℕ) : Type 0 where
  pub formed : well_formed_lem t ≡ true
  pub small : length s ≤ longest
  pub there : Held (λ _. Unit {0}) (reading_of t s)
  pub lent : Lent index letters

pub record Measured (t s : List ℕ) (all r : ℕ) : Type 0 where
  pub is : Held (λ x. r ≡ all - sheet_need s x) (reading_of t s)

pub record Fits (t s : List ℕ) (lentRoom : ℕ) (r : Bool) : Type 0 where
  pub is : Held (λ x. r ≡ leb (length (csv_of s x)) (countable lentRoom)) (reading_of t s)

-- where there is a reading with counts of 32 bits, its text has room
pub record Roomy (t s cs ps out : List ℕ) : Type 0 where
  pub fits : (r : Reading) → outcome t s (room control_width cs) (room property_width ps) ≡ read r → length r.controls ≤ 0xFFFFFFFF → length (csv_of s r) ≤ countable (length out)

-- rows and text have room, and the answer without room has the counts
pub record Ready (t s cs ps index letters : List ℕ) (needed : Answer) (out : List ℕ) : Type 0 where
  pub reading : Reading
  pub is : outcome t s (room control_width cs) (room property_width ps) ≡ read reading
  pub first : needed.first ≡ length reading.controls
  pub second : needed.second ≡ length (properties reading)
  pub third : needed.third ≡ length reading.own
  pub fits : length (csv_of s reading) ≤ countable (length out)
  pub lent : Lent index letters
