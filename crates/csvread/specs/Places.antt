-- A text read byte by byte: the place after each, what is counted, and what is written.
use Rattle.std.specs.Prelude.{ℕ, ◌+◌, ◌-◌, ◌*◌, ◌≤◌, ◌<◌, ◌^◌, ◌≡◌, cond, List, [], ◌∷◌, eqb, length, set}
use Rattle.std.specs.Prelude as rust
use Rattle.std.specs.Prelude.{Some, None}
use Rattle.std.proofs.Math.Option.{Option, none, some}
use Rattle.std.proofs.lemmas.List.Edits.{sets}
use Rattle.rules.specs.Lists.{concat}
use Rattle.rules.specs.Rows.{field_width, room, written}
use Rattle.rules.specs.Csv.{Fields, read_from, at_end, spans_from, countable}
use Rattle.rules.specs.declared.Mode.TheVariants.{Start}
use Rattle.rules.specs.declared.Step.{Step}
use Rattle.rules.specs.declared.Step.TheVariants.{Pass, Put, Close, Refuse}
use Rattle.rows.specs.Put.{put}
use Rattle.csvlaws.proofs.CsvReaderLaws.{Counts, counted, more}
use Rattle.csvread.specs.declared.Place.{Place}
use Rattle.csvread.specs.declared.Size.{Size}

-- ---- counting
abbrev pub begin : Place
begin = record { mode = Start; field = 0; bytes = 0; fields = 0 }

abbrev pub place_after : Place → Step → rust.Option Place
place_after p (Pass m k) = Some (record { mode = m; field = k; bytes = p.bytes; fields = p.fields })
place_after p (Put m k) = Some (record { mode = m; field = k; bytes = p.bytes + 1; fields = p.fields })
place_after p (Close m k) = Some (record { mode = m; field = k; bytes = p.bytes; fields = p.fields + 1 })
place_after p Refuse = None

abbrev pub counted_as : Counts → rust.Option Size
counted_as none = None
counted_as (some c) = Some (record { bytes = c.0; fields = c.1 })

-- all counts, where the text ends at p
unfoldable pub end_of : Place → Counts
end_of p = more p.bytes p.fields (counted (at_end p.mode p.field))

-- and where it ends in a field
unfoldable pub last_of : Place → Counts
last_of p = more p.bytes p.fields (counted (cond (eqb p.field 4) (some ([] ∷ [])) none))

-- ---- writing
-- there is room for what is read
pub record Room (s rows out : List ℕ) (fields : ℕ) : Type 0 where
  pub bytes : ℕ
  pub is : counted (read_from Start 0 s) ≡ some (bytes, fields)
  pub bytes_fit : bytes ≤ countable (length out)
  pub fields_fit : fields ≤ countable (room field_width rows)

-- what a step asks of the room, where the field that the reader is in starts at `start`
abbrev pub Fits : List ℕ → List ℕ → Place → ℕ → Step → Type 0
Fits rows out p start (Pass m k) = Unit
Fits rows out p start (Put m k) = p.bytes < length out
Fits rows out p start (Close m k) = (p.fields * field_width + field_width ≤ length rows) × ((start ≤ p.bytes) × (p.bytes < 2 ^ 32))
Fits rows out p start Refuse = Unit

-- what it leaves there
abbrev pub step_rows : List ℕ → Place → ℕ → Step → List ℕ
step_rows rows p start (Pass m k) = rows
step_rows rows p start (Put m k) = rows
step_rows rows p start (Close m k) = put field_width rows p.fields ((start ∷ (p.bytes - start) ∷ []) ∷ [])
step_rows rows p start Refuse = rows

abbrev pub step_out : List ℕ → Place → Step → ℕ → List ℕ
step_out out p (Pass m k) b = out
step_out out p (Put m k) b = set out p.bytes b
step_out out p (Close m k) b = out
step_out out p Refuse b = out

abbrev pub step_start : Place → ℕ → Step → ℕ
step_start p start (Pass m k) = start
step_start p start (Put m k) = start
step_start p start (Close m k) = p.bytes
step_start p start Refuse = start

pub record Wrote (rows out : List ℕ) (p : Place) (start : ℕ) (s : Step) (b : ℕ) (rows' out' : List ℕ) (next : ℕ) : Type 0 where
  pub in_rows : rows' ≡ step_rows rows p start s
  pub in_out : out' ≡ step_out out p s b
  pub start_is : next ≡ step_start p start s

-- the room after the whole text
abbrev pub rows_of : Option Fields → List ℕ → List ℕ
rows_of none rows = rows
rows_of (some fs) rows = written (spans_from 0 fs) rows

abbrev pub out_of : Option Fields → List ℕ → List ℕ
out_of none out = out
out_of (some fs) out = sets out 0 (concat fs)
