-- Wish 7 of document 02. Hand the properties to the planners' spreadsheet.
use Rattle.std.specs.Prelude.{ℕ, ◌+◌, ◌*◌, ◌≤◌, ◌<◌, ◌≡◌, true, List, [], ◌∷◌, ◌++◌, map, ◌↔◌, ◌⊎◌, length, get_or, take, drop}
use Rattle.std.proofs.Math.Option.{none, some}
use Rattle.rules.specs.Lists.{concat}
use Rattle.rules.specs.Bytes.{Bytes, part}
use Rattle.rules.specs.Answer.{answer, refusal}
use Rattle.rules.specs.Rows.{control_width, property_width, field_width, room, row_at}
use Rattle.rules.specs.Digits.{decimal, hex}
use Rattle.rules.specs.Reading.{Reading, properties, control_rows, property_rows}
use Rattle.rules.specs.Blob.{reading_of, exit}
use Rattle.rules.specs.Listing.{word}
use Rattle.rules.specs.Utf16.{is_utf16_lem}
use Rattle.rules.specs.Scalars.{scalars}
use Rattle.rules.specs.Utf8.{utf8}
use Rattle.rules.specs.Csv.{crlf, Record, all_fields, sheet_text, sheet_length, header, property_record, sheet_of, csv_of, countable, CsvExit, csv_exit, Fields, fields_of, FieldsExit, fields_by, fields_exit}
use Rattle.rules.specs.declared.Answer.{Answer}
use Rattle.claims.specs.Answers.{Judged, BlobAnswer}
use Rattle.claims.specs.Demand1.{Refused}
use Rattle.claims.specs.CsvGrammar.{◌spells◌}
use Rattle.claims.specs.Characters as utf16
use Rattle.claims.specs.Utf8Grammar as utf8-of

-- "It is to be proved that reading back what was written gives the same fields in the same order."
pub record ReadBack : Type 0 where
  -- of any records, whatever bytes their fields have
  pub records : (t : List Record) → ¬ (t ≡ []) → fields_of (sheet_text t) ≡ some (all_fields t)
  -- so of a Blob's
  pub blobs : (stream : List ℕ) (r : Reading) → fields_of (csv_of stream r) ≡ some (all_fields (sheet_of stream r))

-- "then a record for each property with control number and type code in hex (both empty for the object's)": by the words of the rows, each control's
-- properties being so many of the rows in turn as its row says
unfoldable pub controls_by : List ℕ → ℕ → List (List ℕ) → List (List ℕ) → List Record
controls_by stream n [] rows = []
controls_by stream n (c ∷ cs) rows =
    map (property_record stream (decimal n) (hex 4 (word c 0))) (take (word c 5) rows) ++ controls_by stream (n + 1) cs (drop (word c 5) rows)

pub record Records : Type 0 where
  pub by_rows : (stream : List ℕ) (r : Reading) → sheet_of stream r
      ≡ header ∷ map (property_record stream [] []) (take (length r.own) (property_rows r)) ++ controls_by stream 0 (control_rows r) (drop (length r.own) (property_rows r))
  -- the header, and one for each property
  pub many : (stream : List ℕ) (r : Reading) → length (sheet_of stream r) ≡ 1 + length (properties r)
  -- "Text is written whole as UTF-8"
  pub text-value : (stream control type row : List ℕ) → word row 1 ≡ 6 → (property_record stream control type row).value ≡ utf8 (part stream (word row 4) (word row 5))

-- "a reader for such text": comma-separated text "by RFC 4180, its text data widened", "five fields in every record"
pub record Accepts : Type 0 where
  -- a text is read as the fields of t exactly when it spells t
  pub read_as : (s : List ℕ) (t : List Record) → (fields_of s ≡ some (all_fields t)) ↔ (s spells t)
  -- it is refused exactly when it spells nothing
  pub refused : (s : List ℕ) → (fields_of s ≡ none) ↔ ((t : List Record) → ¬ (s spells t))
  -- it spells one list of records at most
  pub spelled_once : (s : List ℕ) (t u : List Record) → s spells t → s spells u → t ≡ u
  -- whatever is read are the fields of records
  pub in_records : (s : List ℕ) (fs : Fields) → fields_of s ≡ some fs → (t : List Record) × (fs ≡ all_fields t)

-- "the last CR LF optional"
pub record LastOptional : Type 0 where
  -- a text that is read is read the same without its last CR LF
  pub without : (s : List ℕ) (fs : Fields) → fields_of (s ++ crlf) ≡ some fs → fields_of s ≡ some fs
  -- and the same with CR LF after it, if it doesn't end so already
  pub and_with : (s : List ℕ) (fs : Fields) → fields_of s ≡ some fs → (fields_of (s ++ crlf) ≡ some fs) ⊎ ((u : List ℕ) × (s ≡ u ++ crlf))

-- "Text is written whole as UTF-8". (Every Text of a Blob is well-formed UTF-16: `formed` of wish 5)
pub record Texts : Type 0 where
  -- the bytes are UTF-8 of the characters that the value is UTF-16 of
  pub same : (s : List ℕ) → Bytes s → is_utf16_lem s ≡ true → utf16.characters (scalars s) s × utf8-of.characters (scalars s) (utf8 s)
  -- and of no others
  pub one-reading : (a cs ds : List ℕ) → utf8-of.characters cs a → utf8-of.characters ds a → cs ≡ ds

-- ---- answers
-- a Blob that is read, with room for its rows
pub record Taken (table stream controls properties' : List ℕ) (r : Reading) : Type 0 where
  pub judged : Judged table stream
  pub reading : reading_of table stream ≡ some r
  pub controls-fit : length r.controls ≤ room control_width controls
  pub properties-fit : length (properties r) ≤ room property_width properties'

pub data CsvAnswer (table stream controls properties' out : List ℕ) : Answer → Type 0 where
  -- 13 "comes after all of the Blob's refusals"
  blob : {a : Answer} → BlobAnswer table stream controls properties' a → Refused a → CsvAnswer table stream controls properties' out a
  -- what is written doesn't fit the room lent
  thirteen : {r : Reading} → Taken table stream controls properties' r → countable (length out) < length (csv_of stream r)
      → CsvAnswer table stream controls properties' out (refusal 13)
  -- the length written
  zero : {r : Reading} → Taken table stream controls properties' r → length (csv_of stream r) ≤ countable (length out)
      → CsvAnswer table stream controls properties' out (answer 0 (length (csv_of stream r)) 0 0)

pub data FieldsAnswer (s rows out : List ℕ) : Answer → Type 0 where
  -- text read isn't of that grammar
  fourteen : ((t : List Record) → ¬ (s spells t)) → FieldsAnswer s rows out (refusal 14)
  -- what is read doesn't fit the room lent; it comes after 14
  thirteen : (t : List Record) → s spells t → (countable (length out) < length (concat (all_fields t))) ⊎ (countable (room field_width rows) < length (all_fields t))
      → FieldsAnswer s rows out (refusal 13)
  -- the bytes written and the fields
  zero : (t : List Record) → s spells t → length (concat (all_fields t)) ≤ countable (length out) → length (all_fields t) ≤ countable (room field_width rows)
      → FieldsAnswer s rows out (answer 0 (length (concat (all_fields t))) (length (all_fields t)) 0)

pub record Writes (table stream controls properties' out : List ℕ) (e : CsvExit) : Type 0 where
  pub exactly : (a : Answer) → CsvAnswer table stream controls properties' out a ↔ (a ≡ e.answer)
  -- a refusal writes no row and no byte
  pub refused : Refused e.answer → e ≡ record { answer = e.answer; controls = controls; properties = properties'; out = out }
  -- else the rows are the Blob's, and what was written is read back
  pub rows : e.answer.number ≡ 0 → (e.controls ≡ (exit table stream controls properties').controls) × (e.properties ≡ (exit table stream controls properties').properties)
  -- the text stands in the buffer's front, and what stands after it stays
  pub written : e.answer.number ≡ 0
      → (r : Reading) × (reading_of table stream ≡ some r) × (e.answer.first ≡ length (csv_of stream r)) × (e.out ≡ csv_of stream r ++ drop e.answer.first out)
  pub read_back : e.answer.number ≡ 0
      → (r : Reading) × (reading_of table stream ≡ some r) × (fields_of (take e.answer.first e.out) ≡ some (all_fields (sheet_of stream r)))

pub record Reads (s rows out : List ℕ) (e : FieldsExit) : Type 0 where
  pub exactly : (a : Answer) → FieldsAnswer s rows out a ↔ (a ≡ e.answer)
  pub refused : Refused e.answer → e ≡ record { answer = e.answer; rows = rows; out = out }
  -- "the fields' bytes, quotes undone, end to end", and what stands after them stays
  pub end_to_end : e.answer.number ≡ 0 → (t : List Record) → s spells t → e.out ≡ concat (all_fields t) ++ drop (length (concat (all_fields t))) out
  -- each field starts where those before it end
  pub starts : e.answer.number ≡ 0 → (t : List Record) → s spells t → (i : ℕ) → i < length (all_fields t)
      → word (row_at field_width i e.rows) 0 ≡ length (concat (take i (all_fields t)))
  -- "rows beyond the count keep their old words"
  pub rows-beyond : e.answer.number ≡ 0 → drop (e.answer.second * field_width) e.rows ≡ drop (e.answer.second * field_width) rows
  pub as_long : (length e.rows ≡ length rows) × (length e.out ≡ length out)
  -- "with a start and length for each"
  pub told : e.answer.number ≡ 0 → (t : List Record) → s spells t → (i : ℕ) → i < length (all_fields t)
      → part e.out (word (row_at field_width i e.rows) 0) (word (row_at field_width i e.rows) 1) ≡ get_or (all_fields t) i []

-- of what the writer left in the buffer, lent to the reader with any room: its answer is never 14, and where there is room it is 0 with the records' fields
abbrev pub ReadAgain : Type 0
ReadAgain =
    (table stream controls properties' out rows bytes : List ℕ) → (csv_exit table stream controls properties' out).answer.number ≡ 0
    → (r : Reading) × (reading_of table stream ≡ some r)
    × (fields_exit (take (csv_exit table stream controls properties' out).answer.first (csv_exit table stream controls properties' out).out) rows bytes
    ≡ fields_by (some (all_fields (sheet_of stream r))) rows bytes)

pub record Wish7 : Type 0 where
  pub records : Records
  pub read_again : ReadAgain
  pub read_back : ReadBack
  pub accepts : Accepts
  pub last_optional : LastOptional
  pub texts : Texts
  -- "five fields in every record"
  pub fields-many : (t : List Record) → length (all_fields t) ≡ 5 * length t
  -- how long the text is
  pub written-length : (t : List Record) → length (sheet_text t) ≡ sheet_length t
  pub writes : (table stream controls properties' out : List ℕ) → Writes table stream controls properties' out (csv_exit table stream controls properties' out)
  pub reads : (s rows out : List ℕ) → Reads s rows out (fields_exit s rows out)
