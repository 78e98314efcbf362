-- Wish 7 of document 02: properties for the planners' spreadsheet, as "comma-separated text by RFC 4180, its text data widened to every byte but comma, quote,
-- CR and LF". How it is written of a reading, and how it is read back.
use Rattle.std.specs.Prelude.{ℕ, ◌+◌, min, Bool, cond, not, ◌&&◌, ◌||◌, List, [], ◌∷◌, ◌++◌, ltb, eqb, length, drop}
use Rattle.std.proofs.Math.Option.{Option, none, some}
use Rattle.rules.specs.Lists.{concat, all, text}
use Rattle.rules.specs.Bytes.{part}
use Rattle.rules.specs.Answer.{answer, refusal, no_room_for_sheet, not_asheet}
use Rattle.rules.specs.Digits.{decimal, hex}
use Rattle.rules.specs.Names.{name_in_lem, names_for}
use Rattle.rules.specs.Rows.{control_width, property_width, field_width, room, written}
use Rattle.rules.specs.Reading.{Control, Reading, control_rows, property_row, property_rows}
use Rattle.rules.specs.Blob.{Outcome, refused, read, outcome}
use Rattle.rules.specs.Listing.{word, mark_word, value_column}
use Rattle.rules.specs.Utf8.{utf8}
use Rattle.rules.specs.declared.Answer.{Answer}
use Rattle.rules.specs.declared.Property.{Property}
use Rattle.rules.specs.declared.Mode.{Mode}
use Rattle.rules.specs.declared.Mode.TheVariants.{Start, Plain, Quoted, Closing, Returned}
use Rattle.rules.specs.declared.Step.{Step}
use Rattle.rules.specs.declared.Step.TheVariants.{Pass, Put, Close, Refuse}

abbrev pub comma : ℕ
comma = 0x2C

abbrev pub quote : ℕ
quote = 0x22

abbrev pub cr : ℕ
cr = 0x0D

abbrev pub lf : ℕ
lf = 0x0A

abbrev pub crlf : List ℕ
crlf = cr ∷ lf ∷ []

-- "every byte but comma, quote, CR and LF"
unfoldable pub is_data : ℕ → Bool
is_data b = not (eqb b comma || eqb b quote || eqb b cr || eqb b lf)

-- ---- how records are written
-- "five fields in every record": `control,type,property,word,value`
pub record Record : Type 0 where
  pub control : List ℕ
  pub type : List ℕ
  pub property : List ℕ
  pub word : List ℕ
  pub value : List ℕ

abbrev pub fields : Record → List (List ℕ)
fields r = r.control ∷ r.type ∷ r.property ∷ r.word ∷ r.value ∷ []

-- the fields of records, in their order
unfoldable pub all_fields : List Record → List (List ℕ)
all_fields [] = []
all_fields (r ∷ rs) = fields r ++ all_fields rs

-- "with quotes doubled"
unfoldable pub doubled : List ℕ → List ℕ
doubled [] = []
doubled (b ∷ s) = cond (eqb b quote) (quote ∷ quote ∷ doubled s) (b ∷ doubled s)

-- "quoted where it holds a comma, quote, CR or LF"
unfoldable pub field_text : List ℕ → List ℕ
field_text f = cond (all is_data f) f (quote ∷ doubled f ++ (quote ∷ []))

-- "Each record ends with CR LF."
unfoldable pub record_text : Record → List ℕ
record_text r =
    field_text r.control ++ (comma ∷ field_text r.type ++ (comma ∷ field_text r.property ++ (comma ∷ field_text r.word ++ (comma ∷ field_text r.value
    ++ crlf))))

unfoldable pub sheet_text : List Record → List ℕ
sheet_text [] = []
sheet_text (r ∷ rs) = record_text r ++ sheet_text rs

-- ---- how long that is
unfoldable pub quotes_in : List ℕ → ℕ
quotes_in [] = 0
quotes_in (b ∷ s) = cond (eqb b quote) 1 0 + quotes_in s

unfoldable pub field_length : List ℕ → ℕ
field_length f = cond (all is_data f) (length f) (length f + quotes_in f + 2)

-- four commas, CR and LF
unfoldable pub record_length : Record → ℕ
record_length r = field_length r.control + field_length r.type + field_length r.property + field_length r.word + field_length r.value + 6

unfoldable pub sheet_length : List Record → ℕ
sheet_length [] = 0
sheet_length (r ∷ rs) = record_length r + sheet_length rs

-- ---- the records of a reading
-- "the header record `control,type,property,word,value`"
unfoldable pub header : Record
header = record { control = text "control"; type = text "type"; property = text "property"; word = text "word"; value = text "value" }

-- "property name or hex id"
unfoldable pub or_id : List ℕ → ℕ → List ℕ
or_id [] id = hex 4 id
or_id (b ∷ s) id = b ∷ s

-- "hex, two digits a byte"
unfoldable pub hex_text : List ℕ → List ℕ
hex_text [] = []
hex_text (b ∷ s) = hex 2 b ++ hex_text s

-- "value as listed"; "Text is written whole as UTF-8"; "Binary and loose values are written as hex"
unfoldable pub value_text : ℕ → ℕ → ℕ → ℕ → List ℕ → List ℕ
value_text mark low high size bytes =
    cond (ltb mark 6) (value_column mark low high size bytes)
    (cond (eqb mark 6) (utf8 bytes)
    (hex_text bytes))

-- a property's record, by the words of its row, after the two fields that tell its control
unfoldable pub property_record : List ℕ → List ℕ → List ℕ → List ℕ → Record
property_record stream control type row = record {
  control = control;
  type = type;
  property = or_id (name_in_lem (names_for (word row 1)) (word row 0)) (word row 0);
  word = mark_word (word row 1);
  value = value_text (word row 1) (word row 2) (word row 3) (word row 5) (part stream (word row 4) (word row 5));
}

unfoldable pub property_records : List ℕ → List ℕ → List ℕ → List Property → List Record
property_records stream control type [] = []
property_records stream control type (p ∷ ps) = property_record stream control type (property_row p) ∷ property_records stream control type ps

-- "control number and type code in hex": those of controls, the first of which has the number n
unfoldable pub control_records : List ℕ → ℕ → List Control → List Record
control_records stream n [] = []
control_records stream n (c ∷ cs) = property_records stream (decimal n) (hex 4 c.type) c.properties ++ control_records stream (n + 1) cs

-- "the header record .., then a record for each property"; "both empty for the object's"
unfoldable pub sheet_of : List ℕ → Reading → List Record
sheet_of stream r = header ∷ property_records stream [] [] r.own ++ control_records stream 0 r.controls

unfoldable pub csv_of : List ℕ → Reading → List ℕ
csv_of stream r = sheet_text (sheet_of stream r)

-- ---- what a caller of the writer sees
-- how much can be lent: counts, starts and lengths are numbers of 32 bits
unfoldable pub countable : ℕ → ℕ
countable room = min room 0xFFFFFFFF

pub record CsvExit : Type 0 where
  pub answer : Answer
  pub controls : List ℕ
  pub properties : List ℕ
  pub out : List ℕ

-- "13 where what is written .. doesn't fit the room lent"; it "comes after all of the Blob's refusals". A refusal writes no row and no byte
abbrev pub csv_by : List ℕ → Outcome → List ℕ → List ℕ → List ℕ → CsvExit
csv_by stream (refused a) controls properties out = record { answer = a; controls = controls; properties = properties; out = out }
csv_by stream (read r) controls properties out =
    cond (ltb (countable (length out)) (length (csv_of stream r)))
    (record { answer = refusal no_room_for_sheet; controls = controls; properties = properties; out = out })
    (record {
      answer = answer 0 (length (csv_of stream r)) 0 0;
      controls = written (control_rows r) controls;
      properties = written (property_rows r) properties;
      out = csv_of stream r ++ drop (length (csv_of stream r)) out;
    })

unfoldable pub csv_exit : List ℕ → List ℕ → List ℕ → List ℕ → List ℕ → CsvExit
csv_exit table stream controls properties out =
    csv_by stream (outcome table stream (room control_width controls) (room property_width properties)) controls properties out

-- ---- how such text is read, a byte at a time
-- `Mode` is where the reader is: at the start of a field, in one that isn't quoted, in one that is, after a quote in that one, after CR.
-- `Step` is what a byte does, and where the reader is then: it is none of a field's; it is the field's; it ends the field; it may not stand there.

-- after the field k of a record, counted from 0: a comma, but not after the fifth; CR after the fifth alone
unfoldable pub field_end : ℕ → ℕ → Step
field_end k b =
    cond (eqb b comma && ltb k 4) (Close Start (k + 1))
    (cond (eqb b cr && eqb k 4) (Close Returned 0)
    Refuse)

unfoldable pub step : Mode → ℕ → ℕ → Step
step Start k b = cond (eqb b quote) (Pass Quoted k) (cond (is_data b) (Put Plain k) (field_end k b))
step Plain k b = cond (is_data b) (Put Plain k) (field_end k b)
step Quoted k b = cond (eqb b quote) (Pass Closing k) (Put Quoted k)
step Closing k b = cond (eqb b quote) (Put Quoted k) (field_end k b)
step Returned k b = cond (eqb b lf) (Pass Start 0) Refuse

abbrev pub Fields : Type 0
Fields = List (List ℕ)

-- one more field, with nothing in it yet
abbrev pub new_field : Option Fields → Option Fields
new_field none = none
new_field (some fs) = some ([] ∷ fs)

-- a byte before what the field still holds
abbrev pub with_byte : ℕ → Option Fields → Option Fields
with_byte b none = none
with_byte b (some []) = none
with_byte b (some (f ∷ fs)) = some ((b ∷ f) ∷ fs)

-- the text may end after a fifth field; and after CR LF, "the last CR LF optional"
unfoldable pub at_end : Mode → ℕ → Option Fields
at_end Start k = cond (eqb k 0) (some []) (cond (eqb k 4) (some ([] ∷ [])) none)
at_end Plain k = cond (eqb k 4) (some ([] ∷ [])) none
at_end Quoted k = none
at_end Closing k = cond (eqb k 4) (some ([] ∷ [])) none
at_end Returned k = none

abbrev pub after : Step → ℕ → (Mode → ℕ → Option Fields) → Option Fields
after (Pass p k) b rest = rest p k
after (Put p k) b rest = with_byte b (rest p k)
after (Close p k) b rest = new_field (rest p k)
after Refuse b rest = none

-- the fields from here on, the first of them what is left of the one that the reader is in
unfoldable pub read_from : Mode → ℕ → List ℕ → Option Fields
read_from p k [] = at_end p k
read_from p k (b ∷ s) = after (step p k b) b (λ q j. read_from q j s)

-- the fields of a text, where it is of that grammar. No byte at all is no record
unfoldable pub fields_of : List ℕ → Option Fields
fields_of [] = none
fields_of (b ∷ s) = read_from Start 0 (b ∷ s)

-- ---- what a caller of the reader sees
-- "the fields' bytes, quotes undone, end to end, with a start and length for each"
unfoldable pub spans_from : ℕ → Fields → List (List ℕ)
spans_from at [] = []
spans_from at (f ∷ fs) = (at ∷ length f ∷ []) ∷ spans_from (at + length f) fs

pub record FieldsExit : Type 0 where
  pub answer : Answer
  pub rows : List ℕ
  pub out : List ℕ

-- "13 where what is .. read doesn't fit the room lent, 14 where text read isn't of that grammar; 13 comes .. after 14"; "its second count is the fields"
abbrev pub fields_by : Option Fields → List ℕ → List ℕ → FieldsExit
fields_by none rows out = record { answer = refusal not_asheet; rows = rows; out = out }
fields_by (some fs) rows out =
    cond (ltb (countable (length out)) (length (concat fs)) || ltb (countable (room field_width rows)) (length fs))
    (record { answer = refusal no_room_for_sheet; rows = rows; out = out })
    (record {
      answer = answer 0 (length (concat fs)) (length fs) 0;
      rows = written (spans_from 0 fs) rows;
      out = concat fs ++ drop (length (concat fs)) out;
    })

unfoldable pub fields_exit : List ℕ → List ℕ → List ℕ → FieldsExit
fields_exit s rows out = fields_by (fields_of s) rows out
