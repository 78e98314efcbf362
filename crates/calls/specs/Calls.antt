-- What is promised of the public functions themselves: of every call.
-- How to read it. `Every f (λ a seen. ..)` says of every call of f, whatever it is handed: it asks nothing of its caller, is safe, ends, and the dots
-- hold. `a` is what it was handed, by name and as it was at entry (`a.stream`); `seen` is all that a caller sees of it: what it returned, and the slices
-- that it may write at exit. `OneResult` says that its contract allows one result only, to the last word. Functions.antt has the names.
-- A call is one of the function's code: the routine that its name stands for, on the logic's machine, wherever that code is linked. That the compiler keeps to
-- it is believed.
-- Each promise stands once. It holds of the functions of the crates (`crates`) and of those of `oskuramos` (`exported`), to which the archive's only hand on.
use Rattle.std.specs.Prelude.{ℕ, ◌≤◌, ◌<◌, ◌≡◌, true, false, ◌↔◌, length, take, drop, get_or}
use mathlib.Core.List.{List, ◌++◌, map, Memᴰ}
use Rattle.std.proofs.Math.Option.{some}
use Rattle.std.specs.Float.{binary32, binary64}
use Rattle.std.specs.Float.Ieee.{of_bits}
use Rattle.rules.specs.Lists.{◌>>=◌, concat}
use Rattle.rules.specs.Bytes.{Bytes}
use Rattle.rules.specs.Answer.{answer}
use Rattle.rules.specs.Utf16.{is_utf16_lem}
use Rattle.rules.specs.Value.{integer_value_lem, entry_value_lem, stored_value_lem, value_as_lem, widened}
use Rattle.rules.specs.Rows.{control_width, property_width, room, written}
use Rattle.rules.specs.Reading.{Reading}
use Rattle.rules.specs.Texts.{TextExit, guid_exit, label_exit}
use Rattle.rules.specs.NameTables.{Table as NameTable, text_names, number_names, bytes_names, control_type_names}
use Rattle.rules.specs.Names.{names_for, name_exit}
use Rattle.rules.specs.TypeInfo.{TypeInfoExit, type_info_exit}
use Rattle.rules.specs.CodeTable.{layout, well_formed_lem}
use Rattle.rules.specs.Join.{join_exit, result}
use Rattle.rules.specs.Rewrite.{rewrite_exit}
use Rattle.rules.specs.NamePart.{Part, name_part, part_bytes_lem}
use Rattle.rules.specs.Pairing.{PairExit, pair_exit}
use Rattle.rules.specs.Csv.{crlf, Fields, all_fields, sheet_of, spans_from, CsvExit, csv_exit, FieldsExit, fields_exit}
use Rattle.rules.specs.Room.{room2000, room_later_lem, room_for, type_info_room_lem}
use Rattle.rules.specs.Blob.{Exit, is2000, reading_of, exit, exit2000, exit_later, spots}
use Rattle.rules.specs.Panel.{panel_exit}
use Rattle.rules.specs.Tree.{Entries, Node, nodes_of}
use Rattle.rules.specs.Access2000.{Prop, stream_of}
use Rattle.rules.specs.Read2000.{control_of}
use Rattle.rules.specs.declared.Answer.{Answer}
use Rattle.rules.specs.Told.{told}
use Rattle.numbers.specs.Wide.{words_of, bits_of}
use Rattle.blob.specs.Exit.{part_place}
use Rattle.oskuramos.specs.Handed.{handed_part}
use Rattle.claims.specs.Answers.{GuidAnswer, LabelAnswer, NameAnswer}
use Rattle.claims.specs.Demand1.{Refused, Blobs, TypeInfos, Texts}
use Rattle.claims.specs.Demand2.{Given, Enough, Spelled, Judges}
use Rattle.claims.specs.Demand3.{Successor, Lent, SameRoom, SameBut, Same}
use Rattle.claims.specs.Readers.{Answer2000, AnswerLater, Reads, Agree}
use Rattle.claims.specs.Joining.{Table, Roomy, JoinAnswer, Together, Gains}
use Rattle.claims.specs.Grammar.{Stream, ◌spells◌}
use Rattle.claims.specs.Stored.{stored_of, spot_says}
use Rattle.claims.specs.LaterTree as later
use Rattle.claims.specs.Counts.{Counts, InfoCounts}
use Rattle.claims.specs.CutNames.{CutNames}
use Rattle.claims.specs.Pairing.{Pairs}
use Rattle.claims.specs.Spreadsheet as csv
use Rattle.claims.specs.Panels.{shown_properties, IsBox, OneText, Verdict, controls_of, Sourced, Lacks, NoSource}
use Rattle.claims.specs.Panels as panel
use Rattle.claims.specs.Rooms as rooms
use Rattle.claims.specs.Rewriting.{RewriteAnswer, SameRows, Rewrites}
use Rattle.claims.specs.ScanNames.{ScanNamed}
use Rattle.claims.specs.RowChecks.{control_type, first_row, property_count, Checks, SeenItems}
use Rattle.claims.specs.Nesting.{Nested, Lists2000, ListsLater}
use Rattle.claims.specs.Characters.{Formed}
use Rattle.calls.specs.Always.{Always, OneResult, Fn, Every, Gives, Call, handed, seen}
use Rattle.calls.specs.JoiningCalls.{PlansCarried}
use Rattle.calls.specs.DifferingCalls.{ListDifferences, DifferencesRead}
use Rattle.calls.specs.CountCalls.{CountBlob, CountsAgree}
use Rattle.calls.specs.Functions.{
  Blob,
  Later,
  TypeInfo,
  Pair,
  Sheet,
  BlobText,
  Guid,
  Label,
  NameOf,
  ValueName,
  Join,
  Rewrite,
  ControlName,
  Interface,
  crates,
  exported,
  control_name_in,
  control_name_part,
  integer-value,
  widen,
}

-- ---- read_blob(table, stream, controls, properties)
-- the two slices that a call was lent
abbrev pub lent : Blob → Lent
lent a = record { controls = a.controls; properties = a.properties }

-- of two calls: the newer table is a successor of the older, over the same stream and room, whatever stood in it
pub record TwoTables (older newer : Blob) : Type 0 where
  pub successor : Successor older.table newer.table
  pub same_stream : older.stream ≡ newer.stream
  pub same_room : SameRoom (lent older) (lent newer)

-- what such calls show: "both give the same answer number, controls, names and property count, and on answer 0 a property differs exactly where .."
abbrev pub TwoShow : {f : Fn Blob Exit} → Call f → Call f → Type 0
TwoShow older newer = SameBut (handed older).table (handed newer).table (handed older).stream (lent (handed older)) (lent (handed newer)) (seen older) (seen newer)

pub record ReadBlob (f : Fn Blob Exit) : Type 2 where
  -- what the code does is what its contract allows, so what is said of any two calls that it allows is said of the code's
  pub met : Always f.function f.function.says
  -- what is seen is what the definition says: the answer with its counts, and every word of both slices
  pub is_exit : Every f (λ a seen. seen ≡ exit a.table a.stream a.controls a.properties)
  -- a stream that is lent is a list of bytes: so no line here asks it, and what Demand2, LaterTree and RowChecks say of lists of bytes holds of it
  pub bytes : Every f (λ a seen. Bytes a.stream)
  -- "Every stream, code table and buffer length gets an answer. Bad input is refused by number, nothing is asked of the caller beforehand, and a
  -- refused call changes no byte of any buffer."
  pub demand1 : Every f (λ a seen. Blobs a.table a.stream a.controls a.properties seen)
  -- "With a well-formed code table and room enough, an Access 2000 stream is accepted exactly when its bytes from offset 10 are one property run and
  -- then one entry list, nothing left over, no entry deeper than level 255."
  pub demand2 : Every f (λ a seen.
      Given a.table a.stream → Enough a.stream (room control_width a.controls) (room property_width a.properties)
      → (seen.answer.number ≡ 0) ↔ Spelled a.stream)
  -- and for any room: 4 exactly when the bytes spell nothing, one of 0, 6 and 7 when they spell something, with its counts
  pub demand2_judges : Every f (λ a seen. Given a.table a.stream → Judges a.table a.stream seen.answer)
  -- "over the same Access 2000 stream and room both give the same answer number, controls, names and property count, and on answer 0 a property
  -- differs exactly where .." Of any two calls that the contract allows
  pub demand3 : (older newer : Call f) → TwoTables (handed older) (handed newer)
      → is2000 (handed older).table (handed older).stream ≡ true
      → TwoShow older newer
  -- over any other stream the two tables say the very same
  pub demand3_later : (older newer : Call f) → TwoTables (handed older) (handed newer)
      → ¬ (is2000 (handed older).table (handed older).stream ≡ true)
      → Same (lent (handed older)) (lent (handed newer)) (seen older) (seen newer)
  -- "counts are those of the reading", and so are the rows
  pub counts : Every f (λ a seen. Counts a.table a.stream a.controls a.properties seen)
  -- what is seen of a later stream: its tree, or the scan
  pub later_judges : Every f (λ a seen. later.Given a.table a.stream → later.Judges a.stream a.controls a.properties seen)
  -- every control of a scanned stream has a Text name first (wish 10)
  pub scan-named : Every f (λ a seen. later.Given a.table a.stream → ScanNamed a.stream seen)
  -- what a caller can check of the rows
  pub row-checks : Every f (λ a seen. seen.answer.number ≡ 0 → Checks a.table a.stream seen)
  -- the stored properties that these speak of (and demand 3) are those that the bytes of an Access 2000 stream spell, each in its scope
  pub stored : Every f (λ a seen. (t : Stream) → drop 10 a.stream spells t → map (spot_says a.stream) (spots a.stream) ≡ stored_of a.stream t)
  -- and so are the controls
  pub items : Every f (λ a seen.
      Given a.table a.stream → (t : Stream) → drop 10 a.stream spells t → seen.answer.number ≡ 0
      → SeenItems a.table a.stream a.controls a.properties t seen)
  -- wish 1 (Nesting): levels and parents; and how many rows each list takes, by what the bytes spell. Scanned controls are at level 0
  pub nested : Every f (λ a seen. seen.answer.number ≡ 0 → Nested seen)
  pub lists_2000 : Every f (λ a seen. is2000 a.table a.stream ≡ true → seen.answer.number ≡ 0 → Lists2000 a.stream seen)
  pub lists-later : Every f (λ a seen. is2000 a.table a.stream ≡ false → seen.answer.number ≡ 0 → ListsLater a.stream seen)
  -- wish 5 (Characters): the names and texts whose characters a listing counts are well-formed UTF-16
  pub formed : Every f (λ a seen. seen.answer.number ≡ 0 → Formed a.stream seen)
  -- wish 14 (Rooms): "For every stream with answer 0, C controls and P property rows .."
  pub bounds : Every f (λ a seen. rooms.Bounds a.table a.stream a.controls a.properties seen)
  -- "So room computed from the length alone never brings 6 or 7."
  pub room-enough : Every f (λ a seen. rooms.Enough a.table a.stream a.controls a.properties seen)
  -- "any two results it allows are proved equal"
  pub one_result : OneResult f.function
  -- wherever the slices stand: the words alone tell what is seen; and the contract allows a call of any words, so that what is said of two calls isn't idle
  pub by_words : (c d : Call f) → handed c ≡ handed d → seen c ≡ seen d
  pub allows : (a : Blob) → (c : Call f) × (handed c ≡ a)

-- ---- a reader for each layout: wish 8 (Readers)
-- read_2000(table, stream, controls, properties)
pub record Read2000 (f : Fn Blob Exit) : Type 2 where
  pub met : Always f.function f.function.says
  pub is_exit : Every f (λ a seen. seen ≡ exit2000 a.table a.stream a.controls a.properties)
  pub bytes : Every f (λ a seen. Bytes a.stream)
  -- "15 where the first byte speaks for the other layout .., after 5 and 8", then 4, 6 and 7; a refusal writes nothing
  pub demand1 : Every f (λ a seen. Reads (Answer2000 a.table a.stream a.controls a.properties) a.controls a.properties seen)
  -- demand 2, as of read_blob
  pub demand2 : Every f (λ a seen.
      Given a.table a.stream → Enough a.stream (room control_width a.controls) (room property_width a.properties)
      → (seen.answer.number ≡ 0) ↔ Spelled a.stream)
  pub demand2_judges : Every f (λ a seen. Given a.table a.stream → Judges a.table a.stream seen.answer)
  -- "Demand 3 then speaks of the Access 2000 reader.": whatever the first byte is
  pub demand3 : (older newer : Call f) → TwoTables (handed older) (handed newer) → TwoShow older newer
  -- wish 1, as of read_blob
  pub nested : Every f (λ a seen. seen.answer.number ≡ 0 → Nested seen × Lists2000 a.stream seen)
  pub one_result : OneResult f.function
  pub by_words : (c d : Call f) → handed c ≡ handed d → seen c ≡ seen d
  pub allows : (a : Blob) → (c : Call f) × (handed c ≡ a)

-- read_later(layout, stream, controls, properties)
pub record ReadLater (f : Fn Later Exit) : Type 2 where
  pub met : Always f.function f.function.says
  pub is_exit : Every f (λ a seen. seen ≡ exit_later a.layout a.stream a.controls a.properties)
  pub bytes : Every f (λ a seen. Bytes a.stream)
  pub demand1 : Every f (λ a seen. Reads (AnswerLater a.layout a.stream a.controls a.properties) a.controls a.properties seen)
  -- "the later reader is told the layout byte as a number and never answers 8"
  pub never_8 : Every f (λ a seen. ¬ (seen.answer.number ≡ 8))
  -- nor 15, where the number is no byte
  pub above_255 : Every f (λ a seen. 256 ≤ a.layout → ¬ (seen.answer.number ≡ 15))
  -- wish 1, as of read_blob
  pub nested : Every f (λ a seen. seen.answer.number ≡ 0 → Nested seen × ListsLater a.stream seen)
  pub one_result : OneResult f.function
  pub by_words : (c d : Call f) → handed c ≡ handed d → seen c ≡ seen d
  pub allows : (a : Later) → (c : Call f) × (handed c ≡ a)

-- what the later reader is handed in the place of a code table: its layout byte
abbrev pub told_layout : Blob → Later
told_layout a = record { layout = layout a.table; stream = a.stream; controls = a.controls; properties = a.properties }

-- the choice gives what the reader of the layout spoken for gives, and the other one gives 15. Of any three calls over the same table, stream and slices
abbrev pub ReadersAgree : Fn Blob Exit → Fn Blob Exit → Fn Later Exit → Type 0
ReadersAgree choice of_2000 of_later =
    (c : Call choice) (d : Call of_2000) (e : Call of_later) → handed d ≡ handed c → handed e ≡ told_layout (handed c)
    → Agree (handed c).table (handed c).stream (handed c).controls (handed c).properties (seen c) (seen d) (seen e)

-- ---- read_type_info(stream, rows): the same of TypeInfo
pub record ReadTypeInfo (f : Fn TypeInfo TypeInfoExit) : Type 2 where
  pub is_exit : Every f (λ a seen. seen ≡ type_info_exit a.stream a.rows)
  pub demand1 : Every f (λ a seen. TypeInfos a.stream a.rows seen)
  pub counts : Every f (λ a seen. InfoCounts a.stream a.rows seen)
  -- wish 6: which names were cut
  pub cut-names : Every f (λ a seen. CutNames a.stream seen)
  -- wish 14 of TypeInfo
  pub room-enough : Every f (λ a seen. rooms.EnoughInfos a.stream a.rows seen)
  pub one_result : OneResult f.function

-- ---- pair(stream, controls, control_count, info_stream, infos, info_count): wish 2 (Pairing)
-- of two calls: the second pairs the rows that the first left
pub record Anew (before after : Pair) (left : PairExit) : Type 0 where
  pub same_stream : after.stream ≡ before.stream
  pub left_rows : after.controls ≡ left.controls
  pub same_count : after.control_count ≡ before.control_count
  pub same_info_stream : after.info_stream ≡ before.info_stream
  pub same_infos : after.infos ≡ before.infos
  pub same_info_count : after.info_count ≡ before.info_count

pub record PairRows (f : Fn Pair PairExit) : Type 2 where
  -- what is seen is what the definition says: the answer, and every word of the control rows
  pub is_exit : Every f (λ a seen. seen ≡ pair_exit a.stream a.controls a.control_count a.info_stream a.infos a.info_count)
  -- 11 exactly when the wish says, and then nothing is written; else the types of the rows counted, and all other words stay
  pub pairs : Every f (λ a seen. Pairs a.stream a.controls a.control_count a.info_stream a.infos a.info_count seen)
  -- to pair again changes nothing more. Of any two calls that the contract allows
  pub again : (c d : Call f) → Anew (handed c) (handed d) (seen c) → seen d ≡ seen c
  pub one_result : OneResult f.function
  -- the contract allows a call of any words, so that what is said of two calls isn't idle
  pub allows : (a : Pair) → (c : Call f) × (handed c ≡ a)

-- of three calls: the rows paired are those that a Blob's reader and TypeInfo's gave for these streams, with their counts
pub record RowsOf (stream : List ℕ) (blob : Exit) (info_stream : List ℕ) (info : TypeInfoExit) (a : Pair) : Type 0 where
  pub its_stream : a.stream ≡ stream
  pub its_controls : a.controls ≡ blob.controls
  pub its-count : a.control_count ≡ blob.answer.first
  pub its_info_stream : a.info_stream ≡ info_stream
  pub its_infos : a.infos ≡ info.rows
  pub its_info_count : a.info_count ≡ info.answer.first

-- where both read, such a call is never refused
abbrev pub NeverRefused : {A : Type 0} → Fn A Exit → (A → List ℕ) → Fn TypeInfo TypeInfoExit → Fn Pair PairExit → Type 0
NeverRefused reader stream-of read-info pair =
    (c : Call reader) (d : Call read-info) (e : Call pair) → (seen c).answer.number ≡ 0 → (seen d).answer.number ≡ 0
    → RowsOf (stream-of (handed c)) (seen c) (handed d).stream (seen d) (handed e) → (seen e).answer.number ≡ 0

-- ---- read_csv(text, fields, out): wish 7 (Spreadsheet)
-- of two calls: the second is lent the same text with CR LF after it, and the same room
pub record OneLineMore (shorter longer : Sheet) : Type 0 where
  pub with_line : longer.text ≡ shorter.text ++ crlf
  pub same_fields : longer.fields ≡ shorter.fields
  pub same_out : longer.out ≡ shorter.out

pub record ReadCsv (f : Fn Sheet FieldsExit) : Type 2 where
  -- what is seen is what the definition says: the answer, and every word and byte of both slices
  pub is_exit : Every f (λ a seen. seen ≡ fields_exit a.text a.fields a.out)
  -- 14 and 13 exactly when the wish says, and then nothing is written; else the fields that are spelled, end to end, with a start and length for each
  pub reads : Every f (λ a seen. csv.Reads a.text a.fields a.out seen)
  -- "the last CR LF optional": unless the longer text isn't of the grammar, both calls give the same
  pub last_optional : (c d : Call f) → OneLineMore (handed c) (handed d) → ¬ ((seen d).answer.number ≡ 14) → seen c ≡ seen d
  -- and so where the shorter one is of the grammar and doesn't end with CR LF already
  pub one_more : (c d : Call f) → OneLineMore (handed c) (handed d) → ¬ ((seen c).answer.number ≡ 14)
      → ((u : List ℕ) → ¬ ((handed c).text ≡ u ++ crlf)) → seen d ≡ seen c
  pub one_result : OneResult f.function
  -- the contract allows a call of any words, so that what is said of two calls isn't idle
  pub allows : (a : Sheet) → (c : Call f) × (handed c ≡ a)

-- ---- write_csv(table, stream, controls, properties, out): wish 7 (Spreadsheet)
pub record WriteCsv (f : Fn BlobText CsvExit) : Type 2 where
  -- what is seen is what the definition says: the answer, and every word and byte of the three slices
  pub is_exit : Every f (λ a seen. seen ≡ csv_exit a.table a.stream a.controls a.properties a.out)
  -- the Blob's refusals, then 13, exactly when the wish says, and then no row and no byte is written; else the Blob's rows, and its text
  pub writes : Every f (λ a seen. csv.Writes a.table a.stream a.controls a.properties a.out seen)
  pub one_result : OneResult f.function
  pub allows : (a : BlobText) → (c : Call f) × (handed c ≡ a)

-- the rows and the text are those of the reader of Blobs: the same table, stream and rows lent, and a writer that answered 0
pub record SameBlob (a : Blob) (b : BlobText) : Type 0 where
  pub same_table : b.table ≡ a.table
  pub same_stream : b.stream ≡ a.stream
  pub same-controls : b.controls ≡ a.controls
  pub same-properties : b.properties ≡ a.properties

abbrev pub WrittenRows : Fn Blob Exit → Fn BlobText CsvExit → Type 0
WrittenRows reader writer =
    (c : Call reader) (d : Call writer) → SameBlob (handed c) (handed d) → (seen d).answer.number ≡ 0
    → ((seen d).controls ≡ (seen c).controls) × ((seen d).properties ≡ (seen c).properties)

-- "reading back what was written gives the same fields in the same order": the reader is lent what a writer that answered 0 has written. It never answers
-- 14; where it answers 0, its fields are those of the Blob's records
pub record ReadsBack (text : CsvExit) (a : Sheet) : Type 0 where
  pub wrote : text.answer.number ≡ 0
  pub lent : a.text ≡ take text.answer.first text.out

-- never 14; and on 0 the bytes of these fields end to end, with their starts and lengths
pub record GivesBack (fs : Fields) (a : Sheet) (e : FieldsExit) : Type 0 where
  pub of_the_grammar : ¬ (e.answer.number ≡ 14)
  pub bytes : e.answer.number ≡ 0 → take e.answer.first e.out ≡ concat fs
  pub rows : e.answer.number ≡ 0 → e.rows ≡ written (spans_from 0 fs) a.fields

abbrev pub WrittenReadBack : Fn BlobText CsvExit → Fn Sheet FieldsExit → Type 0
WrittenReadBack writer reader =
    (c : Call writer) (d : Call reader) → ReadsBack (seen c) (handed d)
    → (r : Reading) × (reading_of (handed c).table (handed c).stream ≡ some r) × GivesBack (all_fields (sheet_of (handed c).stream r)) (handed d) (seen d)

-- ---- guid_text(guid, out): `guid_exit` says which bytes are written, and that those behind them stay
pub record GuidText (f : Fn Guid TextExit) : Type 2 where
  pub is_exit : Every f (λ a seen. seen ≡ guid_exit a.guid a.out)
  pub demand1 : Every f (λ a seen. Texts (GuidAnswer a.guid a.out) a.out seen)
  pub one_result : OneResult f.function

-- ---- label_text(n, out): so does `label_exit`
pub record LabelText (f : Fn Label TextExit) : Type 2 where
  pub is_exit : Every f (λ a seen. seen ≡ label_exit a.n a.out)
  pub demand1 : Every f (λ a seen. Texts (LabelAnswer a.n a.out) a.out seen)
  pub one_result : OneResult f.function

-- ---- text_name(id, out) and the like, value_name(mark, id, out): "Every name handed out stays the same". The bytes are those of the definition's table
pub record NameWritten (A : Type 0) (f : Fn A TextExit) (table : A → NameTable) (id : A → ℕ) (out : A → List ℕ) : Type 2 where
  pub is_exit : Every f (λ a seen. seen ≡ name_exit (table a) (id a) (out a))
  pub demand1 : Every f (λ a seen. Texts (NameAnswer (table a) (id a) (out a)) (out a) seen)
  pub one_result : OneResult f.function

-- ---- join(one, other, out): wishes 9 and 12 (Joining)
-- of two calls: the same two tables, in the other order
pub record Turned (a b : Join) : Type 0 where
  pub first : a.one ≡ b.other
  pub second : a.other ≡ b.one

-- a call that joins these two, with room
pub record Of (f : Fn Join TextExit) (one other : List ℕ) (c : Call f) : Type 0 where
  pub first : (handed c).one ≡ one
  pub second : (handed c).other ≡ other
  pub room : Roomy (handed c).out

pub record JoinTables (f : Fn Join TextExit) : Type 2 where
  -- what is seen is what the definition says: the answer, and every byte of the buffer
  pub is_exit : Every f (λ a seen. seen ≡ join_exit a.one a.other a.out)
  -- "Refusals: 8 ..; 16 ..; 17 ..; 18 ..; 9 ..; in that order"; a refusal writes nothing
  pub demand1 : Every f (λ a seen. Texts (JoinAnswer a.one a.other a.out) a.out seen)
  -- tables that are lent are lists of bytes
  pub bytes : Every f (λ a seen. Bytes a.one × Bytes a.other)
  -- "the result holds every scope and row of either, in the order of document 01"
  pub together : Every f (λ a seen. (t : List ℕ) → result seen ≡ some t → Together a.one a.other t)
  -- "writes nothing else": the bytes behind stay
  pub behind : Every f (λ a seen. (t : List ℕ) → result seen ≡ some t → seen.out ≡ t ++ drop (length t) a.out)
  -- "Two offices learn codes separately": what each gains by joining, over any stream and room
  pub first_gains : Every f (λ a seen. (t s : List ℕ) (lent lent' : Lent) → result seen ≡ some t → SameRoom lent lent' → Gains a.one a.other t s lent lent')
  pub second_gains : Every f (λ a seen. (t s : List ℕ) (lent lent' : Lent) → result seen ≡ some t → SameRoom lent lent' → Gains a.other a.one t s lent lent')
  -- "joining a table with itself gives it back"
  pub with_itself : Every f (λ a seen. a.one ≡ a.other → well_formed_lem a.one ≡ true → Roomy a.out → result seen ≡ some a.one)
  -- "the two orders of a pair give the same bytes or are both refused". Of any two calls that the contract allows
  pub two_orders : (c d : Call f) → Turned (handed c) (handed d) → Table (handed c).one → Table (handed c).other → Roomy (handed c).out → Roomy (handed d).out
      → result (seen c) ≡ result (seen d)
  -- "the two groupings of three are both joined with the same bytes, or both refused, the number possibly another": a and b, then the third; b and c, then
  -- the first. The second call of each joins whatever table the first one gave
  pub two_groupings : (a b c : List ℕ) → Table a → Table b → Table c → (ab bc : Call f) → Of f a b ab → Of f b c bc
      → (ab-c a-bc : List ℕ → Call f) → ((t : List ℕ) → Of f t c (ab-c t)) → ((t : List ℕ) → Of f a t (a-bc t))
      → (result (seen ab) >>= λ t. result (seen (ab-c t))) ≡ (result (seen bc) >>= λ t. result (seen (a-bc t)))
  -- more than asked: into buffers that hold the same, of any length, all that is seen is the same
  pub same-exit : (c d : Call f) → Turned (handed c) (handed d) → (handed c).out ≡ (handed d).out → seen c ≡ seen d
  -- "With four offices we can't tell them in which order to join": any number of tables
  pub plans : PlansCarried f
  -- "room for 65,100 bytes" is enough
  pub room-enough : Every f (λ a seen. Roomy a.out → ¬ (seen.answer.number ≡ 9))
  pub one_result : OneResult f.function
  -- the contract allows a call of any words, so that what is said of two calls isn't idle
  pub allows : (a : Join) → (c : Call f) × (handed c ≡ a)

-- ---- rewrite(stream, out): wish 13 (Rewriting)
pub record RewriteStream (f : Fn Rewrite TextExit) : Type 2 where
  pub met : Always f.function f.function.says
  -- what is seen is what the definition says: the answer, and every byte of the buffer
  pub is_exit : Every f (λ a seen. seen ≡ rewrite_exit a.stream a.out)
  pub bytes : Every f (λ a seen. Bytes a.stream)
  -- "Refusals: 5, 4, then 9."; a refusal writes nothing
  pub demand1 : Every f (λ a seen. Texts (RewriteAnswer a.stream a.out) a.out seen)
  pub refused : Every f (λ a seen. length a.stream ≤ 16777216 → (seen.answer.number ≡ 4) ↔ (¬ Spelled a.stream))
  -- "the rewritten stream is accepted; .. the same rows ..; never longer ..; rewriting it again changes nothing; and no accepted stream .. is shorter"
  pub rewrites : Every f (λ a seen. (r : List ℕ) → result seen ≡ some r → Rewrites a.stream r)
  -- bytes beyond stay
  pub beyond : Every f (λ a seen. (r : List ℕ) → result seen ≡ some r → seen.out ≡ r ++ drop (length r) a.out)
  -- a buffer as long as the stream is enough
  pub room-enough : Every f (λ a seen. length a.stream ≤ length a.out → ¬ (seen.answer.number ≡ 9))
  -- "One spelling". Of any two calls that the contract allows
  pub one_spelling : (c d : Call f) (t : Stream) → take 10 (handed c).stream ≡ take 10 (handed d).stream → drop 10 (handed c).stream spells t → drop 10 (handed d).stream spells t
      → (r r' : List ℕ) → result (seen c) ≡ some r → result (seen d) ≡ some r' → r ≡ r'
  pub one_result : OneResult f.function
  pub allows : (a : Rewrite) → (c : Call f) × (handed c ≡ a)

-- of two calls of a reader: a stream s, and its rewritten stream r, under one table that speaks for s and in the same room
pub record Both (s r : List ℕ) (a b : Blob) : Type 0 where
  pub of_s : a.stream ≡ s
  pub of_r : b.stream ≡ r
  pub same_table : a.table ≡ b.table
  pub same_room : SameRoom (lent a) (lent b)
  pub given : Given a.table s

-- they show the same rows but for starts. (`rewrites` above gives `Rewrites` of what a call rewrote)
abbrev pub RewrittenRead : Fn Blob Exit → Type 0
RewrittenRead reader = (s r : List ℕ) → Rewrites s r → (c d : Call reader) → Both s r (handed c) (handed d) → SameRows s r (seen c) (seen d)

-- ---- check_panel(table, stream, controls, properties): wish 11 (Panels)
-- the reading that is made in the call
abbrev pub read_for : Blob → Exit
read_for a = exit a.table a.stream a.controls a.properties

pub record CheckPanel (f : Fn Blob Exit) : Type 2 where
  pub met : Always f.function f.function.says
  pub is_exit : Every f (λ a seen. seen ≡ panel_exit a.table a.stream a.controls a.properties)
  -- a refused call changes no byte of any buffer
  pub unchanged : Every f (λ a seen. Refused seen.answer → (seen.controls ≡ a.controls) × (seen.properties ≡ a.properties))
  -- on yes every TextBox or ComboBox has its one source, and that is text (the rows are those of read_blob: `PanelReads`)
  pub filled : Every f (λ a seen. seen.answer ≡ answer 0 1 0 0 → (i : ℕ) → i < (read_for a).answer.first
      → IsBox (control_type (read_for a) i) → OneText (shown_properties (read_for a) (first_row (read_for a) i) (property_count (read_for a) i)))
  -- in an Access 2000 stream the code table has its code
  pub sourced : Every f (λ a seen. seen.answer ≡ answer 0 1 0 0 → (x : List Prop × Entries Prop) → is2000 a.table a.stream ≡ true → stream_of a.stream ≡ some x
      → (n : Node Prop) → Memᴰ n (nodes_of x.1) → IsBox (control_of a.table a.stream n).type → Sourced a.table a.stream n)
  -- and a table that lacks it answers no with rule 4. Of any two calls that the contract allows, over the same stream and room, whatever stood in it
  pub older-no : (older newer : Call f) → TwoTables (handed older) (handed newer) → (seen newer).answer ≡ answer 0 1 0 0
      → (x : List Prop × Entries Prop) → is2000 (handed newer).table (handed older).stream ≡ true → stream_of (handed older).stream ≡ some x
      → (k : ℕ) (n : Node Prop) → k < length (nodes_of x.1) → ((d : Node Prop) → get_or (nodes_of x.1) k d ≡ n)
      → IsBox (control_of (handed newer).table (handed older).stream n).type → (q : Sourced (handed newer).table (handed older).stream n) → Lacks (handed older).table n q.stored
      → NoSource k (seen older).answer
  -- the verdict is a function of the rows and of the bytes that they name, whatever the tables, the streams and the room. Of any two calls
  pub by_rows : (c d : Call f) → (read_for (handed c)).answer.number ≡ 0 → panel.SameRows (handed c).stream (handed d).stream (read_for (handed c)) (read_for (handed d))
      → (seen c).answer ≡ (seen d).answer
  pub one_result : OneResult f.function
  pub by_words : (c d : Call f) → handed c ≡ handed d → seen c ≡ seen d
  pub allows : (a : Blob) → (c : Call f) × (handed c ≡ a)

-- of two calls with the same words: what the reader refuses is refused alike, the rows are the reader's, and the verdict is on what these show
pub record OnReading (stream : List ℕ) (read checked : Exit) : Type 0 where
  pub refused : Refused read.answer → checked ≡ read
  pub accepted : read.answer.number ≡ 0 → checked.answer.number ≡ 0
  pub rows : (checked.controls ≡ read.controls) × (checked.properties ≡ read.properties)
  pub judged : read.answer.number ≡ 0 → (v : Answer) → Verdict stream (controls_of read read.answer.first) v ↔ (v ≡ checked.answer)

abbrev pub PanelReads : Fn Blob Exit → Fn Blob Exit → Type 0
PanelReads reader f = (c : Call reader) (d : Call f) → handed c ≡ handed d → OnReading (handed d).stream (seen c) (seen d)

-- ---- the functions that both the crates and the archive have. `Gives f d` says that every call of f gives what d says, and that the contract allows nothing else
pub record Promised (i : Interface) : Type 2 where
  pub read_blob : ReadBlob i.read_blob
  pub read_2000 : Read2000 i.read_2000
  pub read_later : ReadLater i.read_later
  pub readers_agree : ReadersAgree i.read_blob i.read_2000 i.read_later
  pub read_type_info : ReadTypeInfo i.read_type_info
  pub pair : PairRows i.pair
  pub never_refused : NeverRefused i.read_blob (λ a. a.stream) i.read_type_info i.pair
  pub never_refused_later : NeverRefused i.read_later (λ a. a.stream) i.read_type_info i.pair
  pub never_refused_2000 : NeverRefused i.read_2000 (λ a. a.stream) i.read_type_info i.pair
  pub read_csv : ReadCsv i.read_csv
  pub write_csv : WriteCsv i.write_csv
  pub written_rows : WrittenRows i.read_blob i.write_csv
  pub written_read_back : WrittenReadBack i.write_csv i.read_csv
  pub check_panel : CheckPanel i.check_panel
  pub panel_reads : PanelReads i.read_blob i.check_panel
  -- what a newer table changes (DifferingCalls)
  pub differences : ListDifferences i.differences
  pub differences_read : DifferencesRead i.read_blob i.differences
  -- wish 4 (CountCalls)
  pub count_blob : CountBlob i.count_blob
  pub counts_agree : CountsAgree i.read_blob i.count_blob
  pub guid_text : GuidText i.guid_text
  pub label_text : LabelText i.label_text
  pub join : JoinTables i.join
  pub rewrite : RewriteStream i.rewrite
  pub rewritten_2000 : RewrittenRead i.read_2000
  pub rewritten_blob : RewrittenRead i.read_blob
  pub well_formed : Gives i.well_formed (λ table. well_formed_lem table)
  pub room : Gives i.room (λ length. room_for length)
  pub room_2000 : Gives i.room_2000 (λ length. room2000 length)
  pub room_later : Gives i.room_later (λ length. room_later_lem length)
  pub type_info_room : Gives i.type_info_room (λ length. type_info_room_lem length)
  pub is_utf16 : Gives i.is_utf16 (λ bytes. is_utf16_lem bytes)
  pub text_name : NameWritten NameOf i.text_name (λ a. text_names) (λ a. a.id) (λ a. a.out)
  pub number_name : NameWritten NameOf i.number_name (λ a. number_names) (λ a. a.id) (λ a. a.out)
  pub bytes_name : NameWritten NameOf i.bytes_name (λ a. bytes_names) (λ a. a.id) (λ a. a.out)
  pub control_type_name : NameWritten NameOf i.control_type_name (λ a. control_type_names) (λ a. a.id) (λ a. a.out)
  pub value_name : NameWritten ValueName i.value_name (λ a. names_for a.mark) (λ a. a.id) (λ a. a.out)
  pub entry_value : Gives i.entry_value (λ a. entry_value_lem a.type a.bytes)
  pub stored_value : Gives i.stored_value (λ a. stored_value_lem a.id a.bytes)
  pub value_as : Gives i.value_as (λ a. value_as_lem a.kind a.id a.bytes)

-- ---- control_name(stream, label, mark, start, length)
abbrev pub part : ControlName → Part
part a = name_part a.stream a.label a.mark a.start a.size

-- in the crates, a slice: the part's bytes, and its place by the places of the stream and the label buffer
pub record ControlNameIn : Type 2 where
  pub bytes : Every control_name_in (λ a seen. seen.bytes ≡ part_bytes_lem a.stream a.label (part a))
  pub place : Every control_name_in (λ a seen. seen.place ≡ part_place a.stream_place a.label_place (part a))
  pub met : Always control_name_in.function control_name_in.function.says
  pub one_result : OneResult control_name_in.function
  -- any two results are equal in all that is seen, place and bytes
  pub by_words : (c d : Call control_name_in) → handed c ≡ handed d → seen c ≡ seen d

-- ---- widen(low): the double's words, and its value is the single's (a NaN's value is NaN; its bits are in `widened`)
pub record Widen : Type 2 where
  pub is_widened : Gives widen (λ low. words_of (widened low))
  pub exact : Every widen (λ low wide. of_bits binary64 (bits_of wide) ≡ of_bits binary32 low)

-- ---- all of it
pub record Calls : Type 2 where
  pub of_crates : Promised crates
  pub of_exported : Promised exported
  pub control_name : ControlNameIn
  -- for C and Rust a part is source, start and length
  pub exported_control_name : Gives control_name_part (λ a. handed_part (part a))
  pub integer-value : Gives integer-value (λ bytes. told (integer_value_lem bytes))
  pub widen : Widen
