-- The public functions: each one's code, its contract's clauses as its caller learns them, and names for what it is handed and what is seen of a call.
-- Here alone an argument is told by its place: `(first, (second, (third, _)))`. At exit `e` has the same places.
-- `now` is what a lent slice holds; `κs` are the lifetimes, `r` is what is returned. `ended` is a function's signature, `name` and `code` are the name that it is
-- called by and its code, `Learnt` is its contract. (A name that stood for another argument would be refused: the equations of Calls wouldn't hold.)
use Rattle.std.specs.Prelude.{ℕ, ℤ, Bool, List, Option}
use denote.Ref.{Bor, MutBor}
use Rattle.rules.specs.declared.Answer.{Answer}
use Rattle.rules.specs.declared.Value.{Value}
use Rattle.rules.specs.declared.Room.{Room}
use Rattle.rules.specs.Texts.{TextExit}
use Rattle.rules.specs.TypeInfo.{TypeInfoExit}
use Rattle.rules.specs.Blob.{Exit}
use Rattle.rules.specs.Pairing.{PairExit}
use Rattle.rules.specs.Csv.{CsvExit, FieldsExit}
use Rattle.rules.specs.Differences.{DifferencesExit}
use Rattle.rules.specs.declared.Totals.{Totals}
use Rattle.rules.specs.declared.Totalled.{Totalled}
use Rattle.numbers.specs.declared.Wide.{Wide}
use Rattle.blob.specs.Exit.{Place}
use Rattle.totals.specs.Exit.{exited}
use Rattle.oskuramos.specs.Handed.{taken_answer, taken_value, taken_room}
use Rattle.oskuramos.specs.declared.Part.{Part}
use Rattle.propvalue.specs.contracts.entry_value as entry_value
use Rattle.propvalue.proofs.entry_value as entry_value_code
use Rattle.propvalue.specs.contracts.stored_value as stored_value
use Rattle.propvalue.proofs.stored_value as stored_value_code
use Rattle.propvalue.specs.contracts.value_as as value_as
use Rattle.propvalue.proofs.value_as as value_as_code
use Rattle.numbers.specs.contracts.integer_value as integer_value
use Rattle.numbers.proofs.integer_value as integer_value_code
use Rattle.numbers.specs.contracts.widen as widen_single
use Rattle.numbers.proofs.widen as widen_single_code
use Rattle.utf16.specs.contracts.is_utf16 as is_utf16
use Rattle.utf16.proofs.is_utf16 as is_utf16_code
use Rattle.names.specs.contracts.text_name as text_name
use Rattle.names.proofs.text_name as text_name_code
use Rattle.names.specs.contracts.number_name as number_name
use Rattle.names.proofs.number_name as number_name_code
use Rattle.names.specs.contracts.bytes_name as bytes_name
use Rattle.names.proofs.bytes_name as bytes_name_code
use Rattle.names.specs.contracts.control_type_name as control_type_name
use Rattle.names.proofs.control_type_name as control_type_name_code
use Rattle.names.specs.contracts.value_name as value_name
use Rattle.names.proofs.value_name as value_name_code
use Rattle.text.specs.contracts.guid_text as guid_text
use Rattle.text.proofs.guid_text as guid_text_code
use Rattle.text.specs.contracts.label_text as label_text
use Rattle.text.proofs.label_text as label_text_code
use Rattle.codetable.specs.contracts.well_formed as well_formed
use Rattle.codetable.proofs.well_formed as well_formed_code
use Rattle.join.specs.contracts.join as join
use Rattle.join.proofs.join as join_code
use Rattle.typeinfo.specs.contracts.read_type_info as read_type_info
use Rattle.typeinfo.proofs.read_type_info as read_type_info_code
use Rattle.pairing.specs.contracts.pair as pair
use Rattle.pairing.proofs.pair as pair_code
use Rattle.csvread.specs.contracts.read_csv as read_csv
use Rattle.csvread.proofs.read_csv as read_csv_code
use Rattle.csvwrite.specs.contracts.write_csv as write_csv
use Rattle.csvwrite.proofs.write_csv as write_csv_code
use Rattle.panel.specs.contracts.check_panel as check_panel
use Rattle.panel.proofs.check_panel as check_panel_code
use Rattle.differences.specs.contracts.differences as differences
use Rattle.differences.proofs.differences as differences_code
use Rattle.blob.specs.contracts.read_blob as read_blob
use Rattle.blob.proofs.read_blob as read_blob_code
use Rattle.blob.specs.contracts.read_2000 as read_2000
use Rattle.blob.proofs.read_2000 as read_2000_code
use Rattle.blob.specs.contracts.read_later as read_later
use Rattle.blob.proofs.read_later as read_later_code
use Rattle.blob.specs.contracts.control_name as control_name
use Rattle.blob.proofs.control_name as control_name_code
use Rattle.rewrite.specs.contracts.rewrite as rewrite
use Rattle.rewrite.proofs.rewrite as rewrite_code
use Rattle.totals.specs.contracts.count_blob as count_blob
use Rattle.totals.proofs.count_blob as count_blob_code
use Rattle.room.specs.contracts.room_for as room_for
use Rattle.room.proofs.room_for as room_for_code
use Rattle.room.specs.contracts.room_2000 as room_2000
use Rattle.room.proofs.room_2000 as room_2000_code
use Rattle.room.specs.contracts.room_later as room_later
use Rattle.room.proofs.room_later as room_later_code
use Rattle.room.specs.contracts.type_info_room as type_info_room
use Rattle.room.proofs.type_info_room as type_info_room_code
use Rattle.oskuramos.specs.contracts.oskuramos_check_panel as oskuramos_check_panel
use Rattle.oskuramos.proofs.oskuramos_check_panel as oskuramos_check_panel_code
use Rattle.oskuramos.specs.contracts.oskuramos_read_blob as oskuramos_read_blob
use Rattle.oskuramos.proofs.oskuramos_read_blob as oskuramos_read_blob_code
use Rattle.oskuramos.specs.contracts.oskuramos_read_2000 as oskuramos_read_2000
use Rattle.oskuramos.proofs.oskuramos_read_2000 as oskuramos_read_2000_code
use Rattle.oskuramos.specs.contracts.oskuramos_read_later as oskuramos_read_later
use Rattle.oskuramos.proofs.oskuramos_read_later as oskuramos_read_later_code
use Rattle.oskuramos.specs.contracts.oskuramos_read_type_info as oskuramos_read_type_info
use Rattle.oskuramos.proofs.oskuramos_read_type_info as oskuramos_read_type_info_code
use Rattle.oskuramos.specs.contracts.oskuramos_pair as oskuramos_pair
use Rattle.oskuramos.proofs.oskuramos_pair as oskuramos_pair_code
use Rattle.oskuramos.specs.contracts.oskuramos_read_csv as oskuramos_read_csv
use Rattle.oskuramos.proofs.oskuramos_read_csv as oskuramos_read_csv_code
use Rattle.oskuramos.specs.contracts.oskuramos_write_csv as oskuramos_write_csv
use Rattle.oskuramos.proofs.oskuramos_write_csv as oskuramos_write_csv_code
use Rattle.oskuramos.specs.contracts.oskuramos_well_formed as oskuramos_well_formed
use Rattle.oskuramos.proofs.oskuramos_well_formed as oskuramos_well_formed_code
use Rattle.oskuramos.specs.contracts.oskuramos_join as oskuramos_join
use Rattle.oskuramos.proofs.oskuramos_join as oskuramos_join_code
use Rattle.oskuramos.specs.contracts.oskuramos_differences as oskuramos_differences
use Rattle.oskuramos.proofs.oskuramos_differences as oskuramos_differences_code
use Rattle.oskuramos.specs.contracts.oskuramos_rewrite as oskuramos_rewrite
use Rattle.oskuramos.proofs.oskuramos_rewrite as oskuramos_rewrite_code
use Rattle.oskuramos.specs.contracts.oskuramos_count_blob as oskuramos_count_blob
use Rattle.oskuramos.proofs.oskuramos_count_blob as oskuramos_count_blob_code
use Rattle.oskuramos.specs.contracts.oskuramos_room as oskuramos_room
use Rattle.oskuramos.proofs.oskuramos_room as oskuramos_room_code
use Rattle.oskuramos.specs.contracts.oskuramos_room_2000 as oskuramos_room_2000
use Rattle.oskuramos.proofs.oskuramos_room_2000 as oskuramos_room_2000_code
use Rattle.oskuramos.specs.contracts.oskuramos_room_later as oskuramos_room_later
use Rattle.oskuramos.proofs.oskuramos_room_later as oskuramos_room_later_code
use Rattle.oskuramos.specs.contracts.oskuramos_type_info_room as oskuramos_type_info_room
use Rattle.oskuramos.proofs.oskuramos_type_info_room as oskuramos_type_info_room_code
use Rattle.oskuramos.specs.contracts.oskuramos_control_name as oskuramos_control_name
use Rattle.oskuramos.proofs.oskuramos_control_name as oskuramos_control_name_code
use Rattle.oskuramos.specs.contracts.oskuramos_guid_text as oskuramos_guid_text
use Rattle.oskuramos.proofs.oskuramos_guid_text as oskuramos_guid_text_code
use Rattle.oskuramos.specs.contracts.oskuramos_label_text as oskuramos_label_text
use Rattle.oskuramos.proofs.oskuramos_label_text as oskuramos_label_text_code
use Rattle.oskuramos.specs.contracts.oskuramos_is_utf16 as oskuramos_is_utf16
use Rattle.oskuramos.proofs.oskuramos_is_utf16 as oskuramos_is_utf16_code
use Rattle.oskuramos.specs.contracts.oskuramos_text_name as oskuramos_text_name
use Rattle.oskuramos.proofs.oskuramos_text_name as oskuramos_text_name_code
use Rattle.oskuramos.specs.contracts.oskuramos_number_name as oskuramos_number_name
use Rattle.oskuramos.proofs.oskuramos_number_name as oskuramos_number_name_code
use Rattle.oskuramos.specs.contracts.oskuramos_bytes_name as oskuramos_bytes_name
use Rattle.oskuramos.proofs.oskuramos_bytes_name as oskuramos_bytes_name_code
use Rattle.oskuramos.specs.contracts.oskuramos_control_type_name as oskuramos_control_type_name
use Rattle.oskuramos.proofs.oskuramos_control_type_name as oskuramos_control_type_name_code
use Rattle.oskuramos.specs.contracts.oskuramos_value_name as oskuramos_value_name
use Rattle.oskuramos.proofs.oskuramos_value_name as oskuramos_value_name_code
use Rattle.oskuramos.specs.contracts.oskuramos_entry_value as oskuramos_entry_value
use Rattle.oskuramos.proofs.oskuramos_entry_value as oskuramos_entry_value_code
use Rattle.oskuramos.specs.contracts.oskuramos_stored_value as oskuramos_stored_value
use Rattle.oskuramos.proofs.oskuramos_stored_value as oskuramos_stored_value_code
use Rattle.oskuramos.specs.contracts.oskuramos_value_as as oskuramos_value_as
use Rattle.oskuramos.proofs.oskuramos_value_as as oskuramos_value_as_code
use Rattle.calls.specs.Always.{Fn}

-- ---- what the functions are handed
-- lent to be read
abbrev Slice : Type 0
Slice = Bor (List ℕ)

-- lent to be written
abbrev Buffer : Type 0
Buffer = MutBor (List ℕ)

abbrev End : Type 0
End = Unit {0}

-- (table, stream, controls, properties)
pub record Blob : Type 0 where
  pub table : List ℕ
  pub stream : List ℕ
  pub controls : List ℕ
  pub properties : List ℕ

abbrev blob : Slice × (Slice × (Buffer × (Buffer × End))) → Blob
blob = λ (table, (stream, (controls, (properties, _)))). record { table = table.now; stream = stream.now; controls = controls.now; properties = properties.now }

-- (layout, stream, controls, properties)
pub record Later : Type 0 where
  pub layout : ℕ
  pub stream : List ℕ
  pub controls : List ℕ
  pub properties : List ℕ

abbrev later : ℕ × (Slice × (Buffer × (Buffer × End))) → Later
later = λ (layout, (stream, (controls, (properties, _)))). record { layout = layout; stream = stream.now; controls = controls.now; properties = properties.now }

-- (stream, rows)
pub record TypeInfo : Type 0 where
  pub stream : List ℕ
  pub rows : List ℕ

abbrev type_info : Slice × (Buffer × End) → TypeInfo
type_info = λ (stream, (rows, _)). record { stream = stream.now; rows = rows.now }

-- (stream, controls, control_count, info_stream, infos, info_count)
pub record Pair : Type 0 where
  pub stream : List ℕ
  pub controls : List ℕ
  pub control_count : ℕ
  pub info_stream : List ℕ
  pub infos : List ℕ
  pub info_count : ℕ

abbrev rows_to_pair : Slice × (Buffer × (ℕ × (Slice × (Slice × (ℕ × End))))) → Pair
rows_to_pair = λ (stream, (controls, (control_count, (info_stream, (infos, (info_count, _)))))). record {
  stream = stream.now;
  controls = controls.now;
  control_count = control_count;
  info_stream = info_stream.now;
  infos = infos.now;
  info_count = info_count;
}

-- (text, fields, out)
pub record Sheet : Type 0 where
  pub text : List ℕ
  pub fields : List ℕ
  pub out : List ℕ

abbrev sheet : Slice × (Buffer × (Buffer × End)) → Sheet
sheet = λ (text, (fields, (out, _))). record { text = text.now; fields = fields.now; out = out.now }

-- (table, stream, controls, properties, out)
pub record BlobText : Type 0 where
  pub table : List ℕ
  pub stream : List ℕ
  pub controls : List ℕ
  pub properties : List ℕ
  pub out : List ℕ

abbrev blob_text : Slice × (Slice × (Buffer × (Buffer × (Buffer × End)))) → BlobText
blob_text = λ (table, (stream, (controls, (properties, (out, _))))). record {
  table = table.now;
  stream = stream.now;
  controls = controls.now;
  properties = properties.now;
  out = out.now;
}

-- (older, newer, stream, rows)
pub record Differ : Type 0 where
  pub older : List ℕ
  pub newer : List ℕ
  pub stream : List ℕ
  pub rows : List ℕ

abbrev differ : Slice × (Slice × (Slice × (Buffer × End))) → Differ
differ = λ (older, (newer, (stream, (rows, _)))). record { older = older.now; newer = newer.now; stream = stream.now; rows = rows.now }

-- (totals, table, stream, control_room, property_room)
pub record Count : Type 0 where
  pub totals : Totals
  pub table : List ℕ
  pub stream : List ℕ
  pub control_room : ℕ
  pub property_room : ℕ

abbrev counting : MutBor Totals × (Slice × (Slice × (ℕ × (ℕ × End)))) → Count
counting = λ (totals, (table, (stream, (control_room, (property_room, _))))). record { totals = totals.now; table = table.now; stream = stream.now; control_room = control_room; property_room = property_room }

-- (guid, out)
pub record Guid : Type 0 where
  pub guid : List ℕ
  pub out : List ℕ

abbrev guid : Slice × (Buffer × End) → Guid
guid = λ (guid, (out, _)). record { guid = guid.now; out = out.now }

-- (n, out)
pub record Label : Type 0 where
  pub n : ℕ
  pub out : List ℕ

abbrev label : ℕ × (Buffer × End) → Label
label = λ (n, (out, _)). record { n = n; out = out.now }

-- (one, other, out)
pub record Join : Type 0 where
  pub one : List ℕ
  pub other : List ℕ
  pub out : List ℕ

abbrev tables : Slice × (Slice × (Buffer × End)) → Join
tables = λ (one, (other, (out, _))). record { one = one.now; other = other.now; out = out.now }

-- (stream, out)
pub record Rewrite : Type 0 where
  pub stream : List ℕ
  pub out : List ℕ

abbrev rewriting : Slice × (Buffer × End) → Rewrite
rewriting = λ (stream, (out, _)). record { stream = stream.now; out = out.now }

-- (stream, label, mark, start, length)
pub record ControlName : Type 0 where
  pub stream : List ℕ
  pub label : List ℕ
  pub mark : ℕ
  pub start : ℕ
  pub size : ℕ
  -- where the two slices stand
  pub stream_place : Place
  pub label_place : Place

abbrev control_name_args : Slice × (Slice × (ℕ × (ℕ × (ℕ × End)))) → ControlName
control_name_args = λ (stream, (label, (mark, (start, (size, _))))). record {
  stream = stream.now;
  label = label.now;
  mark = mark;
  start = start;
  size = size;
  stream_place = stream.ref_ptr;
  label_place = label.ref_ptr;
}

-- (id, out)
pub record NameOf : Type 0 where
  pub id : ℕ
  pub out : List ℕ

abbrev name_of : ℕ × (Buffer × End) → NameOf
name_of = λ (id, (out, _)). record { id = id; out = out.now }

-- (mark, id, out)
pub record ValueName : Type 0 where
  pub mark : ℕ
  pub id : ℕ
  pub out : List ℕ

abbrev value_name_args : ℕ × (ℕ × (Buffer × End)) → ValueName
value_name_args = λ (mark, (id, (out, _))). record { mark = mark; id = id; out = out.now }

-- (type, bytes)
pub record Entry : Type 0 where
  pub type : ℕ
  pub bytes : List ℕ

abbrev entry : ℕ × (Slice × End) → Entry
entry = λ (kind, (bytes, _)). record { type = kind; bytes = bytes.now }

-- (id, bytes)
pub record Stored : Type 0 where
  pub id : ℕ
  pub bytes : List ℕ

abbrev stored : ℕ × (Slice × End) → Stored
stored = λ (id, (bytes, _)). record { id = id; bytes = bytes.now }

-- (kind, id, bytes)
pub record Tied : Type 0 where
  pub kind : ℕ
  pub id : ℕ
  pub bytes : List ℕ

abbrev tied : ℕ × (ℕ × (Slice × End)) → Tied
tied = λ (kind, (id, (bytes, _))). record { kind = kind; id = id; bytes = bytes.now }

-- (bytes), (table)
abbrev bytes : Slice × End → List ℕ
bytes a = a.0.now

-- (id), (low), (length)
abbrev number : ℕ × End → ℕ
number a = a.0

-- ---- what is seen of a call that wrote into slices: the answer, and the slices at exit
abbrev blob_exit : Answer → Slice × (Slice × (Buffer × (Buffer × End))) → Exit
blob_exit r e = record { answer = r; controls = (blob e).controls; properties = (blob e).properties }

abbrev later_exit : Answer → ℕ × (Slice × (Buffer × (Buffer × End))) → Exit
later_exit r e = record { answer = r; controls = (later e).controls; properties = (later e).properties }

abbrev type_info_exit : Answer → Slice × (Buffer × End) → TypeInfoExit
type_info_exit r e = record { answer = r; rows = (type_info e).rows }

abbrev pair_exit : Answer → Slice × (Buffer × (ℕ × (Slice × (Slice × (ℕ × End))))) → PairExit
pair_exit r e = record { answer = r; controls = (rows_to_pair e).controls }

abbrev fields_exit : Answer → Slice × (Buffer × (Buffer × End)) → FieldsExit
fields_exit r e = record { answer = r; rows = (sheet e).fields; out = (sheet e).out }

abbrev csv_exit : Answer → Slice × (Slice × (Buffer × (Buffer × (Buffer × End)))) → CsvExit
csv_exit r e = record { answer = r; controls = (blob_text e).controls; properties = (blob_text e).properties; out = (blob_text e).out }

abbrev differences_exit : Answer → Slice × (Slice × (Slice × (Buffer × End))) → DifferencesExit
differences_exit r e = record { answer = r; rows = (differ e).rows }

abbrev count_exit : Answer → MutBor Totals × (Slice × (Slice × (ℕ × (ℕ × End)))) → Totalled
count_exit r e = exited r (counting e).totals

abbrev guid-exit : Answer → Slice × (Buffer × End) → TextExit
guid-exit r e = record { answer = r; out = (guid e).out }

abbrev label_exit : Answer → ℕ × (Buffer × End) → TextExit
label_exit r e = record { answer = r; out = (label e).out }

abbrev name_exit : Answer → ℕ × (Buffer × End) → TextExit
name_exit r e = record { answer = r; out = (name_of e).out }

abbrev value_name_exit : Answer → ℕ × (ℕ × (Buffer × End)) → TextExit
value_name_exit r e = record { answer = r; out = (value_name_args e).out }

abbrev join_exit : Answer → Slice × (Slice × (Buffer × End)) → TextExit
join_exit r e = record { answer = r; out = (tables e).out }

abbrev rewrite_exit : Answer → Slice × (Buffer × End) → TextExit
rewrite_exit r e = record { answer = r; out = (rewriting e).out }

-- ---- the functions that both the crates and the archive have (`control_name` stands below: the two return its part differently)
pub record Interface : Type 2 where
  pub read_blob : Fn Blob Exit
  pub read_2000 : Fn Blob Exit
  pub read_later : Fn Later Exit
  pub read_type_info : Fn TypeInfo TypeInfoExit
  pub pair : Fn Pair PairExit
  pub read_csv : Fn Sheet FieldsExit
  pub write_csv : Fn BlobText CsvExit
  pub check_panel : Fn Blob Exit
  pub differences : Fn Differ DifferencesExit
  pub count_blob : Fn Count Totalled
  pub well_formed : Fn (List ℕ) Bool
  pub room : Fn ℕ Room
  pub room_2000 : Fn ℕ Room
  pub room_later : Fn ℕ Room
  pub type_info_room : Fn ℕ ℕ
  pub guid_text : Fn Guid TextExit
  pub label_text : Fn Label TextExit
  pub join : Fn Join TextExit
  pub rewrite : Fn Rewrite TextExit
  pub is_utf16 : Fn (List ℕ) Bool
  pub text_name : Fn NameOf TextExit
  pub number_name : Fn NameOf TextExit
  pub bytes_name : Fn NameOf TextExit
  pub control_type_name : Fn NameOf TextExit
  pub value_name : Fn ValueName TextExit
  pub entry_value : Fn Entry Value
  pub stored_value : Fn Stored Value
  pub value_as : Fn Tied Value

-- as the crates have them: `blob::read_blob` and so on
abbrev pub crates : Interface
crates = record {
  read_blob = record {
    function = record { ended = read_blob.ended; name = read_blob_code.Symbol.name; code = read_blob_code.Symbol.code; says = read_blob_code.Reads.Learnt };
    handed = λ κs a. blob a;
    seen = λ κs r e. blob_exit r e;
  };
  read_2000 = record {
    function = record { ended = read_2000.ended; name = read_2000_code.Symbol.name; code = read_2000_code.Symbol.code; says = read_2000_code.Reads.Learnt };
    handed = λ κs a. blob a;
    seen = λ κs r e. blob_exit r e;
  };
  read_later = record {
    function = record { ended = read_later.ended; name = read_later_code.Symbol.name; code = read_later_code.Symbol.code; says = read_later_code.Reads.Learnt };
    handed = λ κs a. later a;
    seen = λ κs r e. later_exit r e;
  };
  read_type_info = record {
    function = record { ended = read_type_info.ended; name = read_type_info_code.Symbol.name; code = read_type_info_code.Symbol.code; says = read_type_info_code.Reads.Learnt };
    handed = λ κs a. type_info a;
    seen = λ κs r e. type_info_exit r e;
  };
  pair = record {
    function = record { ended = pair.ended; name = pair_code.Symbol.name; code = pair_code.Symbol.code; says = pair_code.Reads.Learnt };
    handed = λ κs a. rows_to_pair a;
    seen = λ κs r e. pair_exit r e;
  };
  read_csv = record {
    function = record { ended = read_csv.ended; name = read_csv_code.Symbol.name; code = read_csv_code.Symbol.code; says = read_csv_code.Reads.Learnt };
    handed = λ κs a. sheet a;
    seen = λ κs r e. fields_exit r e;
  };
  write_csv = record {
    function = record { ended = write_csv.ended; name = write_csv_code.Symbol.name; code = write_csv_code.Symbol.code; says = write_csv_code.Reads.Learnt };
    handed = λ κs a. blob_text a;
    seen = λ κs r e. csv_exit r e;
  };
  check_panel = record {
    function = record { ended = check_panel.ended; name = check_panel_code.Symbol.name; code = check_panel_code.Symbol.code; says = check_panel_code.Reads.Learnt };
    handed = λ κs a. blob a;
    seen = λ κs r e. blob_exit r e;
  };
  differences = record {
    function = record { ended = differences.ended; name = differences_code.Symbol.name; code = differences_code.Symbol.code; says = differences_code.Reads.Learnt };
    handed = λ κs a. differ a;
    seen = λ κs r e. differences_exit r e;
  };
  count_blob = record {
    function = record { ended = count_blob.ended; name = count_blob_code.Symbol.name; code = count_blob_code.Symbol.code; says = count_blob_code.Reads.Learnt };
    handed = λ κs a. counting a;
    seen = λ κs r e. count_exit r e;
  };
  well_formed = record {
    function = record { ended = well_formed.ended; name = well_formed_code.Symbol.name; code = well_formed_code.Symbol.code; says = well_formed_code.Reads.Learnt };
    handed = λ κs a. bytes a;
    seen = λ κs r e. r;
  };
  room = record {
    function = record { ended = room_for.ended; name = room_for_code.Symbol.name; code = room_for_code.Symbol.code; says = room_for_code.Reads.Learnt };
    handed = λ κs a. number a;
    seen = λ κs r e. r;
  };
  room_2000 = record {
    function = record { ended = room_2000.ended; name = room_2000_code.Symbol.name; code = room_2000_code.Symbol.code; says = room_2000_code.Reads.Learnt };
    handed = λ κs a. number a;
    seen = λ κs r e. r;
  };
  room_later = record {
    function = record { ended = room_later.ended; name = room_later_code.Symbol.name; code = room_later_code.Symbol.code; says = room_later_code.Reads.Learnt };
    handed = λ κs a. number a;
    seen = λ κs r e. r;
  };
  type_info_room = record {
    function = record { ended = type_info_room.ended; name = type_info_room_code.Symbol.name; code = type_info_room_code.Symbol.code; says = type_info_room_code.Reads.Learnt };
    handed = λ κs a. number a;
    seen = λ κs r e. r;
  };
  guid_text = record {
    function = record { ended = guid_text.ended; name = guid_text_code.Symbol.name; code = guid_text_code.Symbol.code; says = guid_text_code.Reads.Learnt };
    handed = λ κs a. guid a;
    seen = λ κs r e. guid-exit r e;
  };
  label_text = record {
    function = record { ended = label_text.ended; name = label_text_code.Symbol.name; code = label_text_code.Symbol.code; says = label_text_code.Reads.Learnt };
    handed = λ κs a. label a;
    seen = λ κs r e. label_exit r e;
  };
  join = record {
    function = record { ended = join.ended; name = join_code.Symbol.name; code = join_code.Symbol.code; says = join_code.Reads.Learnt };
    handed = λ κs a. tables a;
    seen = λ κs r e. join_exit r e;
  };
  rewrite = record {
    function = record { ended = rewrite.ended; name = rewrite_code.Symbol.name; code = rewrite_code.Symbol.code; says = rewrite_code.Reads.Learnt };
    handed = λ κs a. rewriting a;
    seen = λ κs r e. rewrite_exit r e;
  };
  is_utf16 = record {
    function = record { ended = is_utf16.ended; name = is_utf16_code.Symbol.name; code = is_utf16_code.Symbol.code; says = is_utf16_code.Reads.Learnt };
    handed = λ κs a. bytes a;
    seen = λ κs r e. r;
  };
  text_name = record {
    function = record { ended = text_name.ended; name = text_name_code.Symbol.name; code = text_name_code.Symbol.code; says = text_name_code.Reads.Learnt };
    handed = λ κs a. name_of a;
    seen = λ κs r e. name_exit r e;
  };
  number_name = record {
    function = record { ended = number_name.ended; name = number_name_code.Symbol.name; code = number_name_code.Symbol.code; says = number_name_code.Reads.Learnt };
    handed = λ κs a. name_of a;
    seen = λ κs r e. name_exit r e;
  };
  bytes_name = record {
    function = record { ended = bytes_name.ended; name = bytes_name_code.Symbol.name; code = bytes_name_code.Symbol.code; says = bytes_name_code.Reads.Learnt };
    handed = λ κs a. name_of a;
    seen = λ κs r e. name_exit r e;
  };
  control_type_name = record {
    function = record { ended = control_type_name.ended; name = control_type_name_code.Symbol.name; code = control_type_name_code.Symbol.code; says = control_type_name_code.Reads.Learnt };
    handed = λ κs a. name_of a;
    seen = λ κs r e. name_exit r e;
  };
  value_name = record {
    function = record { ended = value_name.ended; name = value_name_code.Symbol.name; code = value_name_code.Symbol.code; says = value_name_code.Reads.Learnt };
    handed = λ κs a. value_name_args a;
    seen = λ κs r e. value_name_exit r e;
  };
  entry_value = record {
    function = record { ended = entry_value.ended; name = entry_value_code.Symbol.name; code = entry_value_code.Symbol.code; says = entry_value_code.Reads.Learnt };
    handed = λ κs a. entry a;
    seen = λ κs r e. r;
  };
  stored_value = record {
    function = record { ended = stored_value.ended; name = stored_value_code.Symbol.name; code = stored_value_code.Symbol.code; says = stored_value_code.Reads.Learnt };
    handed = λ κs a. stored a;
    seen = λ κs r e. r;
  };
  value_as = record {
    function = record { ended = value_as.ended; name = value_as_code.Symbol.name; code = value_as_code.Symbol.code; says = value_as_code.Reads.Learnt };
    handed = λ κs a. tied a;
    seen = λ κs r e. r;
  };
}

-- as C and Rust have them: `oskuramos_read_blob` and so on. What C gets has the same fields, in structs laid out as C's: they are read back. (The functions are
-- those of the crate oskuramos. The archive's, of oskuramos_c, have the same names and the same clauses, and only hand on to these.)
abbrev pub exported : Interface
exported = record {
  read_blob = record {
    function = record { ended = oskuramos_read_blob.ended; name = oskuramos_read_blob_code.Symbol.name; code = oskuramos_read_blob_code.Symbol.code; says = oskuramos_read_blob_code.Reads.Learnt };
    handed = λ κs a. blob a;
    seen = λ κs r e. blob_exit (taken_answer r) e;
  };
  read_2000 = record {
    function = record { ended = oskuramos_read_2000.ended; name = oskuramos_read_2000_code.Symbol.name; code = oskuramos_read_2000_code.Symbol.code; says = oskuramos_read_2000_code.Reads.Learnt };
    handed = λ κs a. blob a;
    seen = λ κs r e. blob_exit (taken_answer r) e;
  };
  read_later = record {
    function = record { ended = oskuramos_read_later.ended; name = oskuramos_read_later_code.Symbol.name; code = oskuramos_read_later_code.Symbol.code; says = oskuramos_read_later_code.Reads.Learnt };
    handed = λ κs a. later a;
    seen = λ κs r e. later_exit (taken_answer r) e;
  };
  read_type_info = record {
    function = record { ended = oskuramos_read_type_info.ended; name = oskuramos_read_type_info_code.Symbol.name; code = oskuramos_read_type_info_code.Symbol.code; says = oskuramos_read_type_info_code.Reads.Learnt };
    handed = λ κs a. type_info a;
    seen = λ κs r e. type_info_exit (taken_answer r) e;
  };
  pair = record {
    function = record { ended = oskuramos_pair.ended; name = oskuramos_pair_code.Symbol.name; code = oskuramos_pair_code.Symbol.code; says = oskuramos_pair_code.Reads.Learnt };
    handed = λ κs a. rows_to_pair a;
    seen = λ κs r e. pair_exit (taken_answer r) e;
  };
  read_csv = record {
    function = record { ended = oskuramos_read_csv.ended; name = oskuramos_read_csv_code.Symbol.name; code = oskuramos_read_csv_code.Symbol.code; says = oskuramos_read_csv_code.Reads.Learnt };
    handed = λ κs a. sheet a;
    seen = λ κs r e. fields_exit (taken_answer r) e;
  };
  write_csv = record {
    function = record { ended = oskuramos_write_csv.ended; name = oskuramos_write_csv_code.Symbol.name; code = oskuramos_write_csv_code.Symbol.code; says = oskuramos_write_csv_code.Reads.Learnt };
    handed = λ κs a. blob_text a;
    seen = λ κs r e. csv_exit (taken_answer r) e;
  };
  check_panel = record {
    function = record { ended = oskuramos_check_panel.ended; name = oskuramos_check_panel_code.Symbol.name; code = oskuramos_check_panel_code.Symbol.code; says = oskuramos_check_panel_code.Reads.Learnt };
    handed = λ κs a. blob a;
    seen = λ κs r e. blob_exit (taken_answer r) e;
  };
  differences = record {
    function = record { ended = oskuramos_differences.ended; name = oskuramos_differences_code.Symbol.name; code = oskuramos_differences_code.Symbol.code; says = oskuramos_differences_code.Reads.Learnt };
    handed = λ κs a. differ a;
    seen = λ κs r e. differences_exit (taken_answer r) e;
  };
  count_blob = record {
    function = record { ended = oskuramos_count_blob.ended; name = oskuramos_count_blob_code.Symbol.name; code = oskuramos_count_blob_code.Symbol.code; says = oskuramos_count_blob_code.Reads.Learnt };
    handed = λ κs a. counting a;
    seen = λ κs r e. count_exit (taken_answer r) e;
  };
  well_formed = record {
    function = record { ended = oskuramos_well_formed.ended; name = oskuramos_well_formed_code.Symbol.name; code = oskuramos_well_formed_code.Symbol.code; says = oskuramos_well_formed_code.Reads.Learnt };
    handed = λ κs a. bytes a;
    seen = λ κs r e. r;
  };
  room = record {
    function = record { ended = oskuramos_room.ended; name = oskuramos_room_code.Symbol.name; code = oskuramos_room_code.Symbol.code; says = oskuramos_room_code.Reads.Learnt };
    handed = λ κs a. number a;
    seen = λ κs r e. taken_room r;
  };
  room_2000 = record {
    function = record { ended = oskuramos_room_2000.ended; name = oskuramos_room_2000_code.Symbol.name; code = oskuramos_room_2000_code.Symbol.code; says = oskuramos_room_2000_code.Reads.Learnt };
    handed = λ κs a. number a;
    seen = λ κs r e. taken_room r;
  };
  room_later = record {
    function = record { ended = oskuramos_room_later.ended; name = oskuramos_room_later_code.Symbol.name; code = oskuramos_room_later_code.Symbol.code; says = oskuramos_room_later_code.Reads.Learnt };
    handed = λ κs a. number a;
    seen = λ κs r e. taken_room r;
  };
  type_info_room = record {
    function = record { ended = oskuramos_type_info_room.ended; name = oskuramos_type_info_room_code.Symbol.name; code = oskuramos_type_info_room_code.Symbol.code; says = oskuramos_type_info_room_code.Reads.Learnt };
    handed = λ κs a. number a;
    seen = λ κs r e. r;
  };
  guid_text = record {
    function = record { ended = oskuramos_guid_text.ended; name = oskuramos_guid_text_code.Symbol.name; code = oskuramos_guid_text_code.Symbol.code; says = oskuramos_guid_text_code.Reads.Learnt };
    handed = λ κs a. guid a;
    seen = λ κs r e. guid-exit (taken_answer r) e;
  };
  label_text = record {
    function = record { ended = oskuramos_label_text.ended; name = oskuramos_label_text_code.Symbol.name; code = oskuramos_label_text_code.Symbol.code; says = oskuramos_label_text_code.Reads.Learnt };
    handed = λ κs a. label a;
    seen = λ κs r e. label_exit (taken_answer r) e;
  };
  join = record {
    function = record { ended = oskuramos_join.ended; name = oskuramos_join_code.Symbol.name; code = oskuramos_join_code.Symbol.code; says = oskuramos_join_code.Reads.Learnt };
    handed = λ κs a. tables a;
    seen = λ κs r e. join_exit (taken_answer r) e;
  };
  rewrite = record {
    function = record { ended = oskuramos_rewrite.ended; name = oskuramos_rewrite_code.Symbol.name; code = oskuramos_rewrite_code.Symbol.code; says = oskuramos_rewrite_code.Reads.Learnt };
    handed = λ κs a. rewriting a;
    seen = λ κs r e. rewrite_exit (taken_answer r) e;
  };
  is_utf16 = record {
    function = record { ended = oskuramos_is_utf16.ended; name = oskuramos_is_utf16_code.Symbol.name; code = oskuramos_is_utf16_code.Symbol.code; says = oskuramos_is_utf16_code.Reads.Learnt };
    handed = λ κs a. bytes a;
    seen = λ κs r e. r;
  };
  text_name = record {
    function = record { ended = oskuramos_text_name.ended; name = oskuramos_text_name_code.Symbol.name; code = oskuramos_text_name_code.Symbol.code; says = oskuramos_text_name_code.Reads.Learnt };
    handed = λ κs a. name_of a;
    seen = λ κs r e. name_exit (taken_answer r) e;
  };
  number_name = record {
    function = record { ended = oskuramos_number_name.ended; name = oskuramos_number_name_code.Symbol.name; code = oskuramos_number_name_code.Symbol.code; says = oskuramos_number_name_code.Reads.Learnt };
    handed = λ κs a. name_of a;
    seen = λ κs r e. name_exit (taken_answer r) e;
  };
  bytes_name = record {
    function = record { ended = oskuramos_bytes_name.ended; name = oskuramos_bytes_name_code.Symbol.name; code = oskuramos_bytes_name_code.Symbol.code; says = oskuramos_bytes_name_code.Reads.Learnt };
    handed = λ κs a. name_of a;
    seen = λ κs r e. name_exit (taken_answer r) e;
  };
  control_type_name = record {
    function = record { ended = oskuramos_control_type_name.ended; name = oskuramos_control_type_name_code.Symbol.name; code = oskuramos_control_type_name_code.Symbol.code; says = oskuramos_control_type_name_code.Reads.Learnt };
    handed = λ κs a. name_of a;
    seen = λ κs r e. name_exit (taken_answer r) e;
  };
  value_name = record {
    function = record { ended = oskuramos_value_name.ended; name = oskuramos_value_name_code.Symbol.name; code = oskuramos_value_name_code.Symbol.code; says = oskuramos_value_name_code.Reads.Learnt };
    handed = λ κs a. value_name_args a;
    seen = λ κs r e. value_name_exit (taken_answer r) e;
  };
  entry_value = record {
    function = record { ended = oskuramos_entry_value.ended; name = oskuramos_entry_value_code.Symbol.name; code = oskuramos_entry_value_code.Symbol.code; says = oskuramos_entry_value_code.Reads.Learnt };
    handed = λ κs a. entry a;
    seen = λ κs r e. taken_value r;
  };
  stored_value = record {
    function = record { ended = oskuramos_stored_value.ended; name = oskuramos_stored_value_code.Symbol.name; code = oskuramos_stored_value_code.Symbol.code; says = oskuramos_stored_value_code.Reads.Learnt };
    handed = λ κs a. stored a;
    seen = λ κs r e. taken_value r;
  };
  value_as = record {
    function = record { ended = oskuramos_value_as.ended; name = oskuramos_value_as_code.Symbol.name; code = oskuramos_value_as_code.Symbol.code; says = oskuramos_value_as_code.Reads.Learnt };
    handed = λ κs a. tied a;
    seen = λ κs r e. taken_value r;
  };
}

-- ---- the others
-- the name of a control is returned as a slice in the crates: what it holds, and where it starts
pub record Returned : Type 0 where
  pub bytes : List ℕ
  pub place : Place

abbrev pub control_name_in : Fn ControlName Returned
control_name_in = record {
  function = record { ended = control_name.ended; name = control_name_code.Symbol.name; code = control_name_code.Symbol.code; says = control_name_code.Reads.Learnt };
  handed = λ κs a. control_name_args a;
  seen = λ κs r e. record { bytes = r.now; place = r.ref_ptr };
}

-- and as source, start and length for C and Rust
abbrev pub control_name_part : Fn ControlName Part
control_name_part = record {
  function = record { ended = oskuramos_control_name.ended; name = oskuramos_control_name_code.Symbol.name; code = oskuramos_control_name_code.Symbol.code; says = oskuramos_control_name_code.Reads.Learnt };
  handed = λ κs a. control_name_args a;
  seen = λ κs r e. r;
}

-- these the archive hasn't
abbrev pub integer-value : Fn (List ℕ) (Option ℤ)
integer-value = record {
  function = record { ended = integer_value.ended; name = integer_value_code.Symbol.name; code = integer_value_code.Symbol.code; says = integer_value_code.Reads.Learnt };
  handed = λ κs a. bytes a;
  seen = λ κs r e. r;
}

abbrev pub widen : Fn ℕ Wide
widen = record {
  function = record { ended = widen_single.ended; name = widen_single_code.Symbol.name; code = widen_single_code.Symbol.code; says = widen_single_code.Reads.Learnt };
  handed = λ κs a. number a;
  seen = λ κs r e. r;
}
