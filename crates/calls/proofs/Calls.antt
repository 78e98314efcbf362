-- What is promised of the public functions holds: each function's theorem (`met`) says its contract of its code.
use Prim.Native.Nat.{ℕ}
use native.Mathlib.Omega.{arith}
use mathlib.Core.Path.{◌≡◌, refl, sym, ap, ap₂, subst, ◌∙◌}
use mathlib.Core.Bool.{Bool, true, false, cond, ◌||◌}
use mathlib.Core.List.{List, [], ◌++◌}
use mathlib.Core.Logic.{◌↔◌, ◌⊎◌, inl, inr}
use mathlib.Core.Option.{Option, none, some}
use lib.Dec.{ltb}
use lib.ListN.{length, take, drop}
use lib.Seq.{take_at}
use contract.Lifetimes.{Lfts}
use denote.Ref.{Bor, MutBor}
use denote.Triple.Clauses.{AtExit, Lasts, at_exit}
use denote.Triple.Entry.{Args, Res}
use Rattle.rules.specs.Lists.{◌>>=◌, concat}
use Rattle.rules.specs.Answer.{answer, refusal}
use Rattle.rules.specs.Rows.{field_width, room, written}
use Rattle.rules.specs.Bytes.{Bytes}
use Rattle.rules.specs.NameTables.{Table as NameTable}
use Rattle.rules.specs.Names.{name_exit}
use Rattle.rules.specs.Texts.{TextExit, guid_exit, label_exit}
use Rattle.rules.specs.TypeInfo.{TypeInfoExit, type_info_exit}
use Rattle.rules.specs.Blob.{Exit, exit, exit2000, exit_later}
use Rattle.rules.specs.Join.{join_exit, result}
use Rattle.rules.specs.Rewrite.{rewrite_exit}
use Rattle.rules.specs.Pairing.{PairExit, pair_exit}
use Rattle.rules.specs.Csv.{crlf, all_fields, sheet_of, countable, spans_from, CsvExit, csv_exit, Fields, FieldsExit, fields_of, fields_by, fields_exit}
use Rattle.rules.specs.Panel.{panel_exit}
use Rattle.rules.specs.Differences.{DifferencesExit}
use Rattle.rules.specs.NamePart.{part_bytes_lem}
use Rattle.rules.specs.declared.Totals.{Totals}
use Rattle.rules.specs.declared.Totalled.{Totalled}
use Rattle.blob.specs.Exit.{part_place}
use Rattle.oskuramos.specs.Handed.{handed_answer, taken_answer, taken_value, taken_room}
use Rattle.claims.specs.Demand2.{Given, Spelled, Judges}
use Rattle.claims.specs.Demand3.{Lent, SameRoom, SameBut, Same}
use Rattle.claims.specs.Readers.{Agree}
use Rattle.claims.specs.Rewriting.{SameRows, Rewrites}
use Rattle.claims.specs.Pairing.{NeverRefused}
use Rattle.claims.specs.Panels.{NoSource}
use Rattle.calls.specs.Always.{Saying, Always, OneResult, Fn, Every, Gives, Call, handed, seen}
use Rattle.codetable.proofs.well_formed.Met as well-formed-code
use Rattle.join.proofs.join.Met as join-code
use Rattle.rewrite.proofs.rewrite.Met as rewrite-code
use Rattle.room.proofs.room_for.Met as room-code
use Rattle.room.proofs.room_2000.Met as room-2000-code
use Rattle.room.proofs.room_later.Met as room-later-code
use Rattle.room.proofs.type_info_room.Met as type-info-room-code
use Rattle.names.proofs.text_name.Met as text-name-code
use Rattle.names.proofs.number_name.Met as number-name-code
use Rattle.names.proofs.bytes_name.Met as bytes-name-code
use Rattle.names.proofs.control_type_name.Met as control-type-name-code
use Rattle.names.proofs.value_name.Met as value-name-code
use Rattle.propvalue.proofs.entry_value.Met as entry-value-code
use Rattle.propvalue.proofs.stored_value.Met as stored-value-code
use Rattle.propvalue.proofs.value_as.Met as value-as-code
use Rattle.numbers.proofs.integer_value.Met as integer-value-code
use Rattle.utf16.proofs.is_utf16.Met as is-utf16-code
use Rattle.numbers.proofs.widen.Met as widen-code
use Rattle.text.proofs.guid_text.Met as guid-text-code
use Rattle.text.proofs.label_text.Met as label-text-code
use Rattle.typeinfo.proofs.read_type_info.Met as read-type-info-code
use Rattle.pairing.proofs.pair.Met as pair_code
use Rattle.csvread.proofs.read_csv.Met as read-csv-code
use Rattle.csvwrite.proofs.write_csv.Met as write-csv-code
use Rattle.panel.proofs.check_panel.Met as check-panel-code
use Rattle.differences.proofs.differences.Met as differences-code
use Rattle.blob.proofs.read_blob.Met as read-blob-code
use Rattle.blob.proofs.read_2000.Met as read-2000-code
use Rattle.blob.proofs.read_later.Met as read-later-code
use Rattle.blob.proofs.control_name.Met as control-name-code
use Rattle.oskuramos.proofs.oskuramos_read_blob.Met as exported-read-blob-code
use Rattle.oskuramos.proofs.oskuramos_read_2000.Met as exported-read-2000-code
use Rattle.oskuramos.proofs.oskuramos_read_later.Met as exported-read-later-code
use Rattle.oskuramos.proofs.oskuramos_read_type_info.Met as exported-read-type-info-code
use Rattle.oskuramos.proofs.oskuramos_pair.Met as exported-pair-code
use Rattle.oskuramos.proofs.oskuramos_read_csv.Met as exported-read-csv-code
use Rattle.oskuramos.proofs.oskuramos_write_csv.Met as exported-write-csv-code
use Rattle.oskuramos.proofs.oskuramos_check_panel.Met as exported-check-panel-code
use Rattle.oskuramos.proofs.oskuramos_well_formed.Met as exported-well-formed-code
use Rattle.oskuramos.proofs.oskuramos_join.Met as exported-join-code
use Rattle.oskuramos.proofs.oskuramos_differences.Met as exported-differences-code
use Rattle.oskuramos.proofs.oskuramos_rewrite.Met as exported-rewrite-code
use Rattle.oskuramos.proofs.oskuramos_room.Met as exported-room-code
use Rattle.oskuramos.proofs.oskuramos_room_2000.Met as exported-room-2000-code
use Rattle.oskuramos.proofs.oskuramos_room_later.Met as exported-room-later-code
use Rattle.oskuramos.proofs.oskuramos_type_info_room.Met as exported-type-info-room-code
use Rattle.oskuramos.proofs.oskuramos_control_name.Met as exported-control-name-code
use Rattle.oskuramos.proofs.oskuramos_guid_text.Met as exported-guid-text-code
use Rattle.oskuramos.proofs.oskuramos_label_text.Met as exported-label-text-code
use Rattle.oskuramos.proofs.oskuramos_is_utf16.Met as exported-is-utf16-code
use Rattle.oskuramos.proofs.oskuramos_text_name.Met as exported-text-name-code
use Rattle.oskuramos.proofs.oskuramos_number_name.Met as exported-number-name-code
use Rattle.oskuramos.proofs.oskuramos_bytes_name.Met as exported-bytes-name-code
use Rattle.oskuramos.proofs.oskuramos_control_type_name.Met as exported-control-type-name-code
use Rattle.oskuramos.proofs.oskuramos_value_name.Met as exported-value-name-code
use Rattle.oskuramos.proofs.oskuramos_entry_value.Met as exported-entry-value-code
use Rattle.oskuramos.proofs.oskuramos_stored_value.Met as exported-stored-value-code
use Rattle.oskuramos.proofs.oskuramos_value_as.Met as exported-value-as-code
use Rattle.typeinfo.proofs.read_type_info.Reads as read-type-info-clauses
use Rattle.pairing.proofs.pair.Reads as pair-clauses
use Rattle.csvread.proofs.read_csv.Reads as read-csv-clauses
use Rattle.text.proofs.guid_text.Reads as guid-text-clauses
use Rattle.text.proofs.label_text.Reads as label-text-clauses
use Rattle.names.proofs.text_name.Reads as text-name-clauses
use Rattle.names.proofs.number_name.Reads as number-name-clauses
use Rattle.names.proofs.bytes_name.Reads as bytes-name-clauses
use Rattle.names.proofs.control_type_name.Reads as control-type-name-clauses
use Rattle.names.proofs.value_name.Reads as value-name-clauses
use Rattle.oskuramos.proofs.oskuramos_text_name.Reads as exported-text-name-clauses
use Rattle.oskuramos.proofs.oskuramos_number_name.Reads as exported-number-name-clauses
use Rattle.oskuramos.proofs.oskuramos_bytes_name.Reads as exported-bytes-name-clauses
use Rattle.oskuramos.proofs.oskuramos_control_type_name.Reads as exported-control-type-name-clauses
use Rattle.oskuramos.proofs.oskuramos_value_name.Reads as exported-value-name-clauses
use Rattle.join.proofs.join.Reads as join-clauses
use Rattle.rewrite.proofs.rewrite.Reads as rewrite-clauses
use Rattle.blob.proofs.control_name.Reads as control-name-clauses
use Rattle.numbers.proofs.widen.Reads as widen-clauses
use Rattle.oskuramos.proofs.oskuramos_read_blob.Reads as exported-read-blob-clauses
use Rattle.oskuramos.proofs.oskuramos_read_2000.Reads as exported-read-2000-clauses
use Rattle.oskuramos.proofs.oskuramos_read_later.Reads as exported-read-later-clauses
use Rattle.oskuramos.proofs.oskuramos_read_type_info.Reads as exported-read-type-info-clauses
use Rattle.oskuramos.proofs.oskuramos_pair.Reads as exported-pair-clauses
use Rattle.oskuramos.proofs.oskuramos_read_csv.Reads as exported-read-csv-clauses
use Rattle.oskuramos.proofs.oskuramos_write_csv.Reads as exported-write-csv-clauses
use Rattle.oskuramos.proofs.oskuramos_check_panel.Reads as exported-check-panel-clauses
use Rattle.oskuramos.proofs.oskuramos_guid_text.Reads as exported-guid-text-clauses
use Rattle.oskuramos.proofs.oskuramos_label_text.Reads as exported-label-text-clauses
use Rattle.oskuramos.proofs.oskuramos_join.Reads as exported-join-clauses
use Rattle.oskuramos.proofs.oskuramos_differences.Reads as exported-differences-clauses
use Rattle.oskuramos.proofs.oskuramos_rewrite.Reads as exported-rewrite-clauses
use Rattle.oskuramos.proofs.oskuramos_count_blob.Met as exported-count-blob-code
use Rattle.calls.specs.Functions as f
use Rattle.calls.specs.Functions.{Blob, Later}
use Rattle.calls.specs.Calls as calls
use Rattle.calls.proofs.Always.{both_facts, three_facts, four_facts, so, told, Tells, knowing}
use Rattle.calls.proofs.LentBytes.{stream_told, later_told, rewrite_told, one_told, other_told}
use Rattle.claims.proofs.Demand1.{demand1}
use Rattle.claims.proofs.Demand2.{demand2}
use Rattle.claims.proofs.Demand3.{demand3}
use Rattle.claims.proofs.Readers.{wish8}
use Rattle.claims.proofs.Joining.{wish9, wish12}
use Rattle.calls.proofs.JoiningCalls.{join_of, plans_carried}
use Rattle.calls.specs.DifferingCalls.{ListDifferences}
use Rattle.calls.proofs.DifferingCalls.{differences_of, differences_read}
use Rattle.calls.specs.CountCalls.{stream_of, CountBlob}
use Rattle.calls.proofs.CountCalls as counting
use Rattle.calls.proofs.CountCalls.{count_of}
use Rattle.claims.proofs.LaterTree.{later-tree}
use Rattle.claims.proofs.Counts.{counts_hold}
use Rattle.claims.proofs.CutNames.{wish6}
use Rattle.claims.proofs.Pairing.{wish2}
use Rattle.claims.proofs.Spreadsheet.{wish7}
use Rattle.claims.proofs.Panels.{wish11, panel_unchanged}
use Rattle.claims.proofs.Differing.{differences as all-differences}
use Rattle.claims.proofs.RowChecks.{row-checks}
use Rattle.claims.proofs.Nesting.{nesting}
use Rattle.claims.proofs.Characters.{wish5}
use Rattle.claims.proofs.Rooms.{rooms}
use Rattle.claims.proofs.Rewriting.{wish13}
use Rattle.claims.proofs.ScanNames.{wish10}
use Rattle.claims.proofs.Depot.{wish4}
use Rattle.totals.proofs.count_blob.Met as count-blob-code

-- ---- a function whose contract is an equation with a definition
record Proved {A B : Type 0} (f : Fn A B) (definition : A → B) : Type 2 where
  met : Always f.function f.function.says
  told : (κs : Lfts f.function.ended.signature.lifetimes) (a : Args f.function.ended.signature κs) (r : Res f.function.ended.signature κs) (e : AtExit f.function.ended κs)
      → f.function.says κs a r e → f.seen κs r e ≡ definition (f.handed κs a)

module _ {A B : Type 0} (f : Fn A B) (definition : A → B) (p : Proved f definition) where
  -- what holds of the definition holds of every call
  every : (said : A → B → Type 0) → ((a : A) → said a (definition a)) → Every f said
  every said h = record { holds = so f.function f.function.says _ (λ κs a r e q. subst (said (f.handed κs a)) (sym (p.told κs a r e q)) (h (f.handed κs a))) p.met }

  gives : OneResult f.function → Gives f definition
  gives one = record { gives = every (λ a seen. seen ≡ definition a) (λ a. refl); one_result = one }

  -- where what is seen is all that is returned and left
  one_by : ((κs : Lfts f.function.ended.signature.lifetimes) (a : Args f.function.ended.signature κs) (r r' : Res f.function.ended.signature κs) (x y : Lasts f.function.ended κs a)
      → f.seen κs r (at_exit f.function.ended κs a x) ≡ f.seen κs r' (at_exit f.function.ended κs a y) → (r ≡ r') × (x ≡ y)) → OneResult f.function
  one_by all κs a r r' x y k l = all κs a r r' x y (p.told κs a r _ k ∙ sym (p.told κs a r' _ l))

  call_told : (c : Call f) → seen c ≡ definition (handed c)
  call_told c = p.told c.κs c.args c.result _ c.allowed

  by_words : (c d : Call f) → handed c ≡ handed d → seen c ≡ seen d
  by_words c d e = call_told c ∙ ap definition e ∙ sym (call_told d)

-- the stream of a call is a list of bytes
module _ {A B : Type 0} (f : Fn A B) (definition : A → B) (p : Proved f definition) (stream : A → List ℕ) (tells : Tells f.function (λ κs a. Bytes (stream (f.handed κs a)))) where
  every_bytes : (said : A → B → Type 0) → ((a : A) → Bytes (stream a) → said a (definition a)) → Every f said
  every_bytes said h = record {
    holds = knowing f.function (λ κs a. Bytes (stream (f.handed κs a))) f.function.says _ tells
        (λ κs a r e q small. subst (said (f.handed κs a)) (sym (p.told κs a r e q)) (h (f.handed κs a) small)) p.met;
  }

-- two calls over one stream: the newer call's is the older's
module _ (f : Fn Blob Exit) (definition : List ℕ → List ℕ → List ℕ → List ℕ → Exit) (p : Proved f (λ a. definition a.table a.stream a.controls a.properties)) where
  both_told : (c d : Call f) (R : Exit → Exit → Type 0)
      → R (definition (handed c).table (handed c).stream (handed c).controls (handed c).properties) (definition (handed d).table (handed c).stream (handed d).controls (handed d).properties)
      → (handed c).stream ≡ (handed d).stream → R (seen c) (seen d)
  both_told c d R h e =
      subst (λ x. R x (seen d)) (sym (call_told f _ p c))
      (subst (R (definition (handed c).table (handed c).stream (handed c).controls (handed c).properties)) (sym (call_told f _ p d ∙ ap (λ s. definition (handed d).table s (handed d).controls (handed d).properties) (sym e))) h)

-- ---- read_blob
abbrev exit_of_blob : Blob → Exit
exit_of_blob a = exit a.table a.stream a.controls a.properties

module _ (f : Fn Blob Exit) (p : Proved f exit_of_blob) (one : OneResult f.function) (tells : Tells f.function (λ κs a. Bytes (f.handed κs a).stream)) (allows : (a : Blob) → (c : Call f) × (handed c ≡ a)) where
  read_blobs : calls.ReadBlob f
  read_blobs = record {
    met = p.met;
    is_exit = every f exit_of_blob p _ (λ a. refl);
    bytes = every_bytes f exit_of_blob p (λ (a : Blob). a.stream) tells _ (λ a small. small);
    demand1 = every f exit_of_blob p _ (λ a. demand1.blobs a.table a.stream a.controls a.properties);
    demand2 = every_bytes f exit_of_blob p (λ (a : Blob). a.stream) tells _ (λ a. demand2.accepted a.table a.stream a.controls a.properties);
    demand2_judges = every_bytes f exit_of_blob p (λ (a : Blob). a.stream) tells _ (λ a. demand2.judges a.table a.stream a.controls a.properties);
    demand3 = λ c d h o. both_told f exit p c d (SameBut _ _ _ _ _) (demand3.chosen-same_but _ _ _ _ _ h.successor h.same_room o) h.same_stream;
    demand3_later = λ c d h n. both_told f exit p c d (Same _ _) (demand3.later_same _ _ _ _ _ h.successor h.same_room n) h.same_stream;
    counts = every f exit_of_blob p _ (λ a. counts_hold.blobs a.table a.stream a.controls a.properties);
    later_judges = every_bytes f exit_of_blob p (λ (a : Blob). a.stream) tells _ (λ a small. later-tree.judges a.table a.stream a.controls a.properties small);
    scan-named = every_bytes f exit_of_blob p (λ (a : Blob). a.stream) tells _ (λ a small. wish10.text-named a.table a.stream a.controls a.properties small);
    stored = every_bytes f exit_of_blob p (λ (a : Blob). a.stream) tells _ (λ a small. row-checks.stored a.stream small);
    items = every_bytes f exit_of_blob p (λ (a : Blob). a.stream) tells _ (λ a small. row-checks.items a.table a.stream a.controls a.properties small);
    row-checks = every f exit_of_blob p _ (λ a. row-checks.checks a.table a.stream a.controls a.properties);
    nested = every f exit_of_blob p _ (λ a. nesting.nested a.table a.stream a.controls a.properties);
    lists_2000 = every f exit_of_blob p _ (λ a. nesting.lists_2000 a.table a.stream a.controls a.properties);
    lists-later = every_bytes f exit_of_blob p (λ (a : Blob). a.stream) tells _ (λ a small. nesting.lists-later a.table a.stream a.controls a.properties small);
    formed = every f exit_of_blob p _ (λ a. wish5.formed a.table a.stream a.controls a.properties);
    bounds = every f exit_of_blob p _ (λ a. rooms.bounds a.table a.stream a.controls a.properties);
    room-enough = every f exit_of_blob p _ (λ a. rooms.enough a.table a.stream a.controls a.properties);
    one_result = one;
    by_words = by_words f exit_of_blob p;
    allows = allows;
  }

-- what a Blob reader leaves in the four that it is handed
abbrev exit_left : Exit → Unit {0} × (Unit {0} × (List ℕ × (List ℕ × Unit {0})))
exit_left e = (tt, (tt, (e.controls, (e.properties, tt))))

crates_read_blob : Proved (f.crates).read_blob exit_of_blob
crates_read_blob = record {
  met = λ w. read-blob-code.met w.𝓤 w.𝓛 w.𝓜 w.𝓡;
  told = λ κs a r e q. q;
}

crates_one : OneResult (f.crates).read_blob.function
crates_one = one_by (f.crates).read_blob exit_of_blob crates_read_blob (λ κs a r r' x y s. (ap (λ e. e.answer) s, ap exit_left s))

exported_read_blob : Proved (f.exported).read_blob exit_of_blob
exported_read_blob = record {
  met = told (f.exported).read_blob.function (λ w κs a r e. exported-read-blob-clauses.ensures κs a tt r e w) _ (λ w κs a r e. three_facts w.𝓤 _ _ _) (λ w. exported-read-blob-code.met w.𝓤 w.𝓛 w.𝓜 w.𝓡);
  told = λ κs a r e (answer, (controls, properties)) i. record { answer = taken_answer (answer i); controls = controls i; properties = properties i };
}

exported_one : OneResult (f.exported).read_blob.function
exported_one = one_by (f.exported).read_blob exit_of_blob exported_read_blob (λ κs a r r' x y s. (ap (λ e. handed_answer e.answer) s, ap exit_left s))

-- a call of any words: slices that hold them at some place, and what is left in them
abbrev Slice : Type 0
Slice = Bor (List ℕ)

abbrev Buffer : Type 0
Buffer = MutBor (List ℕ)

abbrev somewhere : List ℕ → Slice
somewhere words = record { ref_ptr = (0, 0); now = words }

abbrev buffer : List ℕ → Buffer
buffer words = record { ref_ptr = (0, 0); ghost_name = 0; now = words }

abbrev args_of : Blob → Slice × (Slice × (Buffer × (Buffer × Unit {0})))
args_of a = (somewhere a.table, (somewhere a.stream, (buffer a.controls, (buffer a.properties, tt))))

abbrev lifetimes : Lfts 4
lifetimes = ([], ([], ([], ([], tt))))

crates_allows : (a : Blob) → (c : Call (f.crates).read_blob) × (handed c ≡ a)
crates_allows a = (record { κs = lifetimes; args = args_of a; result = (exit_of_blob a).answer; left = exit_left (exit_of_blob a); allowed = refl }, refl)

exported_allows : (a : Blob) → (c : Call (f.exported).read_blob) × (handed c ≡ a)
exported_allows a = (record { κs = lifetimes; args = args_of a; result = handed_answer (exit_of_blob a).answer; left = exit_left (exit_of_blob a); allowed = (refl, (refl, refl)) }, refl)

-- ---- read_2000
abbrev exit_2000 : Blob → Exit
exit_2000 a = exit2000 a.table a.stream a.controls a.properties

module _ (f : Fn Blob Exit) (p : Proved f exit_2000) (one : OneResult f.function) (tells : Tells f.function (λ κs a. Bytes (f.handed κs a).stream)) (allows : (a : Blob) → (c : Call f) × (handed c ≡ a)) where
  reads_2000 : calls.Read2000 f
  reads_2000 = record {
    met = p.met;
    is_exit = every f exit_2000 p _ (λ a. refl);
    bytes = every_bytes f exit_2000 p (λ (a : Blob). a.stream) tells _ (λ a small. small);
    demand1 = every f exit_2000 p _ (λ a. wish8.reads_2000 a.table a.stream a.controls a.properties);
    demand2 = every_bytes f exit_2000 p (λ (a : Blob). a.stream) tells _ (λ a small given enough.
        subst (λ x. (x.answer.number ≡ 0) ↔ Spelled a.stream) ((wish8.agree a.table a.stream a.controls a.properties).for_2000 given.old-layout)
        (demand2.accepted a.table a.stream a.controls a.properties small given enough));
    demand2_judges = every_bytes f exit_2000 p (λ (a : Blob). a.stream) tells _ (λ a small given.
        subst (λ x. Judges a.table a.stream x.answer) ((wish8.agree a.table a.stream a.controls a.properties).for_2000 given.old-layout)
        (demand2.judges a.table a.stream a.controls a.properties small given));
    demand3 = λ c d h. both_told f exit2000 p c d (SameBut _ _ _ _ _) (demand3.same_but _ _ _ _ _ h.successor h.same_room) h.same_stream;
    nested = every f exit_2000 p _ (λ a. nesting.reader_2000 a.table a.stream a.controls a.properties);
    one_result = one;
    by_words = by_words f exit_2000 p;
    allows = allows;
  }

-- ---- read_later
abbrev exit_of_later : Later → Exit
exit_of_later a = exit_later a.layout a.stream a.controls a.properties

module _ (f : Fn Later Exit) (p : Proved f exit_of_later) (one : OneResult f.function) (tells : Tells f.function (λ κs a. Bytes (f.handed κs a).stream)) (allows : (a : Later) → (c : Call f) × (handed c ≡ a)) where
  reads-later : calls.ReadLater f
  reads-later = record {
    met = p.met;
    is_exit = every f exit_of_later p _ (λ a. refl);
    bytes = every_bytes f exit_of_later p (λ (a : Later). a.stream) tells _ (λ a small. small);
    demand1 = every f exit_of_later p _ (λ a. wish8.reads-later a.layout a.stream a.controls a.properties);
    never_8 = every f exit_of_later p _ (λ a. wish8.never_8 a.layout a.stream a.controls a.properties);
    above_255 = every_bytes f exit_of_later p (λ (a : Later). a.stream) tells _ (λ a small. wish8.above_255 a.layout a.stream a.controls a.properties small);
    nested = every_bytes f exit_of_later p (λ (a : Later). a.stream) tells _ (λ a small. nesting.reader_later a.layout a.stream a.controls a.properties small);
    one_result = one;
    by_words = by_words f exit_of_later p;
    allows = allows;
  }

-- ---- the readers agree
agree_calls : (choice of_2000 : Fn Blob Exit) (of_later : Fn Later Exit) → Proved choice exit_of_blob → Proved of_2000 exit_2000 → Proved of_later exit_of_later → calls.ReadersAgree choice of_2000 of_later
agree_calls choice of_2000 of_later p q r c d e same told_of =
    let a = handed c in
    subst (λ x. Agree a.table a.stream a.controls a.properties x (seen d) (seen e)) (sym (call_told choice exit_of_blob p c))
    (subst (λ x. Agree a.table a.stream a.controls a.properties (exit_of_blob a) x (seen e)) (sym (call_told of_2000 exit_2000 q d ∙ ap exit_2000 same))
    (subst (λ x. Agree a.table a.stream a.controls a.properties (exit_of_blob a) (exit_2000 a) x) (sym (call_told of_later exit_of_later r e ∙ ap exit_of_later told_of))
    (wish8.agree a.table a.stream a.controls a.properties)))

-- ---- both, as the crates have them and as C and Rust have them
crates_read_2000 : Proved (f.crates).read_2000 exit_2000
crates_read_2000 = record { met = λ w. read-2000-code.met w.𝓤 w.𝓛 w.𝓜 w.𝓡; told = λ κs a r e q. q }

crates_read_later : Proved (f.crates).read_later exit_of_later
crates_read_later = record { met = λ w. read-later-code.met w.𝓤 w.𝓛 w.𝓜 w.𝓡; told = λ κs a r e q. q }

exported_read_2000 : Proved (f.exported).read_2000 exit_2000
exported_read_2000 = record {
  met = told (f.exported).read_2000.function (λ w κs a r e. exported-read-2000-clauses.ensures κs a tt r e w) _ (λ w κs a r e. three_facts w.𝓤 _ _ _) (λ w. exported-read-2000-code.met w.𝓤 w.𝓛 w.𝓜 w.𝓡);
  told = λ κs a r e (answer, (controls, properties)) i. record { answer = taken_answer (answer i); controls = controls i; properties = properties i };
}

exported_read_later : Proved (f.exported).read_later exit_of_later
exported_read_later = record {
  met = told (f.exported).read_later.function (λ w κs a r e. exported-read-later-clauses.ensures κs a tt r e w) _ (λ w κs a r e. three_facts w.𝓤 _ _ _) (λ w. exported-read-later-code.met w.𝓤 w.𝓛 w.𝓜 w.𝓡);
  told = λ κs a r e (answer, (controls, properties)) i. record { answer = taken_answer (answer i); controls = controls i; properties = properties i };
}

crates_one_2000 : OneResult (f.crates).read_2000.function
crates_one_2000 = one_by (f.crates).read_2000 exit_2000 crates_read_2000 (λ κs a r r' x y s. (ap (λ e. e.answer) s, ap exit_left s))

crates_one_later : OneResult (f.crates).read_later.function
crates_one_later = one_by (f.crates).read_later exit_of_later crates_read_later (λ κs a r r' x y s. (ap (λ e. e.answer) s, ap exit_left s))

exported_one_2000 : OneResult (f.exported).read_2000.function
exported_one_2000 = one_by (f.exported).read_2000 exit_2000 exported_read_2000 (λ κs a r r' x y s. (ap (λ e. handed_answer e.answer) s, ap exit_left s))

exported_one_later : OneResult (f.exported).read_later.function
exported_one_later = one_by (f.exported).read_later exit_of_later exported_read_later (λ κs a r r' x y s. (ap (λ e. handed_answer e.answer) s, ap exit_left s))

abbrev later_args : Later → ℕ × (Slice × (Buffer × (Buffer × Unit {0})))
later_args a = (a.layout, (somewhere a.stream, (buffer a.controls, (buffer a.properties, tt))))

crates_allows_2000 : (a : Blob) → (c : Call (f.crates).read_2000) × (handed c ≡ a)
crates_allows_2000 a = (record { κs = lifetimes; args = args_of a; result = (exit_2000 a).answer; left = exit_left (exit_2000 a); allowed = refl }, refl)

exported_allows_2000 : (a : Blob) → (c : Call (f.exported).read_2000) × (handed c ≡ a)
exported_allows_2000 a = (record { κs = lifetimes; args = args_of a; result = handed_answer (exit_2000 a).answer; left = exit_left (exit_2000 a); allowed = (refl, (refl, refl)) }, refl)

crates_allows_later : (a : Later) → (c : Call (f.crates).read_later) × (handed c ≡ a)
crates_allows_later a = (record { κs = ([], ([], ([], tt))); args = later_args a; result = (exit_of_later a).answer; left = exit_left (exit_of_later a); allowed = refl }, refl)

exported_allows_later : (a : Later) → (c : Call (f.exported).read_later) × (handed c ≡ a)
exported_allows_later a = (record { κs = ([], ([], ([], tt))); args = later_args a; result = handed_answer (exit_of_later a).answer; left = exit_left (exit_of_later a); allowed = (refl, (refl, refl)) }, refl)

-- ---- the functions of two clauses
abbrev info_of : f.TypeInfo → TypeInfoExit
info_of a = type_info_exit a.stream a.rows

crates_read_type_info : Proved (f.crates).read_type_info info_of
crates_read_type_info = record {
  met = told (f.crates).read_type_info.function (λ w κs a r e. read-type-info-clauses.ensures κs a tt r e w) _ (λ w κs a r e. both_facts w.𝓤 _ _) (λ w. read-type-info-code.met w.𝓤 w.𝓛 w.𝓜 w.𝓡);
  told = λ κs a r e q i. record { answer = q.0 i; rows = q.1 i };
}

exported_read_type_info : Proved (f.exported).read_type_info info_of
exported_read_type_info = record {
  met = told (f.exported).read_type_info.function (λ w κs a r e. exported-read-type-info-clauses.ensures κs a tt r e w) _ (λ w κs a r e. both_facts w.𝓤 _ _) (λ w. exported-read-type-info-code.met w.𝓤 w.𝓛 w.𝓜 w.𝓡);
  told = λ κs a r e q i. record { answer = taken_answer (q.0 i); rows = q.1 i };
}

read_type_infos : (f : Fn f.TypeInfo TypeInfoExit) → Proved f info_of → OneResult f.function → calls.ReadTypeInfo f
read_type_infos f p one = record {
  is_exit = every f _ p _ (λ a. refl);
  demand1 = every f _ p _ (λ a. demand1.type-infos a.stream a.rows);
  counts = every f _ p _ (λ a. counts_hold.type-infos a.stream a.rows);
  cut-names = every f _ p _ (λ a. wish6.cut-names a.stream a.rows);
  room-enough = every f _ p _ (λ a. rooms.enough-infos a.stream a.rows);
  one_result = one;
}

guid_texts : (f : Fn f.Guid TextExit) → Proved f (λ a. guid_exit a.guid a.out) → OneResult f.function → calls.GuidText f
guid_texts f p one = record {
  is_exit = every f _ p _ (λ a. refl);
  demand1 = every f _ p _ (λ a. demand1.guids a.guid a.out);
  one_result = one;
}

label_texts : (f : Fn f.Label TextExit) → Proved f (λ a. label_exit a.n a.out) → OneResult f.function → calls.LabelText f
label_texts f p one = record {
  is_exit = every f _ p _ (λ a. refl);
  demand1 = every f _ p _ (λ a. demand1.labels a.n a.out);
  one_result = one;
}

names_written : {A : Type 0} (f : Fn A TextExit) (table : A → NameTable) (id : A → ℕ) (out : A → List ℕ) → Proved f (λ a. name_exit (table a) (id a) (out a))
    → OneResult f.function → calls.NameWritten A f table id out
names_written f table id out p one = record { is_exit = every f _ p _ (λ a. refl); demand1 = every f _ p _ (λ a. demand1.names (table a) (id a) (out a)); one_result = one }

-- ---- join
module _ (g : Fn f.Join TextExit) (p : Proved g join_of) (one : OneResult g.function)
    (one-tells : Tells g.function (λ κs a. Bytes (g.handed κs a).one)) (other-tells : Tells g.function (λ κs a. Bytes (g.handed κs a).other))
    (allows : (a : f.Join) → (c : Call g) × (handed c ≡ a)) where
  abbrev one_too : Saying g.function.ended
  one_too κs a r e = g.function.says κs a r e × Bytes (g.handed κs a).one

  -- the tables of a call are lists of bytes: each is told by itself
  every_tables : (said : f.Join → TextExit → Type 0) → ((a : f.Join) → Bytes a.one → Bytes a.other → said a (join_of a)) → Every g said
  every_tables said h = record {
    holds = knowing g.function (λ κs a. Bytes (g.handed κs a).other) one_too _ other-tells
        (λ κs a r e q small. subst (said (g.handed κs a)) (sym (p.told κs a r e q.0)) (h (g.handed κs a) q.1 small))
        (knowing g.function (λ κs a. Bytes (g.handed κs a).one) g.function.says one_too one-tells (λ κs a r e q small. (q, small)) p.met);
  }

  told_of : (one other : List ℕ) (c : Call g) → calls.Of g one other c → seen c ≡ join_exit one other (handed c).out
  told_of one other c o = call_told g join_of p c ∙ ap₂ (λ a b. join_exit a b (handed c).out) o.first o.second

  -- what is had after two calls
  chain : (x : TextExit) (then : List ℕ → TextExit) (x' : TextExit) (then' : List ℕ → TextExit) → x ≡ x' → ((t : List ℕ) → then t ≡ then' t)
      → (result x >>= λ t. result (then t)) ≡ (result x' >>= λ t. result (then' t))
  chain x then x' then' e h = ap (λ y. result y >>= λ t. result (then t)) e ∙ after (result x')
    where
      after : (o : Option (List ℕ)) → (o >>= λ t. result (then t)) ≡ (o >>= λ t. result (then' t))
      after none = refl
      after (some t) = ap result (h t)

  joins : calls.JoinTables g
  joins = record {
    is_exit = every g join_of p _ (λ a. refl);
    demand1 = every g join_of p _ (λ a. wish9.answers a.one a.other a.out);
    bytes = every_tables _ (λ a A B. (A, B));
    together = every_tables _ (λ a A B t e. wish9.together a.one a.other a.out t A B e);
    behind = every g join_of p _ (λ a t e. wish9.behind a.one a.other a.out t e);
    first_gains = every_tables _ (λ a A B t s l l' e. wish9.first_gains a.one a.other a.out t s l l' A B e);
    second_gains = every_tables _ (λ a A B t s l l' e. wish9.second_gains a.one a.other a.out t s l l' A B e);
    with_itself = every_tables _ (λ a A B e w room. ap (λ t. result (join_exit a.one t a.out)) (sym e) ∙ wish12.with_itself a.one a.out (record { bytes = A; formed = w }) room);
    two_orders = λ c d h A B room room'.
        ap result (call_told g join_of p c)
        ∙ wish12.two_orders (handed c).one (handed c).other (handed c).out (handed d).out A B room room'
        ∙ ap₂ (λ a b. result (join_exit a b (handed d).out)) h.second h.first
        ∙ sym (ap result (call_told g join_of p d));
    two_groupings = λ a b c A B C ab bc Ab Bc ab-c a-bc Abc aBc.
        chain (seen ab) (λ t. seen (ab-c t)) _ (λ t. join_exit t c (handed (ab-c t)).out) (told_of a b ab Ab) (λ t. told_of t c (ab-c t) (Abc t))
        ∙ wish12.two_groupings a b c (handed ab).out (handed bc).out (λ t. (handed (ab-c t)).out) (λ t. (handed (a-bc t)).out) A B C Ab.room (λ t. (Abc t).room) Bc.room (λ t. (aBc t).room)
        ∙ sym (chain (seen bc) (λ t. seen (a-bc t)) _ (λ t. join_exit a t (handed (a-bc t)).out) (told_of b c bc Bc) (λ t. told_of a t (a-bc t) (aBc t)));
    same-exit = λ c d h e.
        call_told g join_of p c
        ∙ wish12.same-exit (handed c).one (handed c).other (handed c).out
        ∙ (λ i. join_exit (h.second i) (h.first i) (e i))
        ∙ sym (call_told g join_of p d);
    plans = plans_carried g (call_told g join_of p) allows;
    room-enough = every_tables _ (λ a A B room. wish12.room-enough a.one a.other a.out A B room);
    one_result = one;
    allows = allows;
  }

abbrev join_args : f.Join → Slice × (Slice × (Buffer × Unit {0}))
join_args a = (somewhere a.one, (somewhere a.other, (buffer a.out, tt)))

crates_join_allows : (a : f.Join) → (c : Call (f.crates).join) × (handed c ≡ a)
crates_join_allows a = (record { κs = ([], ([], ([], tt))); args = join_args a; result = (join_of a).answer; left = (tt, (tt, ((join_of a).out, tt))); allowed = (refl, refl) }, refl)

exported_join_allows : (a : f.Join) → (c : Call (f.exported).join) × (handed c ≡ a)
exported_join_allows a = (record { κs = ([], ([], ([], tt))); args = join_args a; result = handed_answer (join_of a).answer; left = (tt, (tt, ((join_of a).out, tt))); allowed = (refl, refl) }, refl)

-- ---- rewrite
abbrev rewrite_of : f.Rewrite → TextExit
rewrite_of a = rewrite_exit a.stream a.out

module _ (g : Fn f.Rewrite TextExit) (p : Proved g rewrite_of) (one : OneResult g.function) (tells : Tells g.function (λ κs a. Bytes (g.handed κs a).stream))
    (allows : (a : f.Rewrite) → (c : Call g) × (handed c ≡ a)) where
  rewrite_streams : calls.RewriteStream g
  rewrite_streams = record {
    met = p.met;
    is_exit = every g rewrite_of p _ (λ a. refl);
    bytes = every_bytes g rewrite_of p (λ (a : f.Rewrite). a.stream) tells _ (λ a small. small);
    demand1 = every g rewrite_of p _ (λ a. wish13.answers a.stream a.out);
    refused = every_bytes g rewrite_of p (λ (a : f.Rewrite). a.stream) tells _ (λ a small. wish13.refused a.stream a.out small);
    rewrites = every_bytes g rewrite_of p (λ (a : f.Rewrite). a.stream) tells _ (λ a small r. wish13.rewrites a.stream a.out r small);
    beyond = every g rewrite_of p _ (λ a. wish13.beyond a.stream a.out);
    room-enough = every_bytes g rewrite_of p (λ (a : f.Rewrite). a.stream) tells _ (λ a small. wish13.room-enough a.stream a.out small);
    one_spelling = λ c d t e h k r r' x y.
        wish13.one_spelling (handed c).stream (handed d).stream (handed c).out (handed d).out r r' t e h k
        (sym (ap result (call_told g rewrite_of p c)) ∙ x) (sym (ap result (call_told g rewrite_of p d)) ∙ y);
    one_result = one;
    allows = allows;
  }

abbrev rewrite_args : f.Rewrite → Slice × (Buffer × Unit {0})
rewrite_args a = (somewhere a.stream, (buffer a.out, tt))

crates_rewrite_allows : (a : f.Rewrite) → (c : Call (f.crates).rewrite) × (handed c ≡ a)
crates_rewrite_allows a = (record { κs = ([], ([], tt)); args = rewrite_args a; result = (rewrite_of a).answer; left = (tt, ((rewrite_of a).out, tt)); allowed = (refl, refl) }, refl)

exported_rewrite_allows : (a : f.Rewrite) → (c : Call (f.exported).rewrite) × (handed c ≡ a)
exported_rewrite_allows a = (record { κs = ([], ([], tt)); args = rewrite_args a; result = handed_answer (rewrite_of a).answer; left = (tt, ((rewrite_of a).out, tt)); allowed = (refl, refl) }, refl)

-- a stream and its rewritten stream, by a reader whose definition shows the same rows of both
rewritten_reads : (g : Fn Blob Exit) (definition : List ℕ → List ℕ → List ℕ → List ℕ → Exit) → Proved g (λ a. definition a.table a.stream a.controls a.properties)
    → ((s r : List ℕ) → Rewrites s r → (table : List ℕ) → Given table s → (lent lent' : Lent) → SameRoom lent lent'
    → SameRows s r (definition table s lent.controls lent.properties) (definition table r lent'.controls lent'.properties))
    → calls.RewrittenRead g
rewritten_reads g definition p same s r w c d b =
    let read : seen c ≡ definition (handed c).table s (handed c).controls (handed c).properties = call_told g _ p c ∙ ap (λ x. definition (handed c).table x (handed c).controls (handed c).properties) b.of_s in
    let read' : seen d ≡ definition (handed c).table r (handed d).controls (handed d).properties = call_told g _ p d ∙ ap₂ (λ t x. definition t x (handed d).controls (handed d).properties) (sym b.same_table) b.of_r in
    subst (λ x. SameRows s r x (seen d)) (sym read) (subst (SameRows s r (definition (handed c).table s (handed c).controls (handed c).properties)) (sym read')
    (same s r w (handed c).table b.given (calls.lent (handed c)) (calls.lent (handed d)) b.same_room))

-- ---- pair
abbrev pair_of : f.Pair → PairExit
pair_of a = pair_exit a.stream a.controls a.control_count a.info_stream a.infos a.info_count

pair_rows : (g : Fn f.Pair PairExit) → Proved g pair_of → OneResult g.function → ((a : f.Pair) → (c : Call g) × (handed c ≡ a)) → calls.PairRows g
pair_rows g p one allows = record {
  is_exit = every g pair_of p _ (λ a. refl);
  pairs = every g pair_of p _ (λ a. wish2.pairs a.stream a.controls a.control_count a.info_stream a.infos a.info_count);
  again = λ c d h.
      let a = handed c in
      call_told g pair_of p d
      ∙ (λ i. pair_exit (h.same_stream i) (h.left_rows i) (h.same_count i) (h.same_info_stream i) (h.same_infos i) (h.same_info_count i))
      ∙ ap (λ x. pair_exit a.stream x.controls a.control_count a.info_stream a.infos a.info_count) (call_told g pair_of p c)
      ∙ wish2.again a.stream a.controls a.control_count a.info_stream a.infos a.info_count
      ∙ sym (call_told g pair_of p c);
  one_result = one;
  allows = allows;
}

module _ {A : Type 0} (blob : Fn A Exit) (exit_by : A → Exit) (stream-of : A → List ℕ) (info : Fn f.TypeInfo TypeInfoExit) (pair : Fn f.Pair PairExit)
    (b : Proved blob exit_by) (i : Proved info info_of) (p : Proved pair pair_of)
    (claimed : (a : A) (t rows : List ℕ) → NeverRefused (stream-of a) t (exit_by a) (type_info_exit t rows)) where
  never_refused : calls.NeverRefused blob stream-of info pair
  never_refused c d e zero-c zero-d h =
      let told-c = call_told blob exit_by b c in
      let told-d = call_told info info_of i d in
      ap (λ x. x.answer.number)
      (call_told pair pair_of p e
      ∙ (λ j. pair_exit (h.its_stream j) (h.its_controls j) (h.its-count j) (h.its_info_stream j) (h.its_infos j) (h.its_info_count j))
      ∙ (λ j. pair_exit (stream-of (handed c)) (told-c j).controls (told-c j).answer.first (handed d).stream (told-d j).rows (told-d j).answer.first))
      ∙ claimed (handed c) (handed d).stream (handed d).rows
      (sym (ap (λ x. x.answer.number) told-c) ∙ zero-c) (sym (ap (λ x. x.answer.number) told-d) ∙ zero-d)

abbrev pair_args : f.Pair → Slice × (Buffer × (ℕ × (Slice × (Slice × (ℕ × Unit {0})))))
pair_args a = (somewhere a.stream, (buffer a.controls, (a.control_count, (somewhere a.info_stream, (somewhere a.infos, (a.info_count, tt))))))

crates_pair : Proved (f.crates).pair pair_of
crates_pair = record {
  met = told (f.crates).pair.function (λ w κs a r e. pair-clauses.ensures κs a tt r e w) _ (λ w κs a r e. both_facts w.𝓤 _ _) (λ w. pair_code.met w.𝓤 w.𝓛 w.𝓜 w.𝓡);
  told = λ κs a r e q i. record { answer = q.0 i; controls = q.1 i };
}

exported_pair : Proved (f.exported).pair pair_of
exported_pair = record {
  met = told (f.exported).pair.function (λ w κs a r e. exported-pair-clauses.ensures κs a tt r e w) _ (λ w κs a r e. both_facts w.𝓤 _ _) (λ w. exported-pair-code.met w.𝓤 w.𝓛 w.𝓜 w.𝓡);
  told = λ κs a r e q i. record { answer = taken_answer (q.0 i); controls = q.1 i };
}

crates_pair_allows : (a : f.Pair) → (c : Call (f.crates).pair) × (handed c ≡ a)
crates_pair_allows a = (record { κs = ([], ([], ([], ([], tt)))); args = pair_args a; result = (pair_of a).answer; left = (tt, ((pair_of a).controls, (tt, (tt, (tt, (tt, tt)))))); allowed = (refl, refl) }, refl)

exported_pair_allows : (a : f.Pair) → (c : Call (f.exported).pair) × (handed c ≡ a)
exported_pair_allows a = (record { κs = ([], ([], ([], ([], tt)))); args = pair_args a; result = handed_answer (pair_of a).answer; left = (tt, ((pair_of a).controls, (tt, (tt, (tt, (tt, tt)))))); allowed = (refl, refl) }, refl)

-- ---- read_csv
abbrev exit_of_sheet : f.Sheet → FieldsExit
exit_of_sheet a = fields_exit a.text a.fields a.out

-- a text that is read with CR LF after it is read the same without
without_line : (s rows out : List ℕ) → ¬ ((fields_exit (s ++ crlf) rows out).answer.number ≡ 14) → fields_exit s rows out ≡ fields_exit (s ++ crlf) rows out
unfolding fields_exit
without_line s rows out n = go (fields_of (s ++ crlf)) refl n
  where
    go : (o : Option Fields) → fields_of (s ++ crlf) ≡ o → ¬ ((fields_by (fields_of (s ++ crlf)) rows out).answer.number ≡ 14)
        → fields_by (fields_of s) rows out ≡ fields_by (fields_of (s ++ crlf)) rows out
    go none e n = absurd (n (ap (λ o. (fields_by o rows out).answer.number) e))
    go (some fs) e n = ap (λ o. fields_by o rows out) (wish7.last_optional.without s fs e ∙ sym e)

-- and the other way round, unless it ends so already
with_line : (s rows out : List ℕ) → ¬ ((fields_exit s rows out).answer.number ≡ 14) → ((u : List ℕ) → ¬ (s ≡ u ++ crlf)) → fields_exit (s ++ crlf) rows out ≡ fields_exit s rows out
unfolding fields_exit
with_line s rows out n ends = go (fields_of s) refl n
  where
    more : (fs : Fields) → fields_of s ≡ some fs → (fields_of (s ++ crlf) ≡ some fs) ⊎ ((u : List ℕ) × (s ≡ u ++ crlf)) → fields_by (fields_of (s ++ crlf)) rows out ≡ fields_by (fields_of s) rows out
    more fs e (inl q) = ap (λ o. fields_by o rows out) (q ∙ sym e)
    more fs e (inr u) = absurd (ends u.0 u.1)

    go : (o : Option Fields) → fields_of s ≡ o → ¬ ((fields_by (fields_of s) rows out).answer.number ≡ 14) → fields_by (fields_of (s ++ crlf)) rows out ≡ fields_by (fields_of s) rows out
    go none e n = absurd (n (ap (λ o. (fields_by o rows out).answer.number) e))
    go (some fs) e n = more fs e (wish7.last_optional.and_with s fs e)

read_csvs : (g : Fn f.Sheet FieldsExit) → Proved g exit_of_sheet → OneResult g.function → ((a : f.Sheet) → (c : Call g) × (handed c ≡ a)) → calls.ReadCsv g
read_csvs g p one allows = record {
  is_exit = every g exit_of_sheet p _ (λ a. refl);
  reads = every g exit_of_sheet p _ (λ a. wish7.reads a.text a.fields a.out);
  last_optional = λ c d h n.
      let a = handed c in
      let longer = call_told g exit_of_sheet p d ∙ (λ i. fields_exit (h.with_line i) (h.same_fields i) (h.same_out i)) in
      call_told g exit_of_sheet p c ∙ without_line a.text a.fields a.out (λ e. n (ap (λ (x : FieldsExit). x.answer.number) longer ∙ e)) ∙ sym longer;
  one_more = λ c d h n ends.
      let a = handed c in
      let shorter = call_told g exit_of_sheet p c in
      call_told g exit_of_sheet p d ∙ (λ i. fields_exit (h.with_line i) (h.same_fields i) (h.same_out i))
      ∙ with_line a.text a.fields a.out (λ e. n (ap (λ (x : FieldsExit). x.answer.number) shorter ∙ e)) ends ∙ sym shorter;
  one_result = one;
  allows = allows;
}

abbrev sheet_args : f.Sheet → Slice × (Buffer × (Buffer × Unit {0}))
sheet_args a = (somewhere a.text, (buffer a.fields, (buffer a.out, tt)))

crates_read_csv : Proved (f.crates).read_csv exit_of_sheet
crates_read_csv = record {
  met = told (f.crates).read_csv.function (λ w κs a r e. read-csv-clauses.ensures κs a tt r e w) _ (λ w κs a r e. three_facts w.𝓤 _ _ _) (λ w. read-csv-code.met w.𝓤 w.𝓛 w.𝓜 w.𝓡);
  told = λ κs a r e (answer, (fields, out)) i. record { answer = answer i; rows = fields i; out = out i };
}

exported_read_csv : Proved (f.exported).read_csv exit_of_sheet
exported_read_csv = record {
  met = told (f.exported).read_csv.function (λ w κs a r e. exported-read-csv-clauses.ensures κs a tt r e w) _ (λ w κs a r e. three_facts w.𝓤 _ _ _) (λ w. exported-read-csv-code.met w.𝓤 w.𝓛 w.𝓜 w.𝓡);
  told = λ κs a r e (answer, (fields, out)) i. record { answer = taken_answer (answer i); rows = fields i; out = out i };
}

abbrev fields_left : FieldsExit → Unit {0} × (List ℕ × (List ℕ × Unit {0}))
fields_left e = (tt, (e.rows, (e.out, tt)))

crates_csv_allows : (a : f.Sheet) → (c : Call (f.crates).read_csv) × (handed c ≡ a)
crates_csv_allows a = (record { κs = ([], ([], ([], tt))); args = sheet_args a; result = (exit_of_sheet a).answer; left = fields_left (exit_of_sheet a); allowed = (refl, (refl, refl)) }, refl)

exported_csv_allows : (a : f.Sheet) → (c : Call (f.exported).read_csv) × (handed c ≡ a)
exported_csv_allows a = (record { κs = ([], ([], ([], tt))); args = sheet_args a; result = handed_answer (exit_of_sheet a).answer; left = fields_left (exit_of_sheet a); allowed = (refl, (refl, refl)) }, refl)

-- ---- write_csv
abbrev exit_of_text : f.BlobText → CsvExit
exit_of_text a = csv_exit a.table a.stream a.controls a.properties a.out

write_csvs : (g : Fn f.BlobText CsvExit) → Proved g exit_of_text → OneResult g.function → ((a : f.BlobText) → (c : Call g) × (handed c ≡ a)) → calls.WriteCsv g
write_csvs g p one allows = record {
  is_exit = every g exit_of_text p _ (λ a. refl);
  writes = every g exit_of_text p _ (λ a. wish7.writes a.table a.stream a.controls a.properties a.out);
  one_result = one;
  allows = allows;
}

written_rows : (g : Fn f.Blob Exit) (h : Fn f.BlobText CsvExit) → Proved g exit_of_blob → Proved h exit_of_text → calls.WrittenRows g h
written_rows g h p q c d same z =
    let a = handed d in
    let e = call_told h exit_of_text q d in
    let x = (wish7.writes a.table a.stream a.controls a.properties a.out).rows (ap (λ (y : CsvExit). y.answer.number) (sym e) ∙ z) in
    let b = (λ i. exit (same.same_table i) (same.same_stream i) (same.same-controls i) (same.same-properties i)) ∙ sym (call_told g exit_of_blob p c) in
    (ap (λ (y : CsvExit). y.controls) e ∙ x.0 ∙ ap (λ (y : Exit). y.controls) b, ap (λ (y : CsvExit). y.properties) e ∙ x.1 ∙ ap (λ (y : Exit). y.properties) b)

gives_back : (fs : Fields) (a : f.Sheet) → fields_of a.text ≡ some fs → calls.GivesBack fs a (exit_of_sheet a)
unfolding fields_exit
gives_back fs a k = rw k (go (ltb (countable (length a.out)) (length (concat fs)) || ltb (countable (room field_width a.fields)) (length fs)))
  where
    go : (b : Bool) → calls.GivesBack fs a (cond b
        (record { answer = refusal 13; rows = a.fields; out = a.out })
        (record { answer = answer 0 (length (concat fs)) (length fs) 0; rows = written (spans_from 0 fs) a.fields; out = concat fs ++ drop (length (concat fs)) a.out }))
    go true = record { of_the_grammar = λ e. omega (arith, e); bytes = λ e. absurd (omega (arith, e)); rows = λ e. absurd (omega (arith, e)) }
    go false = record { of_the_grammar = λ e. omega (arith, e); bytes = λ _. take_at (concat fs) _ (length (concat fs)) refl; rows = λ _. refl }

written_read_back : (g : Fn f.BlobText CsvExit) (h : Fn f.Sheet FieldsExit) → Proved g exit_of_text → Proved h exit_of_sheet → calls.WrittenReadBack g h
written_read_back g h p q c d k =
    let a = handed c in
    let e = call_told g exit_of_text p c in
    let x = (wish7.writes a.table a.stream a.controls a.properties a.out).read_back (ap (λ (y : CsvExit). y.answer.number) (sym e) ∙ k.wrote) in
    let t = k.lent ∙ ap (λ (y : CsvExit). take y.answer.first y.out) e in
    let fs = all_fields (sheet_of a.stream x.0) in
    (x.0, x.1, subst (calls.GivesBack fs (handed d)) (sym (call_told h exit_of_sheet q d)) (gives_back fs (handed d) (ap fields_of t ∙ x.2)))

crates_write_csv : Proved (f.crates).write_csv exit_of_text
crates_write_csv = record {
  met = λ w. write-csv-code.met w.𝓤 w.𝓛 w.𝓜 w.𝓡;
  told = λ κs a r e q. q;
}

exported_write_csv : Proved (f.exported).write_csv exit_of_text
exported_write_csv = record {
  met = told (f.exported).write_csv.function (λ w κs a r e. exported-write-csv-clauses.ensures κs a tt r e w) _ (λ w κs a r e. four_facts w.𝓤 _ _ _ _) (λ w. exported-write-csv-code.met w.𝓤 w.𝓛 w.𝓜 w.𝓡);
  told = λ κs a r e (answer, (controls, (properties, out))) i. record { answer = taken_answer (answer i); controls = controls i; properties = properties i; out = out i };
}

abbrev csv_left : CsvExit → Unit {0} × (Unit {0} × (List ℕ × (List ℕ × (List ℕ × Unit {0}))))
csv_left e = (tt, (tt, (e.controls, (e.properties, (e.out, tt)))))

crates_one_csv : OneResult (f.crates).write_csv.function
crates_one_csv = one_by (f.crates).write_csv exit_of_text crates_write_csv (λ κs a r r' x y s. (ap (λ e. e.answer) s, ap csv_left s))

exported_one_csv : OneResult (f.exported).write_csv.function
exported_one_csv = one_by (f.exported).write_csv exit_of_text exported_write_csv (λ κs a r r' x y s. (ap (λ e. handed_answer e.answer) s, ap csv_left s))

abbrev text_args : f.BlobText → Slice × (Slice × (Buffer × (Buffer × (Buffer × Unit {0}))))
text_args a = (somewhere a.table, (somewhere a.stream, (buffer a.controls, (buffer a.properties, (buffer a.out, tt)))))

crates_text_allows : (a : f.BlobText) → (c : Call (f.crates).write_csv) × (handed c ≡ a)
crates_text_allows a = (record { κs = ([], ([], ([], ([], ([], tt))))); args = text_args a; result = (exit_of_text a).answer; left = csv_left (exit_of_text a); allowed = refl }, refl)

exported_text_allows : (a : f.BlobText) → (c : Call (f.exported).write_csv) × (handed c ≡ a)
exported_text_allows a = (record { κs = ([], ([], ([], ([], ([], tt))))); args = text_args a; result = handed_answer (exit_of_text a).answer; left = csv_left (exit_of_text a); allowed = (refl, (refl, (refl, refl))) }, refl)

-- ---- check_panel
abbrev panel_of : Blob → Exit
panel_of a = panel_exit a.table a.stream a.controls a.properties

module _ (f : Fn Blob Exit) (p : Proved f panel_of) (one : OneResult f.function) (allows : (a : Blob) → (c : Call f) × (handed c ≡ a)) where
  check_panels : calls.CheckPanel f
  check_panels = record {
    met = p.met;
    is_exit = every f panel_of p _ (λ a. refl);
    unchanged = every f panel_of p _ (λ a. panel_unchanged a.table a.stream a.controls a.properties);
    filled = every f panel_of p _ (λ a. wish11.filled a.table a.stream a.controls a.properties);
    sourced = every f panel_of p _ (λ a. wish11.sourced a.table a.stream a.controls a.properties);
    older-no = λ c d h yes x o tree k n l at box q lacks.
        subst (λ e. NoSource k e.answer) (sym (call_told f panel_of p c))
        (wish11.older-no (handed c).table (handed d).table (handed c).stream (calls.lent (handed c)) (calls.lent (handed d)) h.successor h.same_room
        (ap (λ s. (panel_exit (handed d).table s (handed d).controls (handed d).properties).answer) h.same_stream ∙ ap (λ e. e.answer) (sym (call_told f panel_of p d)) ∙ yes)
        x o tree k n l at box q lacks);
    by_rows = λ c d e same.
        ap (λ e. e.answer) (call_told f panel_of p c)
        ∙ wish11.by_rows (handed c).table (handed c).stream (handed c).controls (handed c).properties (handed d).table (handed d).stream (handed d).controls (handed d).properties e same
        ∙ ap (λ e. e.answer) (sym (call_told f panel_of p d));
    one_result = one;
    by_words = by_words f panel_of p;
    allows = allows;
  }

module _ (reader : Fn Blob Exit) (f : Fn Blob Exit) (b : Proved reader exit_of_blob) (p : Proved f panel_of) where
  panel_reads : calls.PanelReads reader f
  panel_reads c d h =
      subst (λ e. calls.OnReading (handed d).stream e (seen d)) (sym (call_told reader exit_of_blob b c ∙ ap exit_of_blob h))
      (subst (calls.OnReading (handed d).stream (exit_of_blob (handed d))) (sym (call_told f panel_of p d)) (on_reading (handed d)))
    where
      on_reading : (a : Blob) → calls.OnReading a.stream (exit_of_blob a) (panel_of a)
      on_reading a = record {
        refused = wish11.refused a.table a.stream a.controls a.properties;
        accepted = wish11.accepted a.table a.stream a.controls a.properties;
        rows = wish11.rows a.table a.stream a.controls a.properties;
        judged = wish11.judged a.table a.stream a.controls a.properties;
      }

crates_check_panel : Proved (f.crates).check_panel panel_of
crates_check_panel = record {
  met = λ w. check-panel-code.met w.𝓤 w.𝓛 w.𝓜 w.𝓡;
  told = λ κs a r e q. q;
}

exported_check_panel : Proved (f.exported).check_panel panel_of
exported_check_panel = record {
  met = told (f.exported).check_panel.function (λ w κs a r e. exported-check-panel-clauses.ensures κs a tt r e w) _ (λ w κs a r e. three_facts w.𝓤 _ _ _) (λ w. exported-check-panel-code.met w.𝓤 w.𝓛 w.𝓜 w.𝓡);
  told = λ κs a r e (answer, (controls, properties)) i. record { answer = taken_answer (answer i); controls = controls i; properties = properties i };
}

crates_panel_allows : (a : Blob) → (c : Call (f.crates).check_panel) × (handed c ≡ a)
crates_panel_allows a = (record { κs = lifetimes; args = args_of a; result = (panel_of a).answer; left = exit_left (panel_of a); allowed = refl }, refl)

exported_panel_allows : (a : Blob) → (c : Call (f.exported).check_panel) × (handed c ≡ a)
exported_panel_allows a = (record { κs = lifetimes; args = args_of a; result = handed_answer (panel_of a).answer; left = exit_left (panel_of a); allowed = (refl, (refl, refl)) }, refl)

crates_panel_one : OneResult (f.crates).check_panel.function
crates_panel_one = one_by (f.crates).check_panel panel_of crates_check_panel (λ κs a r r' x y s. (ap (λ e. e.answer) s, ap exit_left s))

exported_panel_one : OneResult (f.exported).check_panel.function
exported_panel_one = one_by (f.exported).check_panel panel_of exported_check_panel (λ κs a r r' x y s. (ap (λ e. handed_answer e.answer) s, ap exit_left s))

-- ---- differences
list_differences : (g : Fn f.Differ DifferencesExit) → Proved g differences_of → OneResult g.function → ((a : f.Differ) → (c : Call g) × (handed c ≡ a)) → ListDifferences g
list_differences g p one allows = record {
  met = p.met;
  is_exit = every g differences_of p _ (λ a. refl);
  answers = every g differences_of p _ (λ a. all-differences.answers a.older a.newer a.stream a.rows);
  rows_stay = every g differences_of p _ (λ a. all-differences.rows_stay a.older a.newer a.stream a.rows);
  after = every g differences_of p _ (λ a. all-differences.after a.older a.newer a.stream a.rows);
  later = every g differences_of p _ (λ a. all-differences.later a.older a.newer a.stream a.rows);
  one_result = one;
  allows = allows;
}

crates_differences : Proved (f.crates).differences differences_of
crates_differences = record {
  met = λ w. differences-code.met w.𝓤 w.𝓛 w.𝓜 w.𝓡;
  told = λ κs a r e q. q;
}

exported_differences : Proved (f.exported).differences differences_of
exported_differences = record {
  met = told (f.exported).differences.function (λ w κs a r e. exported-differences-clauses.ensures κs a tt r e w) _ (λ w κs a r e. both_facts w.𝓤 _ _) (λ w. exported-differences-code.met w.𝓤 w.𝓛 w.𝓜 w.𝓡);
  told = λ κs a r e q i. record { answer = taken_answer (q.0 i); rows = q.1 i };
}

abbrev differ_args : f.Differ → Slice × (Slice × (Slice × (Buffer × Unit {0})))
differ_args a = (somewhere a.older, (somewhere a.newer, (somewhere a.stream, (buffer a.rows, tt))))

abbrev differ_left : DifferencesExit → Unit {0} × (Unit {0} × (Unit {0} × (List ℕ × Unit {0})))
differ_left e = (tt, (tt, (tt, (e.rows, tt))))

crates_differ_allows : (a : f.Differ) → (c : Call (f.crates).differences) × (handed c ≡ a)
crates_differ_allows a = (record { κs = lifetimes; args = differ_args a; result = (differences_of a).answer; left = differ_left (differences_of a); allowed = refl }, refl)

exported_differ_allows : (a : f.Differ) → (c : Call (f.exported).differences) × (handed c ≡ a)
exported_differ_allows a = (record { κs = lifetimes; args = differ_args a; result = handed_answer (differences_of a).answer; left = differ_left (differences_of a); allowed = (refl, refl) }, refl)

crates_differ_one : OneResult (f.crates).differences.function
crates_differ_one = one_by (f.crates).differences differences_of crates_differences (λ κs a r r' x y s. (ap (λ e. e.answer) s, ap differ_left s))

exported_differ_one : OneResult (f.exported).differences.function
exported_differ_one = one_by (f.exported).differences differences_of exported_differences (λ κs a r r' x y s. (ap (λ e. handed_answer e.answer) s, ap differ_left s))

-- ---- count_blob
count_blobs : (g : Fn f.Count Totalled) → Proved g count_of → OneResult g.function → ((a : f.Count) → (c : Call g) × (handed c ≡ a)) → CountBlob g
count_blobs g p one allows = record {
  met = p.met;
  is_exit = every g count_of p _ (λ a. refl);
  exactly = every g count_of p _ (λ a. wish4.exactly a.totals (stream_of a));
  unchanged = every g count_of p _ (λ a. wish4.unchanged a.totals (stream_of a));
  counted = every g count_of p _ (λ a n. (wish4.otherwise a.totals (stream_of a) n).totals);
  sums = counting.sums g (call_told g count_of p);
  any_order = counting.any_order g (call_told g count_of p);
  one_result = one;
  allows = allows;
}

abbrev count_args : f.Count → MutBor Totals × (Slice × (Slice × (ℕ × (ℕ × Unit {0}))))
count_args a = (record { ref_ptr = (0, 0); ghost_name = 0; now = a.totals }, (somewhere a.table, (somewhere a.stream, (a.control_room, (a.property_room, tt)))))

crates_count_blob : Proved (f.crates).count_blob count_of
crates_count_blob = record {
  met = λ w. count-blob-code.met w.𝓤 w.𝓛 w.𝓜 w.𝓡;
  told = λ κs a r e q. q;
}

exported_count_blob : Proved (f.exported).count_blob count_of
exported_count_blob = record {
  met = λ w. exported-count-blob-code.met w.𝓤 w.𝓛 w.𝓜 w.𝓡;
  told = λ κs a r e q. q;
}

abbrev count_left : Totalled → Totals × (Unit {0} × (Unit {0} × (Unit {0} × (Unit {0} × Unit {0}))))
count_left e = (e.totals, (tt, (tt, (tt, (tt, tt)))))

crates_count_allows : (a : f.Count) → (c : Call (f.crates).count_blob) × (handed c ≡ a)
crates_count_allows a = (record { κs = ([], ([], ([], tt))); args = count_args a; result = (count_of a).answer; left = count_left (count_of a); allowed = refl }, refl)

exported_count_allows : (a : f.Count) → (c : Call (f.exported).count_blob) × (handed c ≡ a)
exported_count_allows a = (record { κs = ([], ([], ([], tt))); args = count_args a; result = handed_answer (count_of a).answer; left = count_left (count_of a); allowed = refl }, refl)

-- ---- as the crates have them
of_crates : calls.Promised f.crates
of_crates = record {
  read_blob = read_blobs (f.crates).read_blob crates_read_blob crates_one (stream_told (f.crates).read_blob.function.ended.signature.result) crates_allows;
  read_2000 = reads_2000 (f.crates).read_2000 crates_read_2000 crates_one_2000 (stream_told (f.crates).read_2000.function.ended.signature.result) crates_allows_2000;
  read_later = reads-later (f.crates).read_later crates_read_later crates_one_later (later_told (f.crates).read_later.function.ended.signature.result) crates_allows_later;
  readers_agree = agree_calls (f.crates).read_blob (f.crates).read_2000 (f.crates).read_later crates_read_blob crates_read_2000 crates_read_later;
  read_type_info = read_type_infos (f.crates).read_type_info crates_read_type_info (λ κs a r r' x y p q. (p.0 ∙ sym q.0, λ i. (tt, ((p.1 ∙ sym q.1) i, tt))));
  pair = pair_rows (f.crates).pair crates_pair (λ κs a r r' x y p q. (p.0 ∙ sym q.0, λ i. (tt, ((p.1 ∙ sym q.1) i, (tt, (tt, (tt, (tt, tt)))))))) crates_pair_allows;
  never_refused = never_refused (f.crates).read_blob exit_of_blob (λ a. a.stream) (f.crates).read_type_info (f.crates).pair crates_read_blob crates_read_type_info crates_pair
      (λ a. wish2.as_read a.table a.stream a.controls a.properties);
  never_refused_later = never_refused (f.crates).read_later exit_of_later (λ a. a.stream) (f.crates).read_type_info (f.crates).pair crates_read_later crates_read_type_info crates_pair
      (λ a. wish2.as_read-later a.layout a.stream a.controls a.properties);
  never_refused_2000 = never_refused (f.crates).read_2000 exit_2000 (λ a. a.stream) (f.crates).read_type_info (f.crates).pair crates_read_2000 crates_read_type_info crates_pair
      (λ a. wish2.as_read_2000 a.table a.stream a.controls a.properties);
  read_csv = read_csvs (f.crates).read_csv crates_read_csv (one_by (f.crates).read_csv exit_of_sheet crates_read_csv (λ κs a r r' x y s. (ap (λ e. e.answer) s, ap fields_left s))) crates_csv_allows;
  write_csv = write_csvs (f.crates).write_csv crates_write_csv crates_one_csv crates_text_allows;
  written_rows = written_rows (f.crates).read_blob (f.crates).write_csv crates_read_blob crates_write_csv;
  written_read_back = written_read_back (f.crates).write_csv (f.crates).read_csv crates_write_csv crates_read_csv;
  check_panel = check_panels (f.crates).check_panel crates_check_panel crates_panel_one crates_panel_allows;
  panel_reads = panel_reads (f.crates).read_blob (f.crates).check_panel crates_read_blob crates_check_panel;
  differences = list_differences (f.crates).differences crates_differences crates_differ_one crates_differ_allows;
  differences_read = differences_read (f.crates).read_blob (call_told (f.crates).read_blob exit_of_blob crates_read_blob) crates_allows (f.crates).differences (call_told (f.crates).differences differences_of crates_differences);
  count_blob = count_blobs (f.crates).count_blob crates_count_blob (one_by (f.crates).count_blob count_of crates_count_blob (λ κs a r r' x y s. (ap (λ e. e.answer) s, ap count_left s))) crates_count_allows;
  counts_agree = counting.agree (f.crates).count_blob (call_told (f.crates).count_blob count_of crates_count_blob) (f.crates).read_blob (call_told (f.crates).read_blob exit_of_blob crates_read_blob);
  guid_text = guid_texts (f.crates).guid_text (record {
    met = told (f.crates).guid_text.function (λ w κs a r e. guid-text-clauses.ensures κs a tt r e w) _ (λ w κs a r e. both_facts w.𝓤 _ _) (λ w. guid-text-code.met w.𝓤 w.𝓛 w.𝓜 w.𝓡);
    told = λ κs a r e q i. record { answer = q.0 i; out = q.1 i };
  }) (λ κs a r r' x y p q. (p.0 ∙ sym q.0, λ i. (tt, ((p.1 ∙ sym q.1) i, tt))));
  label_text = label_texts (f.crates).label_text (record {
    met = told (f.crates).label_text.function (λ w κs a r e. label-text-clauses.ensures κs a tt r e w) _ (λ w κs a r e. both_facts w.𝓤 _ _) (λ w. label-text-code.met w.𝓤 w.𝓛 w.𝓜 w.𝓡);
    told = λ κs a r e q i. record { answer = q.0 i; out = q.1 i };
  }) (λ κs a r r' x y p q. (p.0 ∙ sym q.0, λ i. (tt, ((p.1 ∙ sym q.1) i, tt))));
  join = joins (f.crates).join (record {
    met = told (f.crates).join.function (λ w κs a r e. join-clauses.ensures κs a tt r e w) _ (λ w κs a r e. both_facts w.𝓤 _ _) (λ w. join-code.met w.𝓤 w.𝓛 w.𝓜 w.𝓡);
    told = λ κs a r e q i. record { answer = q.0 i; out = q.1 i };
  }) (λ κs a r r' x y p q. (p.0 ∙ sym q.0, λ i. (tt, (tt, ((p.1 ∙ sym q.1) i, tt))))) (one_told (f.crates).join.function.ended.signature.result) (other_told (f.crates).join.function.ended.signature.result) crates_join_allows;
  rewrite = rewrite_streams (f.crates).rewrite (record {
    met = told (f.crates).rewrite.function (λ w κs a r e. rewrite-clauses.ensures κs a tt r e w) _ (λ w κs a r e. both_facts w.𝓤 _ _) (λ w. rewrite-code.met w.𝓤 w.𝓛 w.𝓜 w.𝓡);
    told = λ κs a r e q i. record { answer = q.0 i; out = q.1 i };
  }) (λ κs a r r' x y p q. (p.0 ∙ sym q.0, λ i. (tt, ((p.1 ∙ sym q.1) i, tt)))) (rewrite_told (f.crates).rewrite.function.ended.signature.result) crates_rewrite_allows;
  rewritten_2000 = rewritten_reads (f.crates).read_2000 exit2000 crates_read_2000 (λ s r w table g. (w.same table g).by_2000);
  rewritten_blob = rewritten_reads (f.crates).read_blob exit crates_read_blob (λ s r w table g. (w.same table g).chosen);
  well_formed = gives (f.crates).well_formed _ (record { met = λ w. well-formed-code.met w.𝓤 w.𝓛 w.𝓜 w.𝓡; told = λ κs a r e q. q }) (λ κs a r r' x y p q. (p ∙ sym q, refl));
  room = gives (f.crates).room _ (record { met = λ w. room-code.met w.𝓤 w.𝓛 w.𝓜 w.𝓡; told = λ κs a r e q. q }) (λ κs a r r' x y p q. (p ∙ sym q, refl));
  room_2000 = gives (f.crates).room_2000 _ (record { met = λ w. room-2000-code.met w.𝓤 w.𝓛 w.𝓜 w.𝓡; told = λ κs a r e q. q }) (λ κs a r r' x y p q. (p ∙ sym q, refl));
  room_later = gives (f.crates).room_later _ (record { met = λ w. room-later-code.met w.𝓤 w.𝓛 w.𝓜 w.𝓡; told = λ κs a r e q. q }) (λ κs a r r' x y p q. (p ∙ sym q, refl));
  type_info_room = gives (f.crates).type_info_room _ (record { met = λ w. type-info-room-code.met w.𝓤 w.𝓛 w.𝓜 w.𝓡; told = λ κs a r e q. q }) (λ κs a r r' x y p q. (p ∙ sym q, refl));
  is_utf16 = gives (f.crates).is_utf16 _ (record { met = λ w. is-utf16-code.met w.𝓤 w.𝓛 w.𝓜 w.𝓡; told = λ κs a r e q. q }) (λ κs a r r' x y p q. (p ∙ sym q, refl));
  text_name = names_written (f.crates).text_name _ _ _ (record {
    met = told (f.crates).text_name.function (λ w κs a r e. text-name-clauses.ensures κs a tt r e w) _ (λ w κs a r e. both_facts w.𝓤 _ _) (λ w. text-name-code.met w.𝓤 w.𝓛 w.𝓜 w.𝓡);
    told = λ κs a r e q i. record { answer = q.0 i; out = q.1 i };
  }) (λ κs a r r' x y p q. (p.0 ∙ sym q.0, λ i. (tt, ((p.1 ∙ sym q.1) i, tt))));
  number_name = names_written (f.crates).number_name _ _ _ (record {
    met = told (f.crates).number_name.function (λ w κs a r e. number-name-clauses.ensures κs a tt r e w) _ (λ w κs a r e. both_facts w.𝓤 _ _) (λ w. number-name-code.met w.𝓤 w.𝓛 w.𝓜 w.𝓡);
    told = λ κs a r e q i. record { answer = q.0 i; out = q.1 i };
  }) (λ κs a r r' x y p q. (p.0 ∙ sym q.0, λ i. (tt, ((p.1 ∙ sym q.1) i, tt))));
  bytes_name = names_written (f.crates).bytes_name _ _ _ (record {
    met = told (f.crates).bytes_name.function (λ w κs a r e. bytes-name-clauses.ensures κs a tt r e w) _ (λ w κs a r e. both_facts w.𝓤 _ _) (λ w. bytes-name-code.met w.𝓤 w.𝓛 w.𝓜 w.𝓡);
    told = λ κs a r e q i. record { answer = q.0 i; out = q.1 i };
  }) (λ κs a r r' x y p q. (p.0 ∙ sym q.0, λ i. (tt, ((p.1 ∙ sym q.1) i, tt))));
  control_type_name = names_written (f.crates).control_type_name _ _ _ (record {
    met = told (f.crates).control_type_name.function (λ w κs a r e. control-type-name-clauses.ensures κs a tt r e w) _ (λ w κs a r e. both_facts w.𝓤 _ _) (λ w. control-type-name-code.met w.𝓤 w.𝓛 w.𝓜 w.𝓡);
    told = λ κs a r e q i. record { answer = q.0 i; out = q.1 i };
  }) (λ κs a r r' x y p q. (p.0 ∙ sym q.0, λ i. (tt, ((p.1 ∙ sym q.1) i, tt))));
  value_name = names_written (f.crates).value_name _ _ _ (record {
    met = told (f.crates).value_name.function (λ w κs a r e. value-name-clauses.ensures κs a tt r e w) _ (λ w κs a r e. both_facts w.𝓤 _ _) (λ w. value-name-code.met w.𝓤 w.𝓛 w.𝓜 w.𝓡);
    told = λ κs a r e q i. record { answer = q.0 i; out = q.1 i };
  }) (λ κs a r r' x y p q. (p.0 ∙ sym q.0, λ i. (tt, (tt, ((p.1 ∙ sym q.1) i, tt)))));
  entry_value = gives (f.crates).entry_value _ (record { met = λ w. entry-value-code.met w.𝓤 w.𝓛 w.𝓜 w.𝓡; told = λ κs a r e q. q }) (λ κs a r r' x y p q. (p ∙ sym q, refl));
  stored_value = gives (f.crates).stored_value _ (record { met = λ w. stored-value-code.met w.𝓤 w.𝓛 w.𝓜 w.𝓡; told = λ κs a r e q. q }) (λ κs a r r' x y p q. (p ∙ sym q, refl));
  value_as = gives (f.crates).value_as _ (record { met = λ w. value-as-code.met w.𝓤 w.𝓛 w.𝓜 w.𝓡; told = λ κs a r e q. q }) (λ κs a r r' x y p q. (p ∙ sym q, refl));
}

-- ---- as C and Rust have them
of_exported : calls.Promised f.exported
of_exported = record {
  read_blob = read_blobs (f.exported).read_blob exported_read_blob exported_one (stream_told (f.exported).read_blob.function.ended.signature.result) exported_allows;
  read_2000 = reads_2000 (f.exported).read_2000 exported_read_2000 exported_one_2000 (stream_told (f.exported).read_2000.function.ended.signature.result) exported_allows_2000;
  read_later = reads-later (f.exported).read_later exported_read_later exported_one_later (later_told (f.exported).read_later.function.ended.signature.result) exported_allows_later;
  readers_agree = agree_calls (f.exported).read_blob (f.exported).read_2000 (f.exported).read_later exported_read_blob exported_read_2000 exported_read_later;
  read_type_info = read_type_infos (f.exported).read_type_info exported_read_type_info (λ κs a r r' x y p q. (p.0 ∙ sym q.0, λ i. (tt, ((p.1 ∙ sym q.1) i, tt))));
  pair = pair_rows (f.exported).pair exported_pair (λ κs a r r' x y p q. (p.0 ∙ sym q.0, λ i. (tt, ((p.1 ∙ sym q.1) i, (tt, (tt, (tt, (tt, tt)))))))) exported_pair_allows;
  never_refused = never_refused (f.exported).read_blob exit_of_blob (λ a. a.stream) (f.exported).read_type_info (f.exported).pair exported_read_blob exported_read_type_info exported_pair
      (λ a. wish2.as_read a.table a.stream a.controls a.properties);
  never_refused_later = never_refused (f.exported).read_later exit_of_later (λ a. a.stream) (f.exported).read_type_info (f.exported).pair exported_read_later exported_read_type_info exported_pair
      (λ a. wish2.as_read-later a.layout a.stream a.controls a.properties);
  never_refused_2000 = never_refused (f.exported).read_2000 exit_2000 (λ a. a.stream) (f.exported).read_type_info (f.exported).pair exported_read_2000 exported_read_type_info exported_pair
      (λ a. wish2.as_read_2000 a.table a.stream a.controls a.properties);
  read_csv = read_csvs (f.exported).read_csv exported_read_csv (one_by (f.exported).read_csv exit_of_sheet exported_read_csv (λ κs a r r' x y s. (ap (λ e. handed_answer e.answer) s, ap fields_left s))) exported_csv_allows;
  write_csv = write_csvs (f.exported).write_csv exported_write_csv exported_one_csv exported_text_allows;
  written_rows = written_rows (f.exported).read_blob (f.exported).write_csv exported_read_blob exported_write_csv;
  written_read_back = written_read_back (f.exported).write_csv (f.exported).read_csv exported_write_csv exported_read_csv;
  check_panel = check_panels (f.exported).check_panel exported_check_panel exported_panel_one exported_panel_allows;
  panel_reads = panel_reads (f.exported).read_blob (f.exported).check_panel exported_read_blob exported_check_panel;
  differences = list_differences (f.exported).differences exported_differences exported_differ_one exported_differ_allows;
  differences_read = differences_read (f.exported).read_blob (call_told (f.exported).read_blob exit_of_blob exported_read_blob) exported_allows (f.exported).differences (call_told (f.exported).differences differences_of exported_differences);
  count_blob = count_blobs (f.exported).count_blob exported_count_blob (one_by (f.exported).count_blob count_of exported_count_blob (λ κs a r r' x y s. (ap (λ e. handed_answer e.answer) s, ap count_left s))) exported_count_allows;
  counts_agree = counting.agree (f.exported).count_blob (call_told (f.exported).count_blob count_of exported_count_blob) (f.exported).read_blob (call_told (f.exported).read_blob exit_of_blob exported_read_blob);
  guid_text = guid_texts (f.exported).guid_text (record {
    met = told (f.exported).guid_text.function (λ w κs a r e. exported-guid-text-clauses.ensures κs a tt r e w) _ (λ w κs a r e. both_facts w.𝓤 _ _) (λ w. exported-guid-text-code.met w.𝓤 w.𝓛 w.𝓜 w.𝓡);
    told = λ κs a r e q i. record { answer = taken_answer (q.0 i); out = q.1 i };
  }) (λ κs a r r' x y p q. (p.0 ∙ sym q.0, λ i. (tt, ((p.1 ∙ sym q.1) i, tt))));
  label_text = label_texts (f.exported).label_text (record {
    met = told (f.exported).label_text.function (λ w κs a r e. exported-label-text-clauses.ensures κs a tt r e w) _ (λ w κs a r e. both_facts w.𝓤 _ _) (λ w. exported-label-text-code.met w.𝓤 w.𝓛 w.𝓜 w.𝓡);
    told = λ κs a r e q i. record { answer = taken_answer (q.0 i); out = q.1 i };
  }) (λ κs a r r' x y p q. (p.0 ∙ sym q.0, λ i. (tt, ((p.1 ∙ sym q.1) i, tt))));
  join = joins (f.exported).join (record {
    met = told (f.exported).join.function (λ w κs a r e. exported-join-clauses.ensures κs a tt r e w) _ (λ w κs a r e. both_facts w.𝓤 _ _) (λ w. exported-join-code.met w.𝓤 w.𝓛 w.𝓜 w.𝓡);
    told = λ κs a r e q i. record { answer = taken_answer (q.0 i); out = q.1 i };
  }) (λ κs a r r' x y p q. (p.0 ∙ sym q.0, λ i. (tt, (tt, ((p.1 ∙ sym q.1) i, tt))))) (one_told (f.exported).join.function.ended.signature.result) (other_told (f.exported).join.function.ended.signature.result) exported_join_allows;
  rewrite = rewrite_streams (f.exported).rewrite (record {
    met = told (f.exported).rewrite.function (λ w κs a r e. exported-rewrite-clauses.ensures κs a tt r e w) _ (λ w κs a r e. both_facts w.𝓤 _ _) (λ w. exported-rewrite-code.met w.𝓤 w.𝓛 w.𝓜 w.𝓡);
    told = λ κs a r e q i. record { answer = taken_answer (q.0 i); out = q.1 i };
  }) (λ κs a r r' x y p q. (p.0 ∙ sym q.0, λ i. (tt, ((p.1 ∙ sym q.1) i, tt)))) (rewrite_told (f.exported).rewrite.function.ended.signature.result) exported_rewrite_allows;
  rewritten_2000 = rewritten_reads (f.exported).read_2000 exit2000 exported_read_2000 (λ s r w table g. (w.same table g).by_2000);
  rewritten_blob = rewritten_reads (f.exported).read_blob exit exported_read_blob (λ s r w table g. (w.same table g).chosen);
  well_formed = gives (f.exported).well_formed _ (record { met = λ w. exported-well-formed-code.met w.𝓤 w.𝓛 w.𝓜 w.𝓡; told = λ κs a r e q. q }) (λ κs a r r' x y p q. (p ∙ sym q, refl));
  room = gives (f.exported).room _ (record { met = λ w. exported-room-code.met w.𝓤 w.𝓛 w.𝓜 w.𝓡; told = λ κs a r e q. ap taken_room q }) (λ κs a r r' x y p q. (p ∙ sym q, refl));
  room_2000 = gives (f.exported).room_2000 _ (record { met = λ w. exported-room-2000-code.met w.𝓤 w.𝓛 w.𝓜 w.𝓡; told = λ κs a r e q. ap taken_room q }) (λ κs a r r' x y p q. (p ∙ sym q, refl));
  room_later = gives (f.exported).room_later _ (record { met = λ w. exported-room-later-code.met w.𝓤 w.𝓛 w.𝓜 w.𝓡; told = λ κs a r e q. ap taken_room q }) (λ κs a r r' x y p q. (p ∙ sym q, refl));
  type_info_room = gives (f.exported).type_info_room _ (record { met = λ w. exported-type-info-room-code.met w.𝓤 w.𝓛 w.𝓜 w.𝓡; told = λ κs a r e q. q }) (λ κs a r r' x y p q. (p ∙ sym q, refl));
  is_utf16 = gives (f.exported).is_utf16 _ (record { met = λ w. exported-is-utf16-code.met w.𝓤 w.𝓛 w.𝓜 w.𝓡; told = λ κs a r e q. q }) (λ κs a r r' x y p q. (p ∙ sym q, refl));
  text_name = names_written (f.exported).text_name _ _ _ (record {
    met = told (f.exported).text_name.function (λ w κs a r e. exported-text-name-clauses.ensures κs a tt r e w) _ (λ w κs a r e. both_facts w.𝓤 _ _) (λ w. exported-text-name-code.met w.𝓤 w.𝓛 w.𝓜 w.𝓡);
    told = λ κs a r e q i. record { answer = taken_answer (q.0 i); out = q.1 i };
  }) (λ κs a r r' x y p q. (p.0 ∙ sym q.0, λ i. (tt, ((p.1 ∙ sym q.1) i, tt))));
  number_name = names_written (f.exported).number_name _ _ _ (record {
    met = told (f.exported).number_name.function (λ w κs a r e. exported-number-name-clauses.ensures κs a tt r e w) _ (λ w κs a r e. both_facts w.𝓤 _ _) (λ w. exported-number-name-code.met w.𝓤 w.𝓛 w.𝓜 w.𝓡);
    told = λ κs a r e q i. record { answer = taken_answer (q.0 i); out = q.1 i };
  }) (λ κs a r r' x y p q. (p.0 ∙ sym q.0, λ i. (tt, ((p.1 ∙ sym q.1) i, tt))));
  bytes_name = names_written (f.exported).bytes_name _ _ _ (record {
    met = told (f.exported).bytes_name.function (λ w κs a r e. exported-bytes-name-clauses.ensures κs a tt r e w) _ (λ w κs a r e. both_facts w.𝓤 _ _) (λ w. exported-bytes-name-code.met w.𝓤 w.𝓛 w.𝓜 w.𝓡);
    told = λ κs a r e q i. record { answer = taken_answer (q.0 i); out = q.1 i };
  }) (λ κs a r r' x y p q. (p.0 ∙ sym q.0, λ i. (tt, ((p.1 ∙ sym q.1) i, tt))));
  control_type_name = names_written (f.exported).control_type_name _ _ _ (record {
    met = told (f.exported).control_type_name.function (λ w κs a r e. exported-control-type-name-clauses.ensures κs a tt r e w) _ (λ w κs a r e. both_facts w.𝓤 _ _) (λ w. exported-control-type-name-code.met w.𝓤 w.𝓛 w.𝓜 w.𝓡);
    told = λ κs a r e q i. record { answer = taken_answer (q.0 i); out = q.1 i };
  }) (λ κs a r r' x y p q. (p.0 ∙ sym q.0, λ i. (tt, ((p.1 ∙ sym q.1) i, tt))));
  value_name = names_written (f.exported).value_name _ _ _ (record {
    met = told (f.exported).value_name.function (λ w κs a r e. exported-value-name-clauses.ensures κs a tt r e w) _ (λ w κs a r e. both_facts w.𝓤 _ _) (λ w. exported-value-name-code.met w.𝓤 w.𝓛 w.𝓜 w.𝓡);
    told = λ κs a r e q i. record { answer = taken_answer (q.0 i); out = q.1 i };
  }) (λ κs a r r' x y p q. (p.0 ∙ sym q.0, λ i. (tt, (tt, ((p.1 ∙ sym q.1) i, tt)))));
  entry_value = gives (f.exported).entry_value _ (record { met = λ w. exported-entry-value-code.met w.𝓤 w.𝓛 w.𝓜 w.𝓡; told = λ κs a r e q. ap taken_value q }) (λ κs a r r' x y p q. (p ∙ sym q, refl));
  stored_value = gives (f.exported).stored_value _ (record { met = λ w. exported-stored-value-code.met w.𝓤 w.𝓛 w.𝓜 w.𝓡; told = λ κs a r e q. ap taken_value q }) (λ κs a r r' x y p q. (p ∙ sym q, refl));
  value_as = gives (f.exported).value_as _ (record { met = λ w. exported-value-as-code.met w.𝓤 w.𝓛 w.𝓜 w.𝓡; told = λ κs a r e q. ap taken_value q }) (λ κs a r r' x y p q. (p ∙ sym q, refl));
}

-- ---- the others
control_name : Proved f.control_name_in (λ a. record { bytes = part_bytes_lem a.stream a.label (calls.part a); place = part_place a.stream_place a.label_place (calls.part a) })
control_name = record {
  met = told (f.control_name_in).function (λ w κs a r e. control-name-clauses.ensures κs a tt r e w) _ (λ w κs a r e. both_facts w.𝓤 _ _) (λ w. control-name-code.met w.𝓤 w.𝓛 w.𝓜 w.𝓡);
  told = λ κs a r e q i. record { bytes = q.0 i; place = q.1 i };
}

widen_met : Always (f.widen).function (f.widen).function.says
widen_met = told (f.widen).function (λ w κs a r e. widen-clauses.ensures κs a tt r e w) _ (λ w κs a r e. both_facts w.𝓤 _ _) (λ w. widen-code.met w.𝓤 w.𝓛 w.𝓜 w.𝓡)

pub calls_hold : calls.Calls
calls_hold = record {
  of_crates = of_crates;
  of_exported = of_exported;
  control_name = record {
    bytes = every f.control_name_in _ control_name _ (λ a. refl);
    place = every f.control_name_in _ control_name _ (λ a. refl);
    met = control_name.met;
    one_result = λ κs a r r' x y p q. ((λ i. record { ref_ptr = (p.1 ∙ sym q.1) i; now = (p.0 ∙ sym q.0) i }), refl);
    by_words = by_words f.control_name_in _ control_name;
  };
  exported_control_name = gives f.control_name_part _ (record { met = λ w. exported-control-name-code.met w.𝓤 w.𝓛 w.𝓜 w.𝓡; told = λ κs a r e q. q }) (λ κs a r r' x y p q. (p ∙ sym q, refl));
  integer-value = gives f.integer-value _ (record { met = λ w. integer-value-code.met w.𝓤 w.𝓛 w.𝓜 w.𝓡; told = λ κs a r e q. q }) (λ κs a r r' x y p q. (p ∙ sym q, refl));
  widen = record {
    is_widened = gives f.widen _ (record { met = widen_met; told = λ κs a r e q. q.0 }) (λ κs a r r' x y p q. (p.0 ∙ sym q.0, refl));
    exact = record { holds = so (f.widen).function (f.widen).function.says _ (λ κs a r e q. q.1) widen_met };
  };
}
