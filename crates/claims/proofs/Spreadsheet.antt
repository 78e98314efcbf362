-- Wish 7 holds.
use Prim.Native.Nat.{ℕ}
use native.Mathlib.Omega.{arith}
use mathlib.Core.Path.{◌≡◌, refl, sym, ap, ◌∙◌}
use mathlib.Core.Bool.{Bool, true, false, cond}
use mathlib.Core.List.{List, [], ◌∷◌, ◌++◌, append_assoc, append-nil}
use mathlib.Core.Logic.{◌⊎◌, inl, inr}
use mathlib.Core.Option.{Option, none, some}
use lib.Dec.{eqb}
use borrow.Author.Tests.{eqb-true}
use Rattle.rules.specs.Bytes.{Bytes}
use Rattle.rules.specs.Utf16.{is_utf16_lem}
use Rattle.rules.specs.Scalars.{scalars}
use Rattle.rules.specs.Csv.{cr, lf, crlf, is_data, Record, all_fields, field_end, step, Fields, new_field, with_byte, at_end, after, read_from, fields_of, fields_by, fields_exit}
use Rattle.rules.specs.declared.Mode.{Mode}
use Rattle.rules.specs.declared.Mode.TheVariants.{Start, Plain, Quoted, Closing, Returned}
use Rattle.rules.specs.declared.Step.{Step}
use Rattle.rules.specs.declared.Step.TheVariants.{Pass, Put, Close, Refuse}
use Rattle.rules.proofs.ListLaws.{none_some}
use Rattle.csvlaws.proofs.CsvLaws.{sheet-length, fields-many}
use Rattle.claims.specs.Ways.{just, in_turn, first, second}
use Rattle.claims.specs.CsvGrammar.{sheet, ◌spells◌}
use Rattle.claims.specs.Spreadsheet.{Accepts, ReadAgain, Wish7}
use Rattle.claims.specs.Characters as utf16
use Rattle.claims.proofs.CsvComplete.{spelled-read}
use Rattle.claims.proofs.CsvSound.{Spelled, read-spelled, no_spelling}
use Rattle.claims.proofs.CsvWritten.{records-back, blobs-back}
use Rattle.claims.proofs.Characters.{wish5}
use Rattle.claims.proofs.Utf8.{well-formed, one-reading}
use Rattle.claims.proofs.SheetRecords.{records}
use Rattle.claims.proofs.SheetCalls.{writes, reads}

-- ---- records are told by their fields
record_same : (r q : Record) → r.control ≡ q.control → r.type ≡ q.type → r.property ≡ q.property → r.word ≡ q.word → r.value ≡ q.value → r ≡ q
record_same r q a b c d e = λ i. record { control = a i; type = b i; property = c i; word = d i; value = e i }

same-records : (t u : List Record) → all_fields t ≡ all_fields u → t ≡ u
unfolding all_fields
same-records [] [] e = refl
same-records [] (q ∷ u) e = absurd (let z : ◌≡◌ {A = ℕ} 0 1 = cc in omega arith)
same-records (r ∷ t) [] e = absurd (let z : ◌≡◌ {A = ℕ} 0 1 = cc in omega arith)
same-records (r ∷ t) (q ∷ u) e =
    let rest : t ≡ u = same-records t u (cc) in
    let one : r ≡ q = record_same r q (cc) (cc) (cc) (cc) (cc) in
    λ i. one i ∷ rest i

-- ---- exactly the grammar
as_spelled : (s : List ℕ) (t : List Record) → fields_of s ≡ some (all_fields t) → s spells t
as_spelled s t e =
    let w = read-spelled s (all_fields t) e in
    rw (same-records t w.records w.same) w.so

spelled_once : (s : List ℕ) (t u : List Record) → s spells t → s spells u → t ≡ u
spelled_once s t u h k =
    let x = spelled-read s t h in
    let y = spelled-read s u k in
    same-records t u (cc)

accepts : Accepts
accepts = record {
  read_as = λ s t. (as_spelled s t, spelled-read s t);
  refused = λ s. (λ e t h. none_some (sym e ∙ spelled-read s t h), no_spelling s);
  spelled_once = spelled_once;
  in_records = λ s fs e. ((read-spelled s fs e).records, (read-spelled s fs e).same);
}

-- ---- the last CR LF
-- refused, or the same
abbrev Same : Option Fields → Option Fields → Type 0
Same x y = (x ≡ none) ⊎ (x ≡ y)

end_by : (k : ℕ) (o : Option Fields) (t : Bool) → eqb k 4 ≡ t → (t ≡ true → o ≡ some ([] ∷ [])) → Same (after (cond t (Close Returned 0) Refuse) cr (λ q j. read_from q j (lf ∷ []))) o
unfolding read_from step at_end
end_by k o true e h = inr (sym (h refl))
end_by k o false e h = inl refl

module _ (k : ℕ) (e : k ≡ 4) where
  end-start : read_from Start k [] ≡ some ([] ∷ [])
  unfolding read_from at_end
  end-start = rw e

  end-plain : read_from Plain k [] ≡ some ([] ∷ [])
  unfolding read_from at_end
  end-plain = rw e

  end_closing : read_from Closing k [] ≡ some ([] ∷ [])
  unfolding read_from at_end
  end_closing = rw e

one_end : (p : Mode) (k : ℕ) → Same (read_from p k crlf) (read_from p k [])
unfolding read_from step field_end is_data at_end
one_end Start k = end_by k _ (eqb k 4) refl (λ e. end-start k (eqb-true _ _ e))
one_end Plain k = end_by k _ (eqb k 4) refl (λ e. end-plain k (eqb-true _ _ e))
one_end Quoted k = inl refl
one_end Closing k = end_by k _ (eqb k 4) refl (λ e. end_closing k (eqb-true _ _ e))
one_end Returned k = inl refl

with-same : (b : ℕ) (x y : Option Fields) → Same x y → Same (with_byte b x) (with_byte b y)
with-same b x y (inl e) = inl (rw e)
with-same b x y (inr e) = inr (ap (with_byte b) e)

new_same : (x y : Option Fields) → Same x y → Same (new_field x) (new_field y)
new_same x y (inl e) = inl (rw e)
new_same x y (inr e) = inr (ap new_field e)

after_same : (t : Step) (b : ℕ) (f g : Mode → ℕ → Option Fields) → ((q : Mode) (j : ℕ) → Same (f q j) (g q j)) → Same (after t b f) (after t b g)
after_same (Pass q j) b f g h = h q j
after_same (Put q j) b f g h = with-same b (f q j) (g q j) (h q j)
after_same (Close q j) b f g h = new_same (f q j) (g q j) (h q j)
after_same Refuse b f g h = inl refl

last-same : (s : List ℕ) (p : Mode) (k : ℕ) → Same (read_from p k (s ++ crlf)) (read_from p k s)
unfolding read_from
last-same [] p k = one_end p k
last-same (b ∷ s) p k = after_same (step p k b) b (λ q j. read_from q j (s ++ crlf)) (λ q j. read_from q j s) (last-same s)

crlf-refused : read_from Start 0 crlf ≡ none
unfolding read_from step field_end is_data
crlf-refused = refl

without-last : (s : List ℕ) (fs : Fields) → fields_of (s ++ crlf) ≡ some fs → fields_of s ≡ some fs
unfolding fields_of
without-last [] fs e = absurd (none_some (sym crlf-refused ∙ e))
without-last (b ∷ s) fs e = go (last-same (b ∷ s) Start 0)
  where
    go : Same (read_from Start 0 (b ∷ s ++ crlf)) (read_from Start 0 (b ∷ s)) → read_from Start 0 (b ∷ s) ≡ some fs
    go (inl q) = absurd (none_some (sym q ∙ e))
    go (inr q) = sym q ∙ e

-- a text ends with CR LF, or spells the same with it
ends : (s : List ℕ) (t : List Record) → s spells t → ((s ++ crlf) spells t) ⊎ ((u : List ℕ) × (s ≡ u ++ crlf))
unfolding sheet
ends s [] h = absurd h
ends _ (r ∷ rs) (in_turn {a = a} x (in_turn {a = b} y (first just))) =
    inl (rw (append-nil b, append_assoc a b crlf) (in_turn x (in_turn y (second just))))
ends _ (r ∷ rs) (in_turn {a = a} x (in_turn {a = b} y (second just))) = inr (a ++ b, sym (append_assoc a b crlf))

with-last : (s : List ℕ) (fs : Fields) → fields_of s ≡ some fs → (fields_of (s ++ crlf) ≡ some fs) ⊎ ((u : List ℕ) × (s ≡ u ++ crlf))
with-last s fs e = let w = read-spelled s fs e in go w (ends s w.records w.so)
  where
    go : (w : Spelled fs s) → ((s ++ crlf) spells w.records) ⊎ ((u : List ℕ) × (s ≡ u ++ crlf)) → (fields_of (s ++ crlf) ≡ some fs) ⊎ ((u : List ℕ) × (s ≡ u ++ crlf))
    go w (inl h) = inl (spelled-read (s ++ crlf) w.records h ∙ ap some (sym w.same))
    go w (inr h) = inr h

-- ---- the text's characters, by wish 5
as_utf16 : (s : List ℕ) → Bytes s → is_utf16_lem s ≡ true → utf16.characters (scalars s) s
as_utf16 s b e = let w = (wish5.well-formed s b).0 e in rw (wish5.counted s w.0 w.1) w.1

-- ---- what was written, lent to the reader
again : ReadAgain
unfolding fields_exit
again table stream controls properties' out rows bytes e =
    let w = (writes table stream controls properties' out).read_back e in
    (w.0, w.1, ap (λ o. fields_by o rows bytes) w.2)

pub wish7 : Wish7
wish7 = record {
  records = records;
  read_again = again;
  read_back = record { records = records-back; blobs = blobs-back };
  accepts = accepts;
  last_optional = record { without = without-last; and_with = with-last };
  texts = record { same = λ s b e. (as_utf16 s b e, well-formed s b e); one-reading = one-reading };
  fields-many = fields-many;
  written-length = sheet-length;
  writes = writes;
  reads = reads;
}
