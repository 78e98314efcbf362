-- A record in its parts, as the code writes them, and how long each is.
use Prim.Native.Nat.{ℕ, ◌+◌, ◌<◌, ◌≤◌}
use native.Mathlib.Omega.{arith}
use mathlib.Core.Path.{◌≡◌, refl, sym, ap, ◌∙◌}
use mathlib.Core.List.{List, [], ◌∷◌, ◌++◌, append_assoc}
use borrow.Author.Tests.{lt-ltb, le-ltb, eq-eqb, ne_eqb}
use lib.ListN.{length, get_or, length-append, get_or-eq_default}
use Rattle.rules.specs.Lists.{all, text}
use Rattle.rules.specs.Bytes.{part}
use Rattle.rules.specs.Digits.{decimal, hex}
use Rattle.rules.specs.Texts.{label}
use Rattle.rules.specs.Utf8.{utf8}
use Rattle.rules.specs.Names.{name_in_lem, names_for}
use Rattle.rules.specs.Listing.{word, mark_words, mark_word, value_column}
use Rattle.rules.specs.Reading.{property_row}
use Rattle.rules.specs.Csv.{comma, crlf, is_data, field_text, record_text, header, or_id, hex_text, value_text, property_record}
use Rattle.rules.specs.declared.Property.{Property}
use Rattle.csvlaws.proofs.CsvPlain.{Plain, plain-field, plain-none, decimal-plain, hex-plain, name_for_plain, or_id-plain, mark-plain, value-text-plain}
use Rattle.text.specs.Writer.{Wrote}
use Rattle.text.proofs.Chain.{wrote_as}
use Rattle.values.proofs.Marks.{values}
use Rattle.fields.proofs.Tables as tables
use Rattle.csvrecord.specs.Parts.{control_field, type_field, owned_record, owner_text, marked_text, named_text, value_field, tail_text}
use Rattle.csvrecord.specs.declared.Owner.{Owner}
use Rattle.csvrecord.specs.declared.Owner.TheVariants.{Object, Control}

pub header-text : record_text header ≡ text "control,type,property,word,value\r\n"
unfolding record_text header field_text all is_data
header-text = refl

-- ---- a record: its owner's fields, then the others
control-plain : (o : Owner) → Plain (control_field o)
control-plain Object = plain-none
control-plain (Control n type) = decimal-plain n

type-plain : (o : Owner) → Plain (type_field o)
type-plain Object = plain-none
type-plain (Control n type) = hex-plain 4 type

-- a comma after each of two fields
two_fields : (a b c : List ℕ) → (a ++ (comma ∷ b ++ (comma ∷ []))) ++ c ≡ a ++ (comma ∷ b ++ (comma ∷ c))
two_fields a b c = append_assoc a (comma ∷ b ++ (comma ∷ [])) c ∙ ap (λ l. a ++ (comma ∷ l)) (append_assoc b (comma ∷ []) c)

pub record_parts : (stream : List ℕ) (o : Owner) (row : List ℕ) → record_text (owned_record stream o row) ≡ owner_text o ++ tail_text stream row
unfolding record_text property_record owner_text marked_text named_text tail_text value_field
record_parts stream o row =
    let id = or_id (name_in_lem (names_for (word row 1)) (word row 0)) (word row 0) in
    let value = field_text (value_text (word row 1) (word row 2) (word row 3) (word row 5) (part stream (word row 4) (word row 5))) in
    rw (
      plain-field (control_field o) (control-plain o),
      plain-field (type_field o) (type-plain o),
      plain-field (mark_word (word row 1)) (mark-plain (word row 1)),
      plain-field id (or_id-plain (name_in_lem (names_for (word row 1)) (word row 0)) (word row 0) (name_for_plain (word row 1) (word row 0))),
    )
    (sym (two_fields (control_field o) (type_field o) _ ∙ ap (λ l. control_field o ++ (comma ∷ type_field o ++ (comma ∷ l))) (two_fields id (mark_word (word row 1)) (value ++ crlf))))

-- ---- names and ids
module _ (s : List ℕ) (id : ℕ) where
  pub no_name : length s ≡ 0 → or_id s id ≡ hex 4 id
  unfolding or_id
  no_name e = go s e
    where
      go : (l : List ℕ) → length l ≡ 0 → or_id l id ≡ hex 4 id
      go [] e = refl
      go (b ∷ l) e = absurd (omega arith)

  pub a_name : (length s ≡ 0 → ⊥) → or_id s id ≡ s
  unfolding or_id
  a_name e = go s e
    where
      go : (l : List ℕ) → (length l ≡ 0 → ⊥) → or_id l id ≡ l
      go [] e = absurd (e refl)
      go (b ∷ l) e = refl

-- no table has an id of more than 16 bits
pub id-alone : (mark id : ℕ) → 65536 ≤ id → or_id (name_in_lem (names_for mark) id) id ≡ hex 4 id
id-alone mark id h = no_name (name_in_lem (names_for mark) id) id (ap length (tables.absent (names_for mark) (tables.values mark) id h))

pub four_digits_lem : (n : ℕ) → length (hex 4 n) ≡ 4
unfolding hex
four_digits_lem n = refl

pub label-size : (n : ℕ) → length (label n) ≡ 8 + length (decimal n)
unfolding label
label-size n = omega arith

-- ---- words and values, by their marks
module _ {m : ℕ} (k : ℕ) (e : m ≡ k) where
  pub word_size : length (mark_word m) ≡ length (get_or mark_words k (text "loose"))
  unfolding mark_word
  word_size = rw e

  pub marked : {o n : List ℕ} {a r : ℕ} → Wrote o a (comma ∷ get_or mark_words k (text "loose") ++ (comma ∷ [])) n r → Wrote o a (marked_text m) n r
  unfolding marked_text mark_word
  marked w = rw e w

  pub column_size : (low high size : ℕ) (g : List ℕ) → length (value_column m low high size g) ≡ length (get_or (values low high g) k (decimal size))
  unfolding value_column
  column_size low high size g = rw e

pub marked-last : {m : ℕ} → 8 ≤ m → {o n : List ℕ} {a r : ℕ} → Wrote o a (comma ∷ text "loose" ++ (comma ∷ [])) n r → Wrote o a (marked_text m) n r
unfolding marked_text mark_word
marked-last {m} h w = wrote_as w (sym (ap (λ (l : List ℕ). comma ∷ l ++ (comma ∷ [])) (get_or-eq_default mark_words (text "loose") h)))

pub sixteen : (a b : ℕ) → length (hex 8 a ++ hex 8 b) ≡ 16
unfolding hex
sixteen a b = refl

module _ (stream : List ℕ) (p : Property) where
  abbrev bytes : List ℕ
  bytes = part stream p.start p.size

  abbrev mark : ℕ
  mark = p.value.mark

  pub field-text : mark ≡ 6 → value_field stream (property_row p) ≡ field_text (utf8 bytes)
  unfolding value_field value_text
  field-text e = rw (le-ltb mark 6 (omega arith), eq-eqb mark 6 e)

  plain_value : (mark ≡ 6 → ⊥) → value_field stream (property_row p) ≡ value_text mark p.value.low p.value.high p.size bytes
  unfolding value_field
  plain_value n = plain-field _ (value-text-plain mark p.value.low p.value.high p.size bytes n)

  pub field_column : mark < 6 → value_field stream (property_row p) ≡ value_column mark p.value.low p.value.high p.size bytes
  unfolding value_text
  field_column h = plain_value (λ e. omega arith) ∙ rw (lt-ltb mark 6 h)

  pub field-hexes : 6 < mark → value_field stream (property_row p) ≡ hex_text bytes
  unfolding value_text
  field-hexes h = plain_value (λ e. omega arith) ∙ rw (le-ltb mark 6 (omega arith), ne_eqb mark 6 (λ e. omega arith))

-- how long the others are
pub tail_size : (stream row : List ℕ)
    → length (tail_text stream row) ≡ length (or_id (name_in_lem (names_for (word row 1)) (word row 0)) (word row 0)) + length (mark_word (word row 1)) + 4 + length (value_field stream row)
unfolding tail_text named_text marked_text
tail_size stream row = simp length-append (omega arith)

owner-size : (n type : ℕ) → length (owner_text (Control n type)) ≡ length (decimal n) + 6
unfolding owner_text
owner-size n type = simp (length-append, four_digits_lem) (omega arith)

pub owner-is : {o : Owner} {n type : ℕ} → o ≡ Control n type → length (owner_text o) ≡ length (decimal n) + 6
owner-is {n = n} {type = type} e = ap (λ (x : Owner). length (owner_text x)) e ∙ owner-size n type
