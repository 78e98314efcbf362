-- What is written so is read as that.
use Prim.Native.Nat.{ℕ, ◌+◌, ◌<◌}
use native.Mathlib.Omega.{arith}
use mathlib.Core.Path.{◌≡◌, refl}
use mathlib.Core.Bool.{true}
use mathlib.Core.List.{List, [], ◌∷◌, ◌++◌, append_assoc}
use mathlib.Core.Option.{some}
use borrow.Author.Tests.{lt-ltb, ne_eqb}
use Rattle.rules.specs.Csv.{comma, quote, cr, lf, is_data, Record, fields, all_fields, field_end, step, Fields, at_end, read_from, fields_of}
use Rattle.rules.specs.declared.Mode.TheVariants.{Start, Plain, Quoted, Closing}
use Rattle.claims.specs.Ways.{just, in_turn, first, second, with}
use Rattle.claims.specs.CsvGrammar.{Data, non_escaped, in_quotes, field, five, others, ending, sheet, ◌spells◌}

-- ---- text data
pub data_is : {b : ℕ} → Data b → is_data b ≡ true
unfolding is_data
data_is {b} d = rw (ne_eqb b comma d.no-comma, ne_eqb b quote d.no-quote, ne_eqb b cr d.no-cr, ne_eqb b lf d.no-lf)

-- after a field, wherever its end came: the field is done, and these follow
record Follows (k : ℕ) (t : List ℕ) (fs : Fields) : Type 0 where
  at-start : read_from Start k t ≡ some ([] ∷ fs)
  at_plain : read_from Plain k t ≡ some ([] ∷ fs)
  at_closing : read_from Closing k t ≡ some ([] ∷ fs)

behind-comma : {k : ℕ} {t : List ℕ} {fs : Fields} → k < 4 → read_from Start (k + 1) t ≡ some fs → Follows k (comma ∷ t) fs
unfolding read_from step field_end is_data
behind-comma {k} h e = record { at-start = rw (lt-ltb k 4 h, e); at_plain = rw (lt-ltb k 4 h, e); at_closing = rw (lt-ltb k 4 h, e) }

behind_record : {t : List ℕ} {fs : Fields} → read_from Start 0 t ≡ some fs → Follows 4 (cr ∷ lf ∷ t) fs
unfolding read_from step field_end is_data
behind_record e = record { at-start = rw e; at_plain = rw e; at_closing = rw e }

at_the_end : Follows 4 [] []
unfolding read_from at_end
at_the_end = record { at-start = refl; at_plain = refl; at_closing = refl }

-- ---- a field
module _ {k : ℕ} {t : List ℕ} {fs : Fields} (end : Follows k t fs) where
  plain-read : (f a : List ℕ) → non_escaped f a → read_from Plain k (a ++ t) ≡ some (f ∷ fs)
  unfolding non_escaped read_from step
  plain-read [] _ just = end.at_plain
  plain-read (b ∷ f) _ (with d (in_turn {b = a} just h)) = rw (data_is d, plain-read f a h)

  start-read : (f a : List ℕ) → non_escaped f a → read_from Start k (a ++ t) ≡ some (f ∷ fs)
  unfolding non_escaped read_from step
  start-read [] _ just = end.at-start
  start-read (b ∷ f) _ (with d (in_turn {b = a} just h)) = rw (ne_eqb b quote d.no-quote, data_is d, plain-read f a h)

  quoted-read : (f a : List ℕ) → in_quotes f a → read_from Quoted k (a ++ (quote ∷ t)) ≡ some (f ∷ fs)
  unfolding in_quotes read_from step
  quoted-read [] _ just = end.at_closing
  quoted-read (b ∷ f) _ (in_turn {b = a} (first (with n just)) h) = rw (ne_eqb b quote n, quoted-read f a h)
  quoted-read (b ∷ f) _ (in_turn {b = a} (second (with e just)) h) = rw (quoted-read f a h, e)

  field-read : (f a : List ℕ) → field f a → read_from Start k (a ++ t) ≡ some (f ∷ fs)
  unfolding field read_from step
  field-read f a (first h) = start-read f a h
  field-read f _ (second (in_turn just (in_turn {a = a} h just))) = rw (append_assoc a (quote ∷ []) t, quoted-read f a h)

-- ---- records
five-read : {t : List ℕ} {fs : Fields} (r : Record) (s : List ℕ) → five r s → Follows 4 t fs → read_from Start 0 (s ++ t) ≡ some (fields r ++ fs)
unfolding five
five-read {t} r _ (in_turn {a = a} x (in_turn just (in_turn {a = b} y (in_turn just (in_turn {a = c} z (in_turn just (in_turn {a = d} u (in_turn {b = e} just v)))))))) end =
    let at-4 = field-read end r.value e v in
    let at-3 = field-read (behind-comma {k = 3} (omega arith) at-4) r.word d u in
    let at-2 = field-read (behind-comma {k = 2} (omega arith) at-3) r.property c z in
    let at_1 = field-read (behind-comma {k = 1} (omega arith) at-2) r.type b y in
    let at-0 = field-read (behind-comma {k = 0} (omega arith) at_1) r.control a x in
    simp append_assoc at-0

no_more : read_from Start 0 [] ≡ some []
unfolding read_from at_end
no_more = refl

others-read : (rs : List Record) (s e : List ℕ) → others rs s → ending e → Follows 4 (s ++ e) (all_fields rs)
unfolding others all_fields
others-read [] _ _ just (first just) = at_the_end
others-read [] _ _ just (second just) = behind_record no_more
others-read (r ∷ rs) _ e (in_turn just (in_turn {a = a} {b = b} h k)) l =
    behind_record (rw (append_assoc a b e) (five-read r a h (others-read rs b e k l)))

-- no record is empty, so a text of some has a byte
read_some : (s f : List ℕ) (fs : Fields) → read_from Start 0 s ≡ some (f ∷ fs) → fields_of s ≡ some (f ∷ fs)
unfolding fields_of
read_some [] f fs e = absurd (let z : ◌≡◌ {A = ℕ} 0 1 = cc no_more in omega arith)
read_some (b ∷ s) f fs e = e

pub spelled-read : (s : List ℕ) (t : List Record) → s spells t → fields_of s ≡ some (all_fields t)
unfolding sheet all_fields
spelled-read s [] h = absurd h
spelled-read _ (r ∷ rs) (in_turn {a = a} x (in_turn {a = b} {b = e} y z)) =
    read_some (a ++ (b ++ e)) r.control _ (five-read r a x (others-read rs b e y z))
