-- Comma-separated text: how long it is, how it comes in parts, and the reader's step.
use Prim.Native.Nat.{ℕ, suc, ◌+◌, ◌*◌, ◌<◌, ◌≤◌}
use native.Mathlib.Omega.{arith}
use native.Mathlib.Nat.{min-le_left, min-le_right}
use native.Mathlib.Numerals.{add-one}
use mathlib.Core.Path.{◌≡◌, refl, sym, ap, ◌∙◌}
use mathlib.Core.Bool.{Bool, true, false, cond, ◌&&◌}
use mathlib.Core.List.{List, [], ◌∷◌, ◌++◌, append_assoc}
use lib.Dec.{eqb}
use lib.ListN.{length, drop, length-append}
use lib.Seq.{drop-cons}
use Rattle.rules.specs.Lists.{all}
use Rattle.rules.specs.Bytes.{byte}
use Rattle.rules.specs.Csv.{quote, is_data, Record, all_fields, doubled, field_text, record_text, sheet_text, quotes_in, field_length, record_length, sheet_length, countable, step, at_end, after, read_from}
use Rattle.rules.specs.declared.Mode.{Mode}

-- ---- how long
doubled-by : (t : Bool) (b : ℕ) (s : List ℕ) (q : ℕ) → length s ≡ q → length (cond t (quote ∷ quote ∷ s) (b ∷ s)) ≡ suc (cond t 1 0 + q)
doubled-by true b s q e = omega arith
doubled-by false b s q e = omega arith

pub length-doubled : (f : List ℕ) → length (doubled f) ≡ length f + quotes_in f
unfolding doubled quotes_in
length-doubled [] = refl
length-doubled (b ∷ f) =
    let q : ℕ = cond (eqb b quote) 1 0 in
    let e : suc (q + (length f + quotes_in f)) ≡ suc (length f) + (q + quotes_in f) = omega arith in
    doubled-by (eqb b quote) b (doubled f) (length f + quotes_in f) (length-doubled f) ∙ e

field-length-by : (f : List ℕ) (t : Bool) → length (cond t f (quote ∷ doubled f ++ (quote ∷ []))) ≡ cond t (length f) (length f + quotes_in f + 2)
field-length-by f true = refl
field-length-by f false = simp length-append (omega (arith, length-doubled f))

pub field-length : (f : List ℕ) → length (field_text f) ≡ field_length f
unfolding field_text field_length
field-length f = field-length-by f (all is_data f)

pub record_length_lem : (r : Record) → length (record_text r) ≡ record_length r
unfolding record_text record_length
record_length_lem r = simp (length-append, field-length) (omega arith)

pub sheet-length : (rs : List Record) → length (sheet_text rs) ≡ sheet_length rs
unfolding sheet_text sheet_length
sheet-length [] = refl
sheet-length (r ∷ rs) = simp (length-append, record_length_lem, sheet-length rs)

pub fields-many : (rs : List Record) → length (all_fields rs) ≡ 5 * length rs
unfolding all_fields
fields-many [] = refl
fields-many (r ∷ rs) = omega (arith, fields-many rs)

-- ---- room
pub countable-room : (n : ℕ) → countable n ≤ n
unfolding countable
countable-room n = min-le_left n 0xFFFFFFFF

pub countable-most : (n : ℕ) → countable n ≤ 0xFFFFFFFF
unfolding countable
countable-most n = min-le_right n 0xFFFFFFFF

-- ---- in parts
pub all_append : (p : ℕ → Bool) (a b : List ℕ) → all p (a ++ b) ≡ (all p a && all p b)
unfolding all
all_append p [] b = refl
all_append p (x ∷ a) b = go (p x) (all_append p a b)
  where
    go : (t : Bool) → all p (a ++ b) ≡ (all p a && all p b) → (t && all p (a ++ b)) ≡ ((t && all p a) && all p b)
    go true e = e
    go false e = refl

pub doubled-append : (a b : List ℕ) → doubled (a ++ b) ≡ doubled a ++ doubled b
unfolding doubled
doubled-append [] b = refl
doubled-append (x ∷ a) b = go (eqb x quote) (doubled-append a b)
  where
    go : (t : Bool) → doubled (a ++ b) ≡ doubled a ++ doubled b
        → cond t (quote ∷ quote ∷ doubled (a ++ b)) (x ∷ doubled (a ++ b)) ≡ cond t (quote ∷ quote ∷ doubled a) (x ∷ doubled a) ++ doubled b
    go true e = ap (λ l. quote ∷ quote ∷ l) e
    go false e = ap (λ l. x ∷ l) e

pub quotes_append : (a b : List ℕ) → quotes_in (a ++ b) ≡ quotes_in a + quotes_in b
unfolding quotes_in
quotes_append [] b = omega arith
quotes_append (x ∷ a) b = omega (arith, quotes_append a b)

pub sheet-append : (a b : List Record) → sheet_text (a ++ b) ≡ sheet_text a ++ sheet_text b
unfolding sheet_text
sheet-append [] b = refl
sheet-append (r ∷ a) b = rw (sheet-append a b) (sym (append_assoc (record_text r) (sheet_text a) (sheet_text b)))

pub sheet-length-append : (a b : List Record) → sheet_length (a ++ b) ≡ sheet_length a + sheet_length b
unfolding sheet_length
sheet-length-append [] b = omega arith
sheet-length-append (r ∷ a) b = omega (arith, sheet-length-append a b)

-- ---- the reader's step, in a text by places
module _ (p : Mode) (k : ℕ) (s : List ℕ) (i : ℕ) where
  pub read_byte : i < length s → read_from p k (drop i s) ≡ after (step p k (byte s i)) (byte s i) (λ q j. read_from q j (drop (i + 1) s))
  unfolding read_from
  read_byte h = rw (drop-cons s i 0 h, add-one i)

  pub read-end : length s ≤ i → read_from p k (drop i s) ≡ at_end p k
  unfolding read_from
  read-end h = rw (lib.ListN.drop_of_length-le s h)
