-- What holds no comma, quote, CR or LF, and is written as it is: every field of a property's record but Text.
use Prim.Native.Nat.{ℕ, zero, suc, ◌+◌, ◌<◌, ◌/◌, ◌%◌}
use native.Mathlib.Omega.{arith}
use mathlib.Core.Path.{◌≡◌, refl, ap, ◌∙◌}
use mathlib.Core.Bool.{Bool, true, false, cond, not, ◌||◌}
use mathlib.Core.List.{List, [], ◌∷◌, ◌++◌}
use mathlib.Core.Option.{Option, none, some}
use Prim.Native.String.{String}
use lib.Dec.{ltb, leb, eqb}
use lib.IntN.{ℤ, pos, negsuc}
use lib.ListN.{length, get_or}
use borrow.Author.Tests.{ne_eqb}
use Rattle.rules.specs.Lists.{all, find, text}
use Rattle.rules.specs.Digits.{digit, decimal_by, decimal, hex, signed_decimal}
use Rattle.rules.specs.Scalars.{scalars}
use Rattle.rules.specs.Value.{signed}
use Rattle.rules.specs.Texts.{hexes, guid_text_lem}
use Rattle.rules.specs.NameTables.{Table, text_names, number_names, bytes_names}
use Rattle.rules.specs.Names.{has_id, name_text, name_in_lem, names_for}
use Rattle.rules.specs.Listing.{mark_word, yes_or_no, number32, value_column}
use Rattle.rules.specs.Csv.{comma, quote, cr, lf, is_data, doubled, field_text, quotes_in, field_length, or_id, hex_text, value_text}
use Rattle.rules.proofs.ListLaws.{and_l, and_r, all_there, found-there}
use Rattle.csvlaws.proofs.CsvLaws.{all_append}

abbrev pub Plain : List ℕ → Type 0
Plain f = all is_data f ≡ true

pub plain-field : (f : List ℕ) → Plain f → field_text f ≡ f
unfolding field_text
plain-field f e = rw e

pub plain-length : (f : List ℕ) → Plain f → field_length f ≡ length f
unfolding field_length
plain-length f e = rw e

-- ---- bytes
pub data_byte : (b : ℕ) → ¬ (b ≡ comma) → ¬ (b ≡ quote) → ¬ (b ≡ cr) → ¬ (b ≡ lf) → is_data b ≡ true
unfolding is_data
data_byte b p q r s = rw (ne_eqb b comma p, ne_eqb b quote q, ne_eqb b cr r, ne_eqb b lf s)

pub above_data : (b : ℕ) → comma < b → is_data b ≡ true
above_data b h = data_byte b (λ e. omega arith) (λ e. omega arith) (λ e. omega arith) (λ e. omega arith)

-- ---- in parts
pub plain-one : (b : ℕ) (f : List ℕ) → is_data b ≡ true → Plain f → Plain (b ∷ f)
unfolding all
plain-one b f d e = rw (d, e)

pub plain-none : Plain []
unfolding all
plain-none = refl

pub plain_both : (a b : List ℕ) → Plain a → Plain b → Plain (a ++ b)
plain_both a b x y = all_append is_data a b ∙ rw (x, y)

-- nothing in it to double
no-quote : (b : ℕ) → is_data b ≡ true → eqb b quote ≡ false
unfolding is_data
no-quote b e = go (eqb b comma) (eqb b quote) (eqb b cr) (eqb b lf) e
  where
    go : (x y z w : Bool) → not (x || y || z || w) ≡ true → y ≡ false
    go true y z w e = absurd (let n : ◌≡◌ {A = ℕ} 0 1 = cc in omega arith)
    go false true z w e = absurd (let n : ◌≡◌ {A = ℕ} 0 1 = cc in omega arith)
    go false false z w e = refl

pub plain-doubled : (f : List ℕ) → Plain f → doubled f ≡ f
unfolding doubled all
plain-doubled [] e = refl
plain-doubled (b ∷ f) e = rw (no-quote b (and_l (is_data b) (all is_data f) e)) (ap (λ l. b ∷ l) (plain-doubled f (and_r (is_data b) (all is_data f) e)))

pub plain_quotes : (f : List ℕ) → Plain f → quotes_in f ≡ 0
unfolding quotes_in all
plain_quotes [] e = refl
plain_quotes (b ∷ f) e =
    let h = plain_quotes f (and_r (is_data b) (all is_data f) e) in
    rw (no-quote b (and_l (is_data b) (all is_data f) e)) (omega arith)

-- ---- digits
digit-above : (n : ℕ) (t : Bool) → comma < cond t (48 + n) (55 + n)
digit-above n true = omega arith
digit-above n false = omega arith

digit-plain : (n : ℕ) → Plain (digit n ∷ [])
unfolding digit
digit-plain n = plain-one (digit n) [] (above_data (digit n) (digit-above n (ltb n 10))) plain-none

pub hex-plain : (k n : ℕ) → Plain (hex k n)
unfolding hex
hex-plain zero n = plain-none
hex-plain (suc k) n = plain_both (hex k (n / 16)) (digit (n % 16) ∷ []) (hex-plain k (n / 16)) (digit-plain (n % 16))

decimal-by : (most n : ℕ) → Plain (decimal_by most n)
unfolding decimal_by
decimal-by zero n = plain-none
decimal-by (suc most) n = go (ltb n 10) (plain_both (decimal_by most (n / 10)) (digit (n % 10) ∷ []) (decimal-by most (n / 10)) (digit-plain (n % 10)))
  where
    go : (t : Bool) → Plain (decimal_by most (n / 10) ++ (digit (n % 10) ∷ [])) → Plain (cond t (digit n ∷ []) (decimal_by most (n / 10) ++ (digit (n % 10) ∷ [])))
    go true h = digit-plain n
    go false h = h

pub decimal-plain : (n : ℕ) → Plain (decimal n)
unfolding decimal
decimal-plain n = decimal-by (suc n) n

pub signed-plain : (z : ℤ) → Plain (signed_decimal z)
unfolding signed_decimal
signed-plain (pos n) = decimal-plain n
signed-plain (negsuc n) = plain-one 45 (decimal (suc n)) (above_data 45 (omega arith)) (decimal-plain (suc n))

pub hex-text-plain : (s : List ℕ) → Plain (hex_text s)
unfolding hex_text
hex-text-plain [] = plain-none
hex-text-plain (b ∷ s) = plain_both (hex 2 b) (hex_text s) (hex-plain 2 b) (hex-text-plain s)

hexes-plain : (g is : List ℕ) → Plain (hexes g is)
unfolding hexes
hexes-plain g [] = plain-none
hexes-plain g (i ∷ is) = plain_both (hex 2 (get_or g i 0)) (hexes g is) (hex-plain 2 (get_or g i 0)) (hexes-plain g is)

-- ---- words and names
pub mark-plain : (m : ℕ) → Plain (mark_word m)
unfolding mark_word all is_data
mark-plain zero = refl
mark-plain (suc zero) = refl
mark-plain (suc (suc zero)) = refl
mark-plain (suc (suc (suc zero))) = refl
mark-plain (suc (suc (suc (suc zero)))) = refl
mark-plain (suc (suc (suc (suc (suc zero))))) = refl
mark-plain (suc (suc (suc (suc (suc (suc zero)))))) = refl
mark-plain (suc (suc (suc (suc (suc (suc (suc zero))))))) = refl
mark-plain (suc (suc (suc (suc (suc (suc (suc (suc m)))))))) = refl

yes-plain : (n : ℕ) → Plain (yes_or_no n)
unfolding yes_or_no all is_data
yes-plain n = go (eqb n 0)
  where
    go : (t : Bool) → all is_data (cond t (text "no") (text "yes")) ≡ true
    go true = refl
    go false = refl

abbrev PlainTable : Table → Type 0
PlainTable t = all (λ row. all is_data (text row.1)) t ≡ true

texts-plain : PlainTable text_names
unfolding text_names all is_data
texts-plain = refl

numbers_plain : PlainTable number_names
unfolding number_names all is_data
numbers_plain = refl

bytes-plain : PlainTable bytes_names
unfolding bytes_names all is_data
bytes-plain = refl

name-plain : (t : Table) (id : ℕ) → PlainTable t → Plain (name_in_lem t id)
unfolding name_in_lem
name-plain t id h = go (find (has_id id) t) refl
  where
    go : (o : Option (ℕ × String)) → find (has_id id) t ≡ o → Plain (name_text o)
    go none e = plain-none
    go (some row) e = all_there (λ r. all is_data (text r.1)) t row h (found-there (has_id id) t row e).0

no_rows : PlainTable []
unfolding all
no_rows = refl

pub name_for_plain : (mark id : ℕ) → Plain (name_in_lem (names_for mark) id)
unfolding names_for
name_for_plain mark id = go (leb mark 4) (eqb mark 6 || eqb mark 8) (eqb mark 5 || eqb mark 7)
  where
    go : (x y z : Bool) → Plain (name_in_lem (cond x number_names (cond y text_names (cond z bytes_names []))) id)
    go true y z = name-plain number_names id numbers_plain
    go false true z = name-plain text_names id texts-plain
    go false false true = name-plain bytes_names id bytes-plain
    go false false false = name-plain [] id (no_rows)

pub or_id-plain : (name : List ℕ) (id : ℕ) → Plain name → Plain (or_id name id)
unfolding or_id
or_id-plain [] id h = hex-plain 4 id
or_id-plain (b ∷ s) id h = h

-- ---- values, but Text
guid-plain : (g : List ℕ) → Plain (guid_text_lem g)
unfolding guid_text_lem
guid-plain g =
    plain_both (123 ∷ hexes g (3 ∷ 2 ∷ 1 ∷ 0 ∷ [])) _ (plain-one 123 _ (above_data 123 (omega arith)) (hexes-plain g (3 ∷ 2 ∷ 1 ∷ 0 ∷ [])))
    (dash (hexes g (5 ∷ 4 ∷ [])) _ (hexes-plain g (5 ∷ 4 ∷ []))
    (dash (hexes g (7 ∷ 6 ∷ [])) _ (hexes-plain g (7 ∷ 6 ∷ []))
    (dash (hexes g (8 ∷ 9 ∷ [])) _ (hexes-plain g (8 ∷ 9 ∷ []))
    (dash (hexes g (10 ∷ 11 ∷ 12 ∷ 13 ∷ 14 ∷ 15 ∷ [])) _ (hexes-plain g (10 ∷ 11 ∷ 12 ∷ 13 ∷ 14 ∷ 15 ∷ []))
    (plain-one 125 [] (above_data 125 (omega arith)) plain-none)))))
  where
    dash : (a b : List ℕ) → Plain a → Plain b → Plain (45 ∷ a ++ b)
    dash a b x y = plain-one 45 (a ++ b) (above_data 45 (omega arith)) (plain_both a b x y)

value-plain : (mark low high size : ℕ) (g : List ℕ) → Plain (value_column mark low high size g)
unfolding value_column number32
value-plain zero low high size g = yes-plain low
value-plain (suc zero) low high size g = plain-one 45 [] (above_data 45 (omega arith)) plain-none
value-plain (suc (suc zero)) low high size g = signed-plain (signed 0x80000000 low)
value-plain (suc (suc (suc zero))) low high size g = signed-plain (signed 0x80000000 low)
value-plain (suc (suc (suc (suc zero)))) low high size g = plain_both (hex 8 high) (hex 8 low) (hex-plain 8 high) (hex-plain 8 low)
value-plain (suc (suc (suc (suc (suc zero))))) low high size g = guid-plain g
value-plain (suc (suc (suc (suc (suc (suc zero)))))) low high size g = decimal-plain (length (scalars g))
value-plain (suc (suc (suc (suc (suc (suc (suc m))))))) low high size g = decimal-plain size

pub value-text-plain : (mark low high size : ℕ) (g : List ℕ) → ¬ (mark ≡ 6) → Plain (value_text mark low high size g)
unfolding value_text
value-text-plain mark low high size g n = rw (ne_eqb mark 6 n) (go (ltb mark 6))
  where
    go : (t : Bool) → Plain (cond t (value_column mark low high size g) (hex_text g))
    go true = value-plain mark low high size g
    go false = hex-text-plain g
