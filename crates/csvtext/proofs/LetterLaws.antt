-- Text of letters: units that are a byte each, and need no quotes.
use Prim.Native.Nat.{ℕ, zero, suc, ◌+◌, ◌*◌, ◌<◌, ◌≤◌}
use native.Mathlib.Omega.{arith}
use native.Mathlib.Numerals.{add-one}
use mathlib.Core.Path.{◌≡◌, refl, sym, ap, subst, ◌∙◌}
use mathlib.Core.Bool.{Bool, true, false, not, ◌&&◌, ◌||◌}
use mathlib.Core.List.{List, [], ◌∷◌, ◌++◌}
use lib.Dec.{ltb, leb, eqb}
use lib.ListN.{length, get_or, take, drop, length-drop}
use borrow.Author.Tests.{ltb-false, leb-true, lt-ltb, eqb-true}
use Rattle.rules.specs.Bytes.{byte, u16}
use Rattle.rules.specs.Utf16.{is_high}
use Rattle.rules.specs.Scalars.{scalar}
use Rattle.rules.specs.Utf8.{utf8_of, utf8}
use Rattle.rules.specs.Csv.{quote, is_data, field_text}
use Rattle.csvlaws.proofs.CsvPlain.{data_byte}
use Rattle.csvlaws.proofs.Utf8Laws.{high-then}
use Rattle.std.specs.Int.{w16, from_le_bytes}
use Rattle.std.proofs.lemmas.List.{get_or-take}
use Rattle.utf16.proofs.Units.{two, Units, many_units, unit_is, unit_there, unit_number}
use Rattle.csvtext.specs.Units.{waiting, doubled_of, unit_text, unit_data, is_letter, lows}
use Rattle.csvtext.proofs.Spelling.{spelled_unit, spelled_over}
use Rattle.csvtext.proofs.UnitLaws.{text_from, data_from, text-all, data_all, data_unit, data_over, ends-other, ends_data, scalar-alone, field_plain}

-- ---- what letters and the space are
pub record Letter (u : ℕ) : Type 0 where
  small : u < 0x80
  is_data_lem : is_data u ≡ true
  not_quote : u ≡ quote → ⊥

pub letter : (u : ℕ) → is_letter u ≡ true → Letter u
unfolding is_letter
letter u e = go (ltb u 0x2D) refl e
  where
    go : (b : Bool) → ltb u 0x2D ≡ b → (not b && leb u 0x7F) ≡ true → Letter u
    go true h k = absurd (let z : ◌≡◌ {A = ℕ} 0 1 = cc in omega arith)
    go false h k =
        let z = ltb-false u 0x2D h in
        let y = leb-true u 0x7F k in
        record { small = omega arith; is_data_lem = data_byte u (λ w. omega arith) (λ w. omega arith) (λ w. omega arith) (λ w. omega arith); not_quote = λ w. omega arith }

pub space : (u : ℕ) → u ≡ 0x20 → Letter u
space u z = record { small = omega arith; is_data_lem = data_byte u (λ w. omega arith) (λ w. omega arith) (λ w. omega arith) (λ w. omega arith); not_quote = λ w. omega arith }

-- one more unit is told at a glance, where all before it are
pub glanced : (u : ℕ) (before l : Bool) → l ≡ is_letter u → (before && (l || eqb u 0x20)) ≡ true → Letter u
glanced u true true e t = letter u (sym e)
glanced u true false e t = space u (eqb-true u 0x20 t)
glanced u false l e t = absurd (let z : ◌≡◌ {A = ℕ} 0 1 = cc in omega arith)

pub before-glanced : (before b : Bool) → (before && b) ≡ true → before ≡ true
before-glanced true b t = refl
before-glanced false b t = t

two_bytes : (s : List ℕ) (i : ℕ) → u16 s i ≡ byte s i + 256 * byte s (i + 1)
unfolding u16
two_bytes s i = refl

low_byte : (a b u : ℕ) → u ≡ a + 256 * b → u < 0x80 → u ≡ a
low_byte a b u e h = omega arith

not_high : (u : ℕ) → u < 0x80 → is_high u ≡ false
not_high u h = go (is_high u) refl
  where
    go : (b : Bool) → is_high u ≡ b → b ≡ false
    go true e = let k = high-then u e in absurd (omega arith)
    go false e = refl

one_byte : (u : ℕ) → u < 0x80 → utf8_of u ≡ u ∷ []
unfolding utf8_of
one_byte u h = rw (lt-ltb u 0x80 h)

-- ---- the low bytes, unit by unit
module _ (s : List ℕ) where
  at_next : (i j : ℕ) → j ≡ i + 2 → i + 1 < length s → lows (drop i s) ≡ byte s i ∷ lows (drop j s)
  unfolding lows
  at_next i j e h = ap lows (two s i h) ∙ ap (λ (k : ℕ). byte s i ∷ lows (drop k s)) (sym e)

  lows-four : 8 ≤ length s → lows s ≡ byte s 0 ∷ byte s 2 ∷ byte s 4 ∷ byte s 6 ∷ lows (drop 8 s)
  lows-four h =
      at_next 0 2 refl (omega arith)
      ∙ ap (λ l. byte s 0 ∷ l)
      (at_next 2 4 refl (omega arith) ∙ ap (λ l. byte s 2 ∷ l) (at_next 4 6 refl (omega arith) ∙ ap (λ l. byte s 4 ∷ l) (at_next 6 8 refl (omega arith))))

  lows-end : (i : ℕ) → length s ≤ i + 1 → lows (drop i s) ≡ []
  unfolding lows
  lows-end i h = go (drop i s) (omega (arith, length-drop i s))
    where
      go : (l : List ℕ) → length l ≤ 1 → lows l ≡ []
      go [] k = refl
      go (a ∷ []) k = refl
      go (a ∷ b ∷ l) k = absurd (omega arith)

-- those of the first four units, of which `piece` are the bytes
pub lows_piece : (s : List ℕ) {piece more : List ℕ} → 8 ≤ length s → piece ≡ take 8 s → more ≡ drop 8 s
    → lows s ≡ (byte piece 0 ∷ byte piece 2 ∷ byte piece 4 ∷ byte piece 6 ∷ []) ++ lows more
lows_piece s {piece} h p m =
    let at : (i : ℕ) → i < 8 → byte s i ≡ byte piece i = λ i l. sym (ap (λ (q : List ℕ). byte q i) p ∙ get_or-take 8 s i 0 l) in
    lows-four s h ∙ (λ t. at 0 (omega arith) t ∷ at 2 (omega arith) t ∷ at 4 (omega arith) t ∷ at 6 (omega arith) t ∷ lows (sym m t))

module _ {s : List ℕ} {units : List (List ℕ)} (U : Units s units) (k : ℕ) where
  lows_more : k < length units → lows (drop (2 * k) s) ≡ byte s (2 * k) ∷ lows (drop (2 * (k + 1)) s)
  lows_more h = at_next s (2 * k) (2 * (k + 1)) (omega arith) (unit_there U k h)

  pub lows_unit : k < length units → lows (drop (2 * k) s) ≡ (byte (get_or units k []) 0 ∷ []) ++ lows (drop (2 * (k + 1)) s)
  lows_unit h = lows_more h ∙ ap (λ (n : ℕ). n ∷ lows (drop (2 * (k + 1)) s)) (sym (ap (λ (l : List ℕ). byte l 0) (unit_is U k h)))

  pub lows_over : length units ≤ k → lows (drop (2 * k) s) ≡ []
  lows_over h = lows-end s (2 * k) (omega (arith, many_units U))

-- ---- from a unit on the text is the low bytes, and needs no quotes
record Plainly (s : List ℕ) (k : ℕ) : Type 0 where
  no_quotes : data_from 0 (drop (2 * k) s) ≡ true
  is-lows : text_from 0 (drop (2 * k) s) ≡ lows (drop (2 * k) s)

module _ {s : List ℕ} {units : List (List ℕ)} (U : Units s units) where
  plainly_end : (k : ℕ) → length units ≤ k → Plainly s k
  plainly_end k h = record { no_quotes = data_over U k 0 h; is-lows = spelled_over U k h doubled_of 0 ∙ sym (lows_over U k h) }

  module _ (k : ℕ) (h : k < length units) (its : Letter (from_le_bytes w16 (get_or units k []))) where
    abbrev u : ℕ
    u = from_le_bytes w16 (get_or units k [])

    alone : is_high u ≡ false
    alone = not_high u its.small

    self : scalar 0 u ≡ u
    self = scalar-alone 0 u refl

    none_waits : waiting u ≡ 0
    none_waits = rw alone

    low : u ≡ byte s (2 * k)
    low = low_byte (byte s (2 * k)) (byte s (2 * k + 1)) u (unit_number U k h ∙ two_bytes s (2 * k)) its.small

    its-text : unit_text 0 u ≡ byte s (2 * k) ∷ []
    its-text = ends-other 0 u alone (λ q. its.not_quote (sym self ∙ q)) ∙ ap utf8_of self ∙ one_byte u its.small ∙ ap (λ (n : ℕ). n ∷ []) low

    its_data : unit_data 0 u ≡ true
    its_data = ends_data 0 u alone ∙ ap is_data self ∙ its.is_data_lem

    plainly_more : Plainly s (k + 1) → Plainly s k
    plainly_more p = record {
      no_quotes = data_unit U k 0 h refl ∙ (λ j. its_data j && data_from (none_waits j) (drop (2 * (k + 1)) s)) ∙ p.no_quotes;
      is-lows = spelled_unit U k h refl doubled_of 0 ∙ (λ j. its-text j ++ text_from (none_waits j) (drop (2 * (k + 1)) s)) ∙ ap (λ l. byte s (2 * k) ∷ l) p.is-lows ∙ sym (lows_more U k h);
    }

  plainly_from : (n : ℕ) → ((k : ℕ) → k < n → Letter (from_le_bytes w16 (get_or units k []))) → n ≤ length units → Plainly s n → Plainly s 0
  plainly_from zero l f h = h
  plainly_from (suc n) l f h = plainly_from n (λ k j. l k (omega arith)) (omega arith) (plainly_more n (omega arith) (l n (omega arith)) (subst (Plainly s) (sym (add-one n)) h))

  pub all_plainly : (n : ℕ) → ((k : ℕ) → k < n → Letter (from_le_bytes w16 (get_or units k []))) → n ≤ length units → length units ≤ n → field_text (utf8 s) ≡ lows s
  all_plainly n l f h = let p = plainly_from n l f (plainly_end n h) in field_plain (utf8 s) (sym (data_all s) ∙ p.no_quotes) ∙ sym (text-all s) ∙ p.is-lows
