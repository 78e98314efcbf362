-- UTF-8 of UTF-16 text in a field, unit by unit.
use Prim.Native.Nat.{ℕ, ◌+◌, ◌*◌, ◌-◌, ◌<◌, ◌≤◌}
use native.Mathlib.Omega.{arith}
use mathlib.Core.Path.{◌≡◌, refl, sym, ap, ◌∙◌}
use mathlib.Core.Bool.{Bool, true, false, cond, ◌&&◌}
use mathlib.Core.List.{List, [], ◌∷◌, ◌++◌, map, append_assoc, append-nil}
use lib.Dec.{eqb}
use lib.ListN.{length, get_or, drop}
use borrow.Author.Tests.{eq-eqb, ne_eqb}
use Rattle.rules.specs.Lists.{concat, all}
use Rattle.std.specs.Int.{w16, from_le_bytes}
use Rattle.utf16.proofs.Units.{Units}
use Rattle.rules.specs.Digits.{hex}
use Rattle.rules.specs.Utf16.{is_high}
use Rattle.rules.specs.Scalars.{scalar, scalars_from, scalars}
use Rattle.rules.specs.Utf8.{utf8_of, utf8}
use Rattle.rules.specs.Csv.{quote, is_data, doubled, field_text, hex_text}
use Rattle.csvlaws.proofs.CsvLaws.{doubled-append, all_append}
use Rattle.csvlaws.proofs.CsvPlain.{plain-doubled}
use Rattle.csvlaws.proofs.Utf8Laws.{utf8-doubled, utf8_data}
use Rattle.csvtext.specs.Units.{waiting, doubled_of, unit_text, unit_data}
use Rattle.csvtext.proofs.Spelling.{scalars_unit, scalars_over, spelled_from, ends}

-- ---- from a place on, after a first half that waits
abbrev pub text_from : ℕ → List ℕ → List ℕ
text_from high s = spelled_from doubled_of high s

abbrev characters_data : List ℕ → Bool
characters_data cs = all is_data (concat (map utf8_of cs))

unfoldable pub data_from : ℕ → List ℕ → Bool
data_from high s = characters_data (scalars_from high s)

doubled-each : (cs : List ℕ) → concat (map doubled_of cs) ≡ doubled (concat (map utf8_of cs))
unfolding concat doubled
doubled-each [] = refl
doubled-each (c ∷ cs) = ap (λ (l : List ℕ). doubled_of c ++ l) (doubled-each cs) ∙ sym (doubled-append (utf8_of c) (concat (map utf8_of cs)))

pub text-all : (s : List ℕ) → text_from 0 s ≡ doubled (utf8 s)
unfolding spelled_from utf8 scalars
text-all s = doubled-each (scalars_from 0 s)

pub data_all : (s : List ℕ) → data_from 0 (drop 0 s) ≡ all is_data (utf8 s)
unfolding data_from utf8 scalars
data_all s = refl

-- ---- a unit more
module _ {s : List ℕ} {units : List (List ℕ)} (U : Units s units) (k high : ℕ) where
  pub data_unit : k < length units → {u : ℕ} → u ≡ from_le_bytes w16 (get_or units k [])
      → data_from high (drop (2 * k) s) ≡ (unit_data high u && data_from (waiting u) (drop (2 * (k + 1)) s))
  unfolding data_from unit_data concat
  data_unit h {u} read = ap characters_data (scalars_unit U k h read high) ∙ go (is_high u) _
    where
      go : (t : Bool) (cs : List ℕ) → characters_data (cond t [] (scalar high u ∷ []) ++ cs) ≡ (cond t true (is_data (scalar high u)) && characters_data cs)
      go true cs = refl
      go false cs =
          all_append is_data (utf8_of (scalar high u)) (concat (map utf8_of cs))
          ∙ ap (λ (t : Bool). t && characters_data cs) (utf8_data (scalar high u))

  pub data_over : length units ≤ k → data_from high (drop (2 * k) s) ≡ true
  unfolding data_from concat all
  data_over h = rw (scalars_over U k h high)

-- ---- a unit
module _ (high u : ℕ) where
  pub first-half_data : is_high u ≡ true → unit_data high u ≡ true
  unfolding unit_data
  first-half_data e = rw e

  module _ (e : is_high u ≡ false) where
    ended_by : unit_text high u ≡ cond (eqb (scalar high u) quote) (quote ∷ quote ∷ []) (utf8_of (scalar high u))
    ended_by = ends doubled_of high u e ∙ utf8-doubled (scalar high u)

    pub ends-quote : scalar high u ≡ quote → unit_text high u ≡ quote ∷ quote ∷ []
    ends-quote q = ended_by ∙ rw (eq-eqb (scalar high u) quote q)

    pub ends-other : (scalar high u ≡ quote → ⊥) → unit_text high u ≡ utf8_of (scalar high u)
    ends-other n = ended_by ∙ rw (ne_eqb (scalar high u) quote n)

    pub ends_data : unit_data high u ≡ is_data (scalar high u)
    unfolding unit_data
    ends_data = rw e

  pub scalar-small : high < 0xDC00 → u < 65536 → scalar high u < 0x200000
  unfolding scalar
  scalar-small h k = go (eqb high 0)
    where
      go : (t : Bool) → cond t u (0x10000 + (high - 0xD800) * 0x400 + (u - 0xDC00)) < 0x200000
      go true = omega arith
      go false = omega arith

  pub scalar-alone : high ≡ 0 → scalar high u ≡ u
  unfolding scalar
  scalar-alone e = rw (eq-eqb high 0 e)

  pub scalar-pair : (high ≡ 0 → ⊥) → scalar high u ≡ 0x10000 + (high - 0xD800) * 0x400 + (u - 0xDC00)
  unfolding scalar
  scalar-pair e = rw (ne_eqb high 0 e)

-- ---- a field
module _ (f : List ℕ) where
  pub field_plain : all is_data f ≡ true → field_text f ≡ doubled f
  unfolding field_text
  field_plain e = rw e (sym (plain-doubled f e))

  pub field-quoted : all is_data f ≡ false → field_text f ≡ quote ∷ doubled f ++ (quote ∷ [])
  unfolding field_text
  field-quoted e = rw e

-- ---- hex
pub hexes_append : (s : List ℕ) (b : ℕ) → hex_text (s ++ b ∷ []) ≡ hex_text s ++ hex 2 b
unfolding hex_text
hexes_append [] b = append-nil (hex 2 b)
hexes_append (a ∷ s) b = ap (λ (l : List ℕ). hex 2 a ++ l) (hexes_append s b) ∙ sym (append_assoc (hex 2 a) (hex_text s) (hex 2 b))

pub length-hexes : (s : List ℕ) → length (hex_text s) ≡ length s + length s
unfolding hex_text hex
length-hexes [] = refl
length-hexes (b ∷ s) = omega (arith, length-hexes s)
