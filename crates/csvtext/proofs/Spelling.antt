-- UTF-16 text spelled unit by unit, whatever spells a character.
use Prim.Native.Nat.{ℕ, ◌+◌, ◌*◌, ◌<◌, ◌≤◌}
use native.Mathlib.Omega.{arith}
use mathlib.Core.Path.{◌≡◌, refl, sym, ap, ◌∙◌}
use mathlib.Core.Bool.{Bool, true, false, cond}
use mathlib.Core.List.{List, [], ◌∷◌, ◌++◌, map}
use lib.ListN.{length, get_or, drop, length-drop}
use Rattle.rules.specs.Lists.{concat}
use Rattle.rules.specs.Bytes.{byte, u16}
use Rattle.rules.specs.Utf16.{is_high}
use Rattle.rules.specs.Scalars.{scalar, scalars_from}
use Rattle.csvlaws.proofs.Utf8Laws.{high-then}
use Rattle.std.specs.Int.{w16, from_le_bytes}
use Rattle.utf16.proofs.Units.{two, Units, many_units, unit_there, unit_number}
use Rattle.text.specs.Writer.{Wrote}
use Rattle.text.proofs.Remains.{Remains, all_remains, on, done}
use Rattle.csvtext.specs.Units.{waiting, unit_by}

-- ---- the characters, a unit more
abbrev pub ended : ℕ → ℕ → List ℕ
ended high u = cond (is_high u) [] (scalar high u ∷ [])

by-half : (high u : ℕ) (s : List ℕ) (t : Bool) → cond t (scalars_from u s) (scalar high u ∷ scalars_from 0 s) ≡ cond t [] (scalar high u ∷ []) ++ scalars_from (cond t u 0) s
by-half high u s true = refl
by-half high u s false = refl

module _ (s : List ℕ) (i high : ℕ) where
  pub scalars-step : i + 1 < length s → scalars_from high (drop i s) ≡ ended high (u16 s i) ++ scalars_from (waiting (u16 s i)) (drop (i + 2) s)
  unfolding scalars_from u16
  scalars-step h = let u = byte s i + 256 * byte s (i + 1) in ap (scalars_from high) (two s i h) ∙ by-half high u (drop (i + 2) s) (is_high u)

  pub scalars-end : length s ≤ i + 1 → scalars_from high (drop i s) ≡ []
  unfolding scalars_from
  scalars-end h = go (drop i s) (omega (arith, length-drop i s))
    where
      go : (l : List ℕ) → length l ≤ 1 → scalars_from high l ≡ []
      go [] e = refl
      go (a ∷ []) e = refl
      go (a ∷ b ∷ l) e = absurd (omega arith)

-- ---- spelled, from a place on, after a first half that waits
unfoldable pub spelled_from : (ℕ → List ℕ) → ℕ → List ℕ → List ℕ
spelled_from spell high s = concat (map spell (scalars_from high s))

module _ (spell : ℕ → List ℕ) (s : List ℕ) (i high : ℕ) where
  pub spelled_step : i + 1 < length s → spelled_from spell high (drop i s) ≡ unit_by spell high (u16 s i) ++ spelled_from spell (waiting (u16 s i)) (drop (i + 2) s)
  unfolding spelled_from unit_by concat
  spelled_step h = ap (λ (cs : List ℕ). concat (map spell cs)) (scalars-step s i high h) ∙ go (is_high (u16 s i)) _
    where
      go : (t : Bool) (cs : List ℕ) → concat (map spell (cond t [] (scalar high (u16 s i) ∷ []) ++ cs)) ≡ cond t [] (spell (scalar high (u16 s i))) ++ concat (map spell cs)
      go true cs = refl
      go false cs = refl

  pub spelled-end : length s ≤ i + 1 → spelled_from spell high (drop i s) ≡ []
  unfolding spelled_from concat
  spelled-end h = rw (scalars-end s i high h)

-- ---- a unit
waits : (u : ℕ) (t : Bool) → is_high u ≡ t → cond t u 0 < 0xDC00
waits u true e = (high-then u e).1
waits u false e = omega arith

module _ (spell : ℕ → List ℕ) (high u : ℕ) where
  pub first-half : is_high u ≡ true → unit_by spell high u ≡ []
  unfolding unit_by
  first-half e = rw e

  pub ends : is_high u ≡ false → unit_by spell high u ≡ spell (scalar high u)
  unfolding unit_by
  ends e = rw e

-- ---- the units as arrays: one more, and all
module _ {s : List ℕ} {units : List (List ℕ)} (U : Units s units) (k : ℕ) where
  module _ (h : k < length units) {u : ℕ} (read : u ≡ from_le_bytes w16 (get_or units k [])) where
    read_unit : u16 s (2 * k) ≡ u
    read_unit = sym (read ∙ unit_number U k h)

    next_place : 2 * k + 2 ≡ 2 * (k + 1)
    next_place = omega arith

    pub scalars_unit : (high : ℕ) → scalars_from high (drop (2 * k) s) ≡ ended high u ++ scalars_from (waiting u) (drop (2 * (k + 1)) s)
    scalars_unit high = scalars-step s (2 * k) high (unit_there U k h) ∙ (λ t. ended high (read_unit t) ++ scalars_from (waiting (read_unit t)) (drop (next_place t) s))

    pub spelled_unit : (spell : ℕ → List ℕ) (high : ℕ) → spelled_from spell high (drop (2 * k) s) ≡ unit_by spell high u ++ spelled_from spell (waiting u) (drop (2 * (k + 1)) s)
    spelled_unit spell high =
        spelled_step spell s (2 * k) high (unit_there U k h)
        ∙ (λ t. unit_by spell high (read_unit t) ++ spelled_from spell (waiting (read_unit t)) (drop (next_place t) s))

  pub scalars_over : length units ≤ k → (high : ℕ) → scalars_from high (drop (2 * k) s) ≡ []
  scalars_over h high = scalars-end s (2 * k) high (omega (arith, many_units U))

  pub spelled_over : length units ≤ k → (spell : ℕ → List ℕ) (high : ℕ) → spelled_from spell high (drop (2 * k) s) ≡ []
  spelled_over h spell high = spelled-end spell s (2 * k) high (omega (arith, many_units U))

-- ---- written: what the units from the k-th on spell is still to be written
pub record SpellsLeft (spell : ℕ → List ℕ) (bytes old : List ℕ) (at : ℕ) (now : List ℕ) (p k high : ℕ) : Type 0 where
  pub low : high < 0xDC00
  pub rest : Remains old at (spelled_from spell 0 bytes) now p (spelled_from spell high (drop (2 * k) bytes))

pub spells_start : {spell : ℕ → List ℕ} {bytes old : List ℕ} {at : ℕ} → SpellsLeft spell bytes old at old at 0 0
spells_start = record { low = omega arith; rest = all_remains }

module _ {spell : ℕ → List ℕ} {bytes old : List ℕ} {at : ℕ} {now : List ℕ} {p k high : ℕ} (g : SpellsLeft spell bytes old at now p k high) {units : List (List ℕ)} (U : Units bytes units) where
  pub spells_more : k < length units → {u next : ℕ} → u ≡ from_le_bytes w16 (get_or units k []) → next ≡ waiting u → {new : List ℕ} {e : ℕ} → Wrote now p (unit_by spell high u) new e
      → SpellsLeft spell bytes old at new e (k + 1) next
  spells_more h {u} {next} read w v = record {
    low = omega (arith, w, waits u (is_high u) refl);
    rest = on g.rest (spelled_unit U k h read spell high ∙ sym (ap (λ (n : ℕ). unit_by spell high u ++ spelled_from spell n (drop (2 * (k + 1)) bytes)) w)) v;
  }

  pub spells_done : length units ≤ k → Wrote old at (spelled_from spell 0 bytes) now p
  spells_done h = done g.rest (spelled_over U k h spell high)
