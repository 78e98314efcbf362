-- A control's name, as it is shown.
use mathlib.Core.Path.{◌≡◌, refl, sym, ap, ◌∙◌}
use mathlib.Core.Bool.{Bool, true, false, cond}
use mathlib.Core.List.{List, [], ◌∷◌, ◌++◌}
use Prim.Native.Nat.{ℕ, ◌≤◌, ◌<◌, min}
use native.Mathlib.Omega.{arith}
use borrow.Author.Tests.{ne_eqb}
use lib.ListN.{length, get_or}
use Rattle.rules.specs.Lists.{text}
use Rattle.rules.specs.Bytes.{part}
use Rattle.rules.specs.Digits.{decimal, hex}
use Rattle.rules.specs.Texts.{label}
use Rattle.rules.specs.Listing.{or_dash}
use Rattle.text.specs.Writer.{Wrote}
use Rattle.text.proofs.Chain.{nothing, ◌⨟◌, wrote_as}
use Rattle.rows.specs.Put.{control_words}
use Rattle.rows.specs.declared.ControlRow.{ControlRow}
use Rattle.listing.specs.InfoLine.{is_shown, name_bytes}
use Rattle.pairlines.specs.Pairs.{is_letter, unit_text, units_text, shown_name}

-- ---- one unit
pub high_byte : (low high : ℕ) → ¬ (high ≡ 0) → false ≡ is_letter low high
unfolding is_letter
high_byte low high h = rw (ne_eqb high 0 h)

pub low_byte : (low high : ℕ) (b : Bool) → high ≡ 0 → b ≡ is_shown low → b ≡ is_letter low high
unfolding is_letter
low_byte low high b h e = rw h e

pub a_letter : (low high : ℕ) → is_letter low high ≡ true → unit_text low high ≡ low ∷ []
unfolding unit_text
a_letter low high e = rw e

pub no-letter : (low high : ℕ) → is_letter low high ≡ false → unit_text low high ≡ text "\\u" ++ (hex 2 high ++ hex 2 low)
unfolding unit_text
no-letter low high e = rw e

-- ---- all of them
few_units : (l : List ℕ) → length l ≤ 1 → units_text l ≡ []
unfolding units_text
few_units [] h = refl
few_units (a ∷ []) h = refl
few_units (a ∷ b ∷ l) h = absurd (omega arith)

next_unit : (u l : List ℕ) → length u ≡ 2 → units_text (u ++ l) ≡ unit_text (get_or u 0 0) (get_or u 1 0) ++ units_text l
unfolding units_text
next_unit [] l h = absurd (omega arith)
next_unit (a ∷ []) l h = absurd (omega arith)
next_unit (a ∷ b ∷ []) l h = refl
next_unit (a ∷ b ∷ c ∷ u) l h = absurd (omega arith)

-- whoever writes what the bytes that are left say has written the whole
pub record Spelled (s old : List ℕ) (at : ℕ) (new : List ℕ) (p : ℕ) (left : List ℕ) : Type 0 where
  pub rest : (n : List ℕ) (e : ℕ) → Wrote new p (units_text left) n e → Wrote old at (units_text s) n e

module _ {s old : List ℕ} {at : ℕ} where
  pub spelled_more : {new next left l : List ℕ} {p q : ℕ} (u : List ℕ) → Spelled s old at new p left → left ≡ u ++ l → length u ≡ 2
      → Wrote new p (unit_text (get_or u 0 0) (get_or u 1 0)) next q → Spelled s old at next q l
  spelled_more {l = l} u k e h w = record { rest = λ n e' v. k.rest n e' (wrote_as (w ⨟ v) (sym (ap units_text e ∙ next_unit u l h))) }

  pub spelled_all : {new left : List ℕ} {p : ℕ} → Spelled s old at new p left → length left ≤ 1 → Wrote old at (units_text s) new p
  spelled_all {new} {left} {p} k l = k.rest new p (wrote_as nothing (sym (few_units left l)))

-- ---- or `-`
pub no_units : (s : List ℕ) → length s < 2 → or_dash (units_text s) ≡ text "-"
unfolding or_dash units_text
no_units [] h = refl
no_units (a ∷ []) h = refl
no_units (a ∷ b ∷ s) h = absurd (omega arith)

begins : (low high : ℕ) (s : List ℕ) (t : Bool) → or_dash (cond t (low ∷ []) (text "\\u" ++ (hex 2 high ++ hex 2 low)) ++ s) ≡ cond t (low ∷ []) (text "\\u" ++ (hex 2 high ++ hex 2 low)) ++ s
unfolding or_dash
begins low high s true = refl
begins low high s false = refl

pub some_units : (s : List ℕ) → 2 ≤ length s → or_dash (units_text s) ≡ units_text s
unfolding units_text unit_text
some_units [] h = absurd (omega arith)
some_units (a ∷ []) h = absurd (omega arith)
some_units (a ∷ b ∷ s) h = begins a b (units_text s) (is_letter a b)

-- ---- by the mark
module _ (s : List ℕ) (row : ControlRow) where
  pub numbered : row.mark ≡ 1 → shown_name s (control_words row) ≡ text "Control_" ++ decimal row.start
  unfolding shown_name label
  numbered e = rw e

  pub loose : row.mark ≡ 2 → (name : List ℕ) (size : ℕ) → size ≡ min row.size 255 → name ≡ part s row.start size → shown_name s (control_words row) ≡ or_dash (name_bytes name)
  unfolding shown_name
  loose e name size z q = rw (e, q, z)

  pub units : ¬ (row.mark ≡ 1) → ¬ (row.mark ≡ 2) → (name : List ℕ) (size : ℕ) → size ≡ min row.size 510 → name ≡ part s row.start size
      → shown_name s (control_words row) ≡ or_dash (units_text name)
  unfolding shown_name
  units e f name size z q = rw (ne_eqb row.mark 1 e, ne_eqb row.mark 2 f, q, z)
