-- The parts of a line, as the code writes them, and whose properties are shown.
use Prim.Native.Nat.{ℕ, zero, suc, ◌+◌, ◌-◌, ◌<◌, ◌≤◌}
use native.Mathlib.Omega.{arith}
use native.Mathlib.Nat.{not-suc-le-zero}
use native.Mathlib.Numerals.{sub-one}
use mathlib.Core.Path.{◌≡◌, refl, sym, ap, ◌∙◌}
use mathlib.Core.Bool.{true, false}
use mathlib.Core.List.{List, [], ◌∷◌, ◌++◌}
use borrow.Author.Tests.{eq-eqb, ne_eqb}
use lib.Bits.{bit_or}
use lib.Dec.{eqb}
use lib.ListN.{length, get_or}
use Rattle.rules.specs.Lists.{find, text}
use Rattle.rules.specs.Bytes.{u16, part}
use Rattle.rules.specs.Digits.{decimal, hex}
use Rattle.rules.specs.Texts.{label}
use Rattle.rules.specs.NameTables.{control_type_names}
use Rattle.rules.specs.Names.{name_in_lem, names_for}
use Rattle.rules.specs.CodeTable.{codes_at, header}
use Rattle.rules.specs.Csv.{or_id}
use Rattle.codetable.proofs.Steps.{codes_next}
use Rattle.fields.proofs.Tables.{absent, control-types}
use Rattle.showtext.specs.Shown.{quoted, loose_text}
use Rattle.showlines.specs.declared.Scope.{Scope}
use Rattle.showlines.specs.Lines.{blanks, or_type, stored_type, is_unmapped, unmapped_text, key_text, or_code, type_text, name_text}

-- ---- a type as stored, code by code
module _ (t : List ℕ) (mark type : ℕ) where
  -- of the header codes from a place on
  unfoldable pub stored_from : ℕ → ℕ → ℕ
  stored_from at left = or_type type (find (λ code. eqb (bit_or mark code) type) (codes_at t at left))

  pub stored-all : (n : ℕ) → n ≡ get_or t 1 0 → stored_from 4 n ≡ stored_type (header t) mark type
  unfolding stored_from stored_type
  stored-all n e = rw e

  module _ (at left : ℕ) (h : 0 < left) where
    pub stored_here : (code : ℕ) → code ≡ u16 t at → bit_or mark code ≡ type → stored_from at left ≡ code
    unfolding stored_from find
    stored_here code c e = rw (codes_next t at left h, ← c, eq-eqb (bit_or mark code) type e)

    pub stored-later : (code : ℕ) → code ≡ u16 t at → (bit_or mark code ≡ type → ⊥) → stored_from at left ≡ stored_from (at + 2) (left - 1)
    unfolding stored_from find
    stored-later code c e = rw (codes_next t at left h, ← c, ne_eqb (bit_or mark code) type e)

  pub stored-none : (at left : ℕ) → left ≤ 0 → stored_from at left ≡ type
  unfolding stored_from find codes_at
  stored-none at zero h = refl
  stored-none at (suc k) h = absurd (not-suc-le-zero h)

-- ---- depth
pub deeper : (d : ℕ) → 0 < d → blanks d ≡ text "  " ++ blanks (d - 1)
unfolding blanks
deeper zero h = absurd (not-suc-le-zero h)
deeper (suc d) h = rw (sub-one (suc d)) refl

pub deep_enough : (d : ℕ) → d ≤ 0 → blanks d ≡ []
unfolding blanks
deep_enough zero h = refl
deep_enough (suc d) h = absurd (not-suc-le-zero h)

-- ---- a property's key
module _ (scope : Scope) (mark id : ℕ) where
  pub key-unmapped : is_unmapped scope id ≡ true → key_text scope mark id ≡ unmapped_text scope id
  unfolding key_text
  key-unmapped e = rw e

  pub key-mapped : is_unmapped scope id ≡ false → key_text scope mark id ≡ or_id (name_in_lem (names_for mark) id) id
  unfolding key_text
  key-mapped e = rw e

-- ---- a control's type and name
module _ (s : List ℕ) (code : ℕ) where
  pub no_name : length s ≡ 0 → or_code s code ≡ text "type " ++ hex 4 code
  unfolding or_code
  no_name e = go s e
    where
      go : (l : List ℕ) → length l ≡ 0 → or_code l code ≡ text "type " ++ hex 4 code
      go [] e = refl
      go (b ∷ l) e = absurd (omega arith)

  pub a_name : (length s ≡ 0 → ⊥) → or_code s code ≡ s
  unfolding or_code
  a_name e = go s e
    where
      go : (l : List ℕ) → (length l ≡ 0 → ⊥) → or_code l code ≡ l
      go [] e = absurd (e refl)
      go (b ∷ l) e = refl

module _ (code : ℕ) where
  pub type-named : {s : List ℕ} → s ≡ name_in_lem control_type_names code → or_code s code ≡ type_text code
  unfolding type_text
  type-named e = ap (λ (l : List ℕ). or_code l code) e

  pub type-unnamed : 65536 ≤ code → {s : List ℕ} → s ≡ [] → or_code s code ≡ type_text code
  type-unnamed h e = type-named (e ∙ sym (absent control_type_names control-types code h))

module _ (stream : List ℕ) (mark start size : ℕ) where
  pub numbered : mark ≡ 1 → name_text stream mark start size ≡ text "Control_" ++ decimal start
  unfolding name_text label
  numbered e = rw e

  pub loose : mark ≡ 2 → name_text stream mark start size ≡ loose_text stream start size
  unfolding name_text
  loose e = rw e

  pub with-name : (mark ≡ 1 → ⊥) → (mark ≡ 2 → ⊥) → name_text stream mark start size ≡ quoted (part stream start size)
  unfolding name_text
  with-name e f = rw (ne_eqb mark 1 e, ne_eqb mark 2 f)
