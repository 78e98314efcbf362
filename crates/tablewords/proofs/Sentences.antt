-- The parts of the line, as the code writes them.
use mathlib.Core.Path.{◌≡◌}
use mathlib.Core.List.{List, [], ◌++◌}
use Prim.Native.Nat.{ℕ, ◌≤◌, ◌<◌}
use borrow.Author.Tests.{lt-ltb, le-ltb, eq-eqb, ne_eqb}
use Rattle.rules.specs.Lists.{text}
use Rattle.rules.specs.Digits.{decimal}
use Rattle.tablebreak.specs.declared.Break.{Break}
use Rattle.tablewords.specs.Words.{scope_place, row_place, within, contents_rule, body_rule, rule_text}

-- what is said of the last rule
abbrev pub too_large : List ℕ
too_large = text "it goes on here; a table has at most 65100 bytes"

-- ---- the place
pub no-scope : (s : ℕ) → s ≡ 0 → scope_place s ≡ []
unfolding scope_place
no-scope s e = rw (eq-eqb s 0 e)

pub a_scope : (s : ℕ) → (s ≡ 0 → ⊥) → scope_place s ≡ text ", scope " ++ decimal s
unfolding scope_place
a_scope s e = rw (ne_eqb s 0 e)

module _ (b : Break) where
  pub of_scope : b.row ≡ 0 → within b ≡ scope_place b.scope
  unfolding within
  of_scope e = rw (eq-eqb b.row 0 e)

  pub of_row : (b.row ≡ 0 → ⊥) → within b ≡ row_place b.row b.kind b.code
  unfolding within
  of_row e = rw (ne_eqb b.row 0 e)

  -- ---- the rule
  pub early : b.rule < 7 → rule_text b ≡ contents_rule b
  unfolding rule_text
  early h = rw (lt-ltb b.rule 7 h)

  pub late : 7 ≤ b.rule → rule_text b ≡ body_rule b
  unfolding rule_text
  late h = rw (le-ltb b.rule 7 h)
