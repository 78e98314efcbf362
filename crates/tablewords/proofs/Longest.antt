-- The longest line has 130 bytes.
use mathlib.Core.Path.{◌≡◌, refl}
use mathlib.Core.Bool.{Bool, true, false}
use mathlib.Core.List.{List, ◌∷◌}
use Prim.Native.Nat.{ℕ, ◌-◌, ◌≤◌}
use native.Mathlib.Omega.{arith}
use borrow.Author.Tests.{ltb-true, ltb-false, eqb-true, eqb-false}
use lib.Dec.{ltb, eqb}
use lib.ListN.{length, length-append}
use Rattle.text.proofs.Arms.{Short, no_more, ◌also◌, one-short}
use Rattle.listing.proofs.Longest.{Word32, decimal-short, hex-length}
use Rattle.tabletext.proofs.Longest.{scope-name-short}
use Rattle.tablebreak.specs.declared.Break.{Break}
use Rattle.tablewords.specs.Words.{scope_place, row_place, within, scopes_order, contents_words, contents_rule, body_words, body_rule, rule_text, break_text}
use Rattle.tablewords.proofs.Sentences.{too_large, no-scope, a_scope, of_scope, of_row, early, late}

scope-short : (s : ℕ) → Word32 s → (b : Bool) → eqb s 0 ≡ b → length (scope_place s) ≤ 18
scope-short s h true e = rw (no-scope s (eqb-true s 0 e)) (omega arith)
scope-short s h false e = rw (a_scope s (eqb-false s 0 e)) (omega (arith, decimal-short s h))

row-short : (r k c : ℕ) → Word32 r → length (row_place r k c) ≤ 30
unfolding row_place
row-short r k c h = simp length-append (omega (arith, decimal-short r h, scope-name-short k c))

-- the numbers of a break have 32 bits
pub record Words32 (b : Break) : Type 0 where
  pub at : Word32 b.at
  pub scope : Word32 b.scope
  pub row : Word32 b.row
  pub found : Word32 b.found

short : {x : List ℕ} {xs : List (List ℕ)} → length x ≤ 82 → Short 82 xs → Short 82 (x ∷ xs)
short l s = l also s

module _ (b : Break) (h : Words32 b) where
  within-short : (t : Bool) → eqb b.row 0 ≡ t → length (within b) ≤ 30
  within-short true e = rw (of_scope b (eqb-true b.row 0 e)) (omega (arith, scope-short b.scope h.scope (eqb b.scope 0) refl))
  within-short false e = rw (of_row b (eqb-false b.row 0 e)) (row-short b.row b.kind b.code h.row)

  order-short : length (scopes_order b) ≤ 82
  unfolding scopes_order
  order-short = simp length-append (omega (arith, scope-name-short b.kind b.code, scope-name-short b.found b.before))

  contents-short : length (contents_rule b) ≤ 82
  unfolding contents_rule contents_words
  contents-short =
      let count = decimal-short b.found h.found in
      let code = hex-length 4 b.found in
      let other = hex-length 4 b.before in
      one-short (scopes_order b)
      (short (omega arith) (short (simp length-append (omega arith)) (short (simp length-append (omega arith)) (short (simp length-append (omega arith)) (short (simp length-append (omega arith)) (short (simp length-append (omega arith)) no_more))))))
      order-short b.rule

  body-short : length (body_rule b) ≤ 82
  unfolding body_rule body_words
  body-short =
      let count = decimal-short b.found h.found in
      let code = hex-length 4 b.found in
      let id = hex-length 2 b.found in
      let other = hex-length 2 b.before in
      one-short too_large
      (short (simp length-append (omega arith)) (short (simp length-append (omega arith)) (short (simp length-append (omega arith)) (short (simp length-append (omega arith)) (short (simp length-append (omega arith)) (short (simp length-append (omega arith)) no_more))))))
      (omega arith) (b.rule - 7)

  rule-short : (t : Bool) → ltb b.rule 7 ≡ t → length (rule_text b) ≤ 82
  rule-short true e = rw (early b (ltb-true b.rule 7 e)) contents-short
  rule-short false e = rw (late b (ltb-false b.rule 7 e)) body-short

  pub longest_break : length (break_text b) ≤ 130
  unfolding break_text
  longest_break =
      simp length-append
      (omega (arith, decimal-short b.at h.at, within-short (eqb b.row 0) refl, rule-short (ltb b.rule 7) refl))
