-- A property and a name as they are shown.
use Prim.Native.Nat.{ℕ, ◌<◌}
use native.Mathlib.Omega.{arith}
use mathlib.Core.Path.{◌≡◌, refl, sym, ap, ◌∙◌}
use mathlib.Core.Bool.{Bool, true, false, cond, ◌&&◌}
use mathlib.Core.List.{List}
use mathlib.Core.Option.{none, some}
use mathlib.Core.Option as maybe
use lib.Bits.{bit_or}
use lib.Dec.{leb, ltb, eqb}
use lib.ListN.{length}
use borrow.Author.Tests.{lt-ltb, eq-eqb}
use Rattle.std.proofs.Common.{Option, Some, None}
use Rattle.rules.specs.Lists.{find}
use Rattle.rules.specs.Bytes.{part, u32}
use Rattle.rules.specs.Utf16.{is_utf16_lem}
use Rattle.rules.specs.Value.{value, guid_value, stored_value_lem, value_as_lem}
use Rattle.rules.specs.CodeTable.{Tie, is_tied}
use Rattle.rules.specs.Read2000.{property, shown}
use Rattle.rules.specs.declared.Property.{Property}
use Rattle.rules.specs.declared.Value.{Value}
use Rattle.coderows.specs.Look.{as_row}
use Rattle.coderows.specs.declared.Tie as tied
use Rattle.run2000.specs.Runs.{prop, shown_in}

module _ (ties : List Tie) (s : List ℕ) (id st sz : ℕ) {row : Option tied.Tie} (re : row ≡ as_row (find (is_tied id) ties)) {bytes : List ℕ} (be : bytes ≡ part s st sz) {v : Value} where
  pub shown-tied : {t : tied.Tie} → row ≡ Some t → v ≡ value_as_lem t.kind id bytes → property t.target v (prop id st sz) ≡ shown_in ties s (prop id st sz)
  unfolding shown_in
  shown-tied {t} k ve = go (find (is_tied id) ties) (sym re ∙ k)
    where
      go : (o : maybe.Option Tie) → as_row o ≡ Some t → property t.target v (prop id st sz) ≡ shown s (prop id st sz) o
      go none e = cc
      go (some r) e =
          let a : t.target ≡ r.target = cc in
          let b : t.kind ≡ r.kind = cc in
          let c : v ≡ value_as_lem r.kind id (part s st sz) = ve ∙ (λ i. value_as_lem (b i) id (be i)) in
          λ i. property (a i) (c i) (prop id st sz)

  pub shown-untied : {code : ℕ} → row ≡ None → code ≡ bit_or 0x8000 id → v ≡ stored_value_lem id bytes → property code v (prop id st sz) ≡ shown_in ties s (prop id st sz)
  unfolding shown_in
  shown-untied {code = code} k ce ve = go (find (is_tied id) ties) (sym re ∙ k)
    where
      go : (o : maybe.Option Tie) → as_row o ≡ None → property code v (prop id st sz) ≡ shown s (prop id st sz) o
      go none e =
          let c : v ≡ stored_value_lem id (part s st sz) = ve ∙ ap (stored_value_lem id) be in
          λ i. property (ce i) (c i) (prop id st sz)
      go (some r) e = cc

-- ---- only UTF-16 is marked as text
six_else : (c : Bool) (x y : Value) → (x.mark ≡ 6 → ⊥) → (y.mark ≡ 6 → ⊥) → (cond c x y).mark ≡ 6 → ⊥
six_else true x y hx hy e = hx e
six_else false x y hx hy e = hy e

stored_not_six : (id : ℕ) (b : List ℕ) → (stored_value_lem id b).mark ≡ 6 → ⊥
unfolding stored_value_lem
stored_not_six id b =
    six_else (leb id 0x2F) _ _ (λ e. omega (arith, e)) (six_else (leb id 0x5F) _ _ (λ e. omega (arith, e)) (six_else (leb id 0x7F) _ _ (λ e. omega (arith, e))
    (six_else (leb id 0xBC) _ _ (λ e. omega (arith, e)) (λ e. omega (arith, e)))))

value-six : (kind id : ℕ) (b : List ℕ) → (value_as_lem kind id b).mark ≡ 6 → is_utf16_lem b ≡ true
unfolding value_as_lem
value-six kind id b = go (ltb 0xBC id) (eqb kind 1) (is_utf16_lem b)
  where
    rest : Value
    rest = cond (ltb 0xBC id && eqb kind 2 && eqb (length b) 16) guid_value (cond (ltb 0xBC id && eqb kind 3 && eqb (length b) 8) (value 4 (u32 b 0) (u32 b 4)) (stored_value_lem id b))

    none_else : rest.mark ≡ 6 → ⊥
    none_else =
        six_else (ltb 0xBC id && eqb kind 2 && eqb (length b) 16) _ _ (λ e. let h : 5 ≡ 6 = e in omega (arith, h))
        (six_else (ltb 0xBC id && eqb kind 3 && eqb (length b) 8) _ _ (λ e. let h : 4 ≡ 6 = e in omega (arith, h)) (stored_not_six id b))

    go : (x y z : Bool) → (cond (x && y && z) (value 6 0 0) rest).mark ≡ 6 → z ≡ true
    go true true true e = refl
    go true true false e = absurd (none_else e)
    go true false z e = absurd (none_else e)
    go false y z e = absurd (none_else e)

pub shown-six : (ties : List Tie) (s : List ℕ) (id st sz : ℕ) {p : Property} → p ≡ shown_in ties s (prop id st sz) → p.value.mark ≡ 6 → is_utf16_lem (part s st sz) ≡ true
unfolding shown_in
shown-six ties s id st sz pe e = go (find (is_tied id) ties) (ap (λ q. q.value.mark) (sym pe) ∙ e)
  where
    go : (o : maybe.Option Tie) → (shown s (prop id st sz) o).value.mark ≡ 6 → is_utf16_lem (part s st sz) ≡ true
    go none e = absurd (stored_not_six id (part s st sz) e)
    go (some r) e = value-six r.kind id (part s st sz) e

-- bytes with a length that a row of kind 1 ties are text where they are UTF-16
pub plain-text : (kind id : ℕ) (bytes b : List ℕ) → bytes ≡ b → 0xBC < id → kind ≡ 1 → is_utf16_lem bytes ≡ true → value 6 0 0 ≡ value_as_lem kind id b
unfolding value_as_lem
plain-text kind id bytes b be h k u =
    let v : is_utf16_lem b ≡ true = ap is_utf16_lem (sym be) ∙ u in
    simp (lt-ltb 0xBC id h, eq-eqb kind 1 k, v)
