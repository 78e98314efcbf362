-- Types by their names: those above 16 bits have none, and six are boxes.
use Prim.Native.Nat.{ℕ, ◌≤◌}
use Prim.Native.String.{String}
use native.Mathlib.Omega.{arith}
use mathlib.Core.Path.{◌≡◌, refl, sym}
use mathlib.Core.Bool.{Bool, true, false, cond, not, ◌||◌}
use mathlib.Core.List.{List, [], ◌∷◌}
use mathlib.Core.Logic.{◌⊎◌, inl, inr}
use mathlib.Core.Option.{none, some}
use borrow.Author.Tests.{ltb-true, ne_eqb}
use lib.Dec.{eqb, ltb}
use lib.ListN.{length}
use Rattle.rules.specs.Lists.{all, find, same, text}
use Rattle.rules.specs.NameTables.{Table, control_type_names}
use Rattle.rules.specs.Names.{has_id, name_text, name_in_lem}
use Rattle.rules.proofs.ListLaws.{and_l, and_r}
use Rattle.rules.specs.Panel.{type_name, has_type_name, is_box}

-- ---- no row of the table has this id and a name that passes the test
abbrev other : (List ℕ → Bool) → ℕ → ℕ × String → Bool
other test x row = not (test (text row.1)) || not (eqb row.0 x)

found-other : (test : List ℕ → Bool) (x : ℕ) (t : Table) → test [] ≡ false → all (other test x) t ≡ true → test (name_text (find (has_id x) t)) ≡ false
unfolding all find
found-other test x [] h e = h
found-other test x (r ∷ t) h e =
    go (test (text r.1)) (eqb r.0 x) refl refl (and_l (other test x r) (all (other test x) t) e) (found-other test x t h (and_r (other test x r) (all (other test x) t) e))
  where
    go : (a b : Bool) → test (text r.1) ≡ a → eqb r.0 x ≡ b → (not a || not b) ≡ true → test (name_text (find (has_id x) t)) ≡ false
        → test (name_text (cond b (some r) (find (has_id x) t))) ≡ false
    go a false p q e later = later
    go false true p q e later = p
    go true true p q e later = absurd (let z : ◌≡◌ {A = ℕ} 0 1 = cc in omega arith)

pub named_other : (test : List ℕ → Bool) (x : ℕ) → test [] ≡ false → all (other test x) control_type_names ≡ true → test (type_name x) ≡ false
unfolding name_in_lem
named_other test x h e = found-other test x control_type_names h e

-- ---- types of more than 16 bits
abbrev fits : ℕ × String → Bool
fits row = ltb row.0 65536

absent : (t : Table) (x : ℕ) → 65536 ≤ x → all fits t ≡ true → find (has_id x) t ≡ none
unfolding all find
absent [] x h e = refl
absent (r ∷ t) x h e =
    let small = ltb-true r.0 65536 (and_l (fits r) (all fits t) e) in
    let n = ne_eqb r.0 x (λ q. omega arith) in
    rw n (absent t x h (and_r (fits r) (all fits t) e))

pub large_nameless : (x : ℕ) → 65536 ≤ x → false ≡ has_type_name x
unfolding has_type_name name_in_lem all control_type_names same
large_nameless x h = rw (absent control_type_names x h refl)

-- by the name's length
pub by_length : (x : ℕ) (name : List ℕ) → name ≡ type_name x → not (eqb (length name) 0) ≡ has_type_name x
unfolding has_type_name same
by_length x [] e = rw (sym e)
by_length x (b ∷ name) e = rw (sym e, ne_eqb (length (b ∷ name)) 0 (λ z. omega (arith, z)))

-- ---- boxes
pub text_box : (x : ℕ) → (x ≡ 0x006D) ⊎ ((x ≡ 0x126D) ⊎ (x ≡ 0x1B6D)) → true ≡ is_box x
unfolding is_box name_in_lem find control_type_names same
text_box x (inl e) = rw e
text_box x (inr (inl e)) = rw e
text_box x (inr (inr e)) = rw e

pub combo_box : (x : ℕ) → (x ≡ 0x006F) ⊎ ((x ≡ 0x136F) ⊎ (x ≡ 0x1B6F)) → true ≡ is_box x
unfolding is_box name_in_lem find control_type_names same
combo_box x (inl e) = rw e
combo_box x (inr (inl e)) = rw e
combo_box x (inr (inr e)) = rw e

pub no_box : (x : ℕ) → ((x ≡ 0x006D) ⊎ ((x ≡ 0x126D) ⊎ (x ≡ 0x1B6D)) → ⊥) → ((x ≡ 0x006F) ⊎ ((x ≡ 0x136F) ⊎ (x ≡ 0x1B6F)) → ⊥) → false ≡ is_box x
unfolding is_box all control_type_names same
no_box x t c =
    let a = ne_eqb 0x006D x (λ e. t (inl (sym e))) in
    let b = ne_eqb 0x126D x (λ e. t (inr (inl (sym e)))) in
    let d = ne_eqb 0x1B6D x (λ e. t (inr (inr (sym e)))) in
    let f = ne_eqb 0x006F x (λ e. c (inl (sym e))) in
    let g = ne_eqb 0x136F x (λ e. c (inr (inl (sym e)))) in
    let h = ne_eqb 0x1B6F x (λ e. c (inr (inr (sym e)))) in
    let p : same (type_name x) (text "TextBox") ≡ false = named_other (λ name. same name (text "TextBox")) x refl (rw (a, b, d)) in
    let q : same (type_name x) (text "ComboBox") ≡ false = named_other (λ name. same name (text "ComboBox")) x refl (rw (f, g, h)) in
    rw (p, q)
