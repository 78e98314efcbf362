-- Names by their bytes, and the names of the rows before one.
use Prim.Native.Nat.{ℕ, suc, ◌+◌, ◌*◌, ◌-◌, ◌≤◌, ◌<◌}
use native.Mathlib.Omega.{arith}
use mathlib.Core.Path.{◌≡◌, refl, sym, ap, ap₂, ◌∙◌}
use mathlib.Core.Bool.{Bool, true, false, not, ◌&&◌}
use mathlib.Core.List.{List, [], ◌∷◌, reverse}
use lib.Dec.{eqb}
use lib.ListN.{length, get_or, take, drop}
use Rattle.std.specs.Bool.{Decides}
use Rattle.std.proofs.lemmas.List.{reverse-reverse}
use Rattle.rules.specs.Lists.{all, same}
use Rattle.rules.specs.Bytes.{part}
use Rattle.rules.specs.Rows.{control_width}
use Rattle.rules.specs.Panel.{is_new_name}
use Rattle.rows.proofs.GetLaws.{word_in}
use Rattle.joinlaws.proofs.JoinedLaws.{same_true, same_itself}
use Rattle.panel.specs.ByRows.{start_at, size_at, bytes_at, names_before}

-- ---- lists that are the same
and-false : (b : Bool) → (b && false) ≡ false
and-false true = refl
and-false false = refl

pub other_length : (a b : List ℕ) → (length a ≡ length b → ⊥) → false ≡ same a b
unfolding same
other_length [] [] n = absurd (n refl)
other_length [] (y ∷ b) n = refl
other_length (x ∷ a) [] n = refl
other_length (x ∷ a) (y ∷ b) n = rw (sym (other_length a b (λ e. n (ap suc e)))) (sym (and-false (eqb x y)))

-- compared from the last one on
pub turned : (r : Bool) (a b : List ℕ) → Decides r (reverse a ≡ reverse b) → r ≡ same a b
turned r a b d = go r (same a b) refl refl
  where
    go : (x y : Bool) → r ≡ x → same a b ≡ y → r ≡ same a b
    go true y p q =
        let e : a ≡ b = sym (reverse-reverse a) ∙ ap reverse (d.0 p) ∙ reverse-reverse b in
        p ∙ rw e (sym (same_itself b))
    go false true p q = d.1 (ap reverse (same_true a b q)) ∙ sym q
    go false false p q = p ∙ sym q

-- ---- a row's name, by the words of the slice
module _ (s cs : List ℕ) (n : ℕ) where
  pub start_is : get_or cs (n * control_width + 2) 0 ≡ start_at cs n
  start_is = sym (word_in control_width n 2 cs (omega arith))

  pub size_is : get_or cs (n * control_width + 3) 0 ≡ size_at cs n
  size_is = sym (word_in control_width n 3 cs (omega arith))

  pub bytes_are : (start size : ℕ) → start ≡ get_or cs (n * control_width + 2) 0 → size ≡ get_or cs (n * control_width + 3) 0
      → take (start + size - start) (drop start s) ≡ bytes_at s cs n
  bytes_are start size p q =
      let e : start + size - start ≡ size = omega arith in
      ap (λ k. take k (drop start s)) e ∙ ap₂ (λ (x y : ℕ). part s x y) (p ∙ start_is) (q ∙ size_is)

-- ---- the names before row j, the last of them first
module _ (s cs name : List ℕ) (j : ℕ) (h : 0 < j) where
  one_less : is_new_name (names_before s cs j) name ≡ (not (same (bytes_at s cs (j - 1)) name) && is_new_name (names_before s cs (j - 1)) name)
  unfolding is_new_name all names_before
  one_less = let e : j ≡ suc (j - 1) = omega arith in ap (λ (i : ℕ). is_new_name (names_before s cs i) name) e

  pub name_there : same (bytes_at s cs (j - 1)) name ≡ true → false ≡ is_new_name (names_before s cs j) name
  name_there e = sym (one_less ∙ rw e)

  pub name_other : same (bytes_at s cs (j - 1)) name ≡ false → is_new_name (names_before s cs j) name ≡ is_new_name (names_before s cs (j - 1)) name
  name_other e = one_less ∙ rw e

pub none_before : (s cs name : List ℕ) (j : ℕ) → j ≤ 0 → is_new_name (names_before s cs j) name ≡ true
unfolding is_new_name all names_before
none_before s cs name j h = let e : j ≡ 0 = omega arith in rw e
