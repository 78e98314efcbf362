-- A name, a count, as the code has them.
use mathlib.Core.Path.{◌≡◌, refl}
use mathlib.Core.List.{List, [], ◌∷◌, ◌++◌}
use Prim.Native.Nat.{ℕ}
use native.Mathlib.Omega.{arith}
use borrow.Author.Tests.{eq-eqb, ne_eqb}
use lib.ListN.{length}
use Rattle.rules.specs.Lists.{text}
use Rattle.rules.specs.Digits.{decimal}
use Rattle.rules.specs.Tree.{no_parent}
use Rattle.rules.specs.Listing.{or_dash, characters, name_column, parent_column}

pub no_name : (s : List ℕ) → length s ≡ 0 → or_dash s ≡ text "-"
unfolding or_dash
no_name [] e = refl
no_name (b ∷ s) e = absurd (omega arith)

pub a_name : (s : List ℕ) → (length s ≡ 0 → ⊥) → or_dash s ≡ s
unfolding or_dash
a_name [] e = absurd (e refl)
a_name (b ∷ s) e = refl

module _ (m size : ℕ) (bytes : List ℕ) where
  pub numbered : m ≡ 1 → name_column m size bytes ≡ text "-"
  unfolding name_column
  numbered e = rw (eq-eqb m 1 e)

  pub loose : m ≡ 2 → name_column m size bytes ≡ decimal size ++ text "b"
  unfolding name_column
  loose e = rw e

  pub with-name : (m ≡ 1 → ⊥) → (m ≡ 2 → ⊥) → name_column m size bytes ≡ characters bytes
  unfolding name_column
  with-name e f = rw (ne_eqb m 1 e, ne_eqb m 2 f)

pub top : (up : ℕ) → up ≡ no_parent → parent_column up ≡ text "-"
unfolding parent_column
top up e = rw (eq-eqb up no_parent e)

pub inside : (up : ℕ) → (up ≡ no_parent → ⊥) → parent_column up ≡ decimal up
unfolding parent_column
inside up e = rw (ne_eqb up no_parent e)
