-- The names that a mark uses.
use mathlib.Core.Path.{◌≡◌}
use mathlib.Core.List.{[]}
use mathlib.Core.Logic.{◌⊎◌, inl, inr}
use Prim.Native.Nat.{ℕ, ◌≤◌, ◌<◌}
use borrow.Author.Tests.{le-leb, lt-leb, ne_eqb}
use Rattle.rules.specs.NameTables.{text_names, number_names, bytes_names}
use Rattle.rules.specs.Names.{names_for}

module _ (m : ℕ) where
  pub numbers : m ≤ 4 → number_names ≡ names_for m
  unfolding names_for
  numbers h = rw (le-leb m 4 h)

  pub texts : (m ≡ 6) ⊎ (m ≡ 8) → text_names ≡ names_for m
  unfolding names_for
  texts (inl e) = rw e
  texts (inr e) = rw e

  pub bytes : (m ≡ 5) ⊎ (m ≡ 7) → bytes_names ≡ names_for m
  unfolding names_for
  bytes (inl e) = rw e
  bytes (inr e) = rw e

  pub none : 4 < m → ((m ≡ 6) ⊎ (m ≡ 8) → ⊥) → ((m ≡ 5) ⊎ (m ≡ 7) → ⊥) → [] ≡ names_for m
  unfolding names_for
  none h t b = rw (lt-leb m 4 h, ne_eqb m 6 (λ e. t (inl e)), ne_eqb m 8 (λ e. t (inr e)), ne_eqb m 5 (λ e. b (inl e)), ne_eqb m 7 (λ e. b (inr e)))
