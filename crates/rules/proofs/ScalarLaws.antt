-- How many characters UTF-16 text has, unit by unit.
use Prim.Native.Nat.{ℕ, ◌+◌, ◌*◌, ◌≤◌}
use native.Mathlib.Omega.{arith}
use mathlib.Core.Path.{◌≡◌, refl}
use mathlib.Core.Bool.{Bool, true, false, cond}
use mathlib.Core.List.{List, [], ◌∷◌}
use lib.ListN.{length}
use Rattle.rules.specs.Utf16.{is_high}
use Rattle.rules.specs.Scalars.{scalar, scalars_from, scalars}

-- a first half ends no character, every other unit ends one
abbrev pub ended : ℕ → ℕ
ended u = cond (is_high u) 0 1

-- the first half that came before has no part in how many there are
any-half : (h k : ℕ) (s : List ℕ) → length (scalars_from h s) ≡ length (scalars_from k s)
unfolding scalars_from
any-half h k [] = refl
any-half h k (a ∷ []) = refl
any-half h k (a ∷ b ∷ s) = go (is_high (a + 256 * b))
  where
    go : (t : Bool) → length (cond t (scalars_from (a + 256 * b) s) (scalar h (a + 256 * b) ∷ scalars_from 0 s))
        ≡ length (cond t (scalars_from (a + 256 * b) s) (scalar k (a + 256 * b) ∷ scalars_from 0 s))
    go true = refl
    go false = refl

pub by_unit : (h a b : ℕ) (s : List ℕ) → length (scalars_from h (a ∷ b ∷ s)) ≡ ended (a + 256 * b) + length (scalars s)
unfolding scalars_from scalars
by_unit h a b s = go (is_high (a + 256 * b))
  where
    go : (t : Bool) → length (cond t (scalars_from (a + 256 * b) s) (scalar h (a + 256 * b) ∷ scalars_from 0 s)) ≡ cond t 0 1 + length (scalars_from 0 s)
    go true = omega (arith, any-half (a + 256 * b) 0 s)
    go false = omega arith

-- two bytes for each character at least
pub few : (s : List ℕ) → 2 * length (scalars s) ≤ length s
unfolding scalars_from scalars
few [] = omega arith
few (a ∷ []) = omega arith
few (a ∷ b ∷ s) = go (is_high (a + 256 * b)) (few s) (by_unit 0 a b s)
  where
    go : (t : Bool) → 2 * length (scalars_from 0 s) ≤ length s → length (scalars_from 0 (a ∷ b ∷ s)) ≡ cond t 0 1 + length (scalars_from 0 s)
        → 2 * length (scalars_from 0 (a ∷ b ∷ s)) ≤ length (a ∷ b ∷ s)
    go true h e = omega arith
    go false h e = omega arith
