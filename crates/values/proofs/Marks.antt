-- The value of each mark, as the code writes it.
use mathlib.Core.Path.{◌≡◌, refl, ap, ◌∙◌}
use mathlib.Core.Bool.{true, false}
use mathlib.Core.List.{List, ◌∷◌, [], ◌++◌}
use Prim.Native.Nat.{ℕ, suc, ◌+◌, ◌-◌, ◌≤◌, ◌<◌}
use native.Mathlib.Omega.{arith}
use borrow.Author.Tests.{lt-ltb, le-ltb, eq-eqb, ne_eqb, ltb-true}
use lib.IntN.{ℤ, pos, negsuc, nat_abs}
use lib.Signed.{lt_z}
use Rattle.std.specs.Int.{w32, cast_signed, cast_unsigned}
use Rattle.std.proofs.lemmas.Int.{of_z-to_z}
use Rattle.rules.specs.Lists.{text}
use Rattle.rules.specs.Value.{signed}
use Rattle.rules.specs.Digits.{decimal, hex, signed_decimal}
use Rattle.rules.specs.Texts.{guid_text_lem}
use Rattle.rules.specs.Listing.{characters, yes_or_no, number32}

-- what is shown for each mark up to 6
abbrev pub values : ℕ → ℕ → List ℕ → List (List ℕ)
values low high g = yes_or_no low ∷ text "-" ∷ number32 low ∷ number32 low ∷ (hex 8 high ++ hex 8 low) ∷ guid_text_lem g ∷ characters g ∷ []

-- ---- a value
pub is-no : (n : ℕ) → n ≡ 0 → yes_or_no n ≡ text "no"
unfolding yes_or_no
is-no n e = rw (eq-eqb n 0 e)

pub is-yes : (n : ℕ) → (n ≡ 0 → ⊥) → yes_or_no n ≡ text "yes"
unfolding yes_or_no
is-yes n e = rw (ne_eqb n 0 e)

-- ---- a number of 32 bits, by its sign
-- what the library's two casts make of it
pub cast_back : {n : ℕ} {z : ℤ} → n < 4294967296 → z ≡ cast_signed w32 n → cast_signed w32 (cast_unsigned w32 z) ≡ cast_signed w32 n
cast_back {n} h e = ap (λ (z : ℤ). cast_signed w32 (cast_unsigned w32 z)) e ∙ ap (cast_signed w32) (of_z-to_z w32 n h)

minus : (z : ℤ) → lt_z z (pos 0) ≡ true → text "-" ++ decimal (nat_abs z) ≡ signed_decimal z
unfolding signed_decimal
minus (pos n) l = let h = ltb-true n 0 l in absurd (omega arith)
minus (negsuc n) l = refl

plus : (z : ℤ) → lt_z z (pos 0) ≡ false → decimal (nat_abs z) ≡ signed_decimal z
unfolding signed_decimal
plus (pos n) l = refl
plus (negsuc n) l = absurd (let z : ◌≡◌ {A = ℕ} 0 1 = cc in omega arith)

pub below_zero : (n : ℕ) {z : ℤ} → z ≡ cast_signed w32 n → lt_z z (pos 0) ≡ true → text "-" ++ decimal (nat_abs z) ≡ number32 n
unfolding number32 signed
below_zero n {z} e l = minus z l ∙ ap signed_decimal e

pub from_zero : (n : ℕ) {z : ℤ} → z ≡ cast_signed w32 n → lt_z z (pos 0) ≡ false → decimal (nat_abs z) ≡ number32 n
unfolding number32 signed
from_zero n {z} e l = plus z l ∙ ap signed_decimal e

-- and by its half of them
pub low_half : (n : ℕ) → n < 2147483648 → number32 n ≡ decimal n
unfolding number32 signed signed_decimal
low_half n h = rw (lt-ltb n 2147483648 h)

pub high_half : (n : ℕ) → 2147483648 ≤ n → number32 n ≡ text "-" ++ decimal (4294967295 - n + 1)
unfolding number32 signed signed_decimal
high_half n h =
    let e : suc (2147483648 + 2147483648 - suc n) ≡ 4294967295 - n + 1 = omega arith in
    rw (le-ltb n 2147483648 h) (ap (λ (k : ℕ). text "-" ++ decimal k) e)
