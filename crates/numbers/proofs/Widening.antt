-- Which bits of a single are a NaN's, and that the widened bits stand for the same value.
use mathlib.Core.Path.{◌≡◌, refl, sym, ap, ap₂, subst, ◌∙◌}
use mathlib.Core.Bool.{Bool, true, false, not, ◌&&◌}
use Prim.Native.Nat.{ℕ, ◌+◌, ◌*◌, ◌/◌, ◌%◌, ◌^◌, ◌<◌, ◌≤◌}
use native.Mathlib.Nat.{add_assoc, mod-eq_of_lt, div-add-mod'}
use native.Mathlib.Omega.{arith}
use borrow.Author.Tests.{lt-ltb, le-ltb}
use lib.Arith.{digits_mod}
use lib.Bits.{bit_or, bit_and, or_comm, or_lt, or_add_and, and_le_r}
use lib.Dec.{T}
use lib.Ieee.{Float, nan, inf, fin, binary32, binary64, of_bits, to_bits, nan_bits, is_nan, fits}
use lib.Ieee.Bits.{nan_bits_is, nan_bits_above, of_bits-fits, of_bits-to_bits}
use lib.Ieee.Fits.{fits_widens, and_i}
use Rattle.rules.specs.Value.{widened, widened_nan}
use Rattle.numbers.specs.Wide.{words_of, bits_of}

-- ---- the fraction of a NaN
or_least : (a b : ℕ) → a ≤ bit_or a b
or_least a b =
    let e : bit_or a b + bit_and a b ≡ a + b = or_add_and a b in
    let h : bit_and a b ≤ b = and_le_r a b in
    least (bit_or a b) (bit_and a b) a b e h
  where
    least : (x y a b : ℕ) → x + y ≡ a + b → y ≤ b → a ≤ x
    least x y a b e h = omega arith

-- the sum fits 64 bits
pub nan_fits : (b x : ℕ) → b < 2 ^ 32 → x < 2 ^ 52 → b / 2 ^ 31 * 2 ^ 63 % 2 ^ 64 + 0x7ff0_0000_0000_0000 + x < 2 ^ 64
nan_fits b x h k = omega arith

pub fraction_fits : (b : ℕ) → bit_or (b % 2 ^ 23 * 2 ^ 29 % 2 ^ 64) (2 ^ 51) < 2 ^ 52
fraction_fits b = or_lt 52 (b % 2 ^ 23 * 2 ^ 29 % 2 ^ 64) (2 ^ 51) (omega arith) (omega arith)

-- the code's shifts lose no bit
pub nan_is : (b : ℕ) → b < 2 ^ 32 → b / 2 ^ 31 * 2 ^ 63 % 2 ^ 64 + 0x7ff0_0000_0000_0000 + bit_or (b % 2 ^ 23 * 2 ^ 29 % 2 ^ 64) (2 ^ 51) ≡ widened_nan b
unfolding widened_nan
nan_is b h =
    let s : b / 2 ^ 31 * 2 ^ 63 < 2 ^ 64 = omega arith in
    let f : b % 2 ^ 23 * 2 ^ 29 < 2 ^ 64 = omega arith in
    ap₂ (λ (x y : ℕ). x + 0x7ff0_0000_0000_0000 + y) (mod-eq_of_lt s)
    (ap (λ (n : ℕ). bit_or n (2 ^ 51)) (mod-eq_of_lt f) ∙ or_comm (b % 2 ^ 23 * 2 ^ 29) (2 ^ 51))

-- ---- NaN or not
only_nan : (x : Float) → is_nan x ≡ true → x ≡ nan
unfolding is_nan
only_nan nan e = refl
only_nan (inf s) e = cc
only_nan (fin s m k) e = cc

-- a fraction with its top bit set, below all ones of the exponent
nan_above : (q x : ℕ) → 2 ^ 51 ≤ x → x < 2 ^ 52 → nan_bits binary64 (q * 2 ^ 63 + 0x7FF * 2 ^ 52 + x) ≡ true
nan_above q x h k =
    let r : 0x7FF * 2 ^ 52 + x < 2 ^ 63 = omega arith in
    let e : (q * 2 ^ 63 + 0x7FF * 2 ^ 52 + x) % 2 ^ 63 ≡ 0x7FF * 2 ^ 52 + x = ap (λ (n : ℕ). n % 2 ^ 63) (add_assoc (q * 2 ^ 63) (0x7FF * 2 ^ 52) x) ∙ digits_mod q r in
    nan_bits_above binary64 (q * 2 ^ 63 + 0x7FF * 2 ^ 52 + x)
    ∙ lt-ltb 9218868437227405312 ((q * 2 ^ 63 + 0x7FF * 2 ^ 52 + x) % 9223372036854775808) (omega arith)

wide_nan : (b : ℕ) → nan_bits binary64 (widened_nan b) ≡ true
unfolding widened_nan
wide_nan b =
    let f : b % 2 ^ 23 * 2 ^ 29 < 2 ^ 52 = omega arith in
    nan_above (b / 2 ^ 31) (bit_or (2 ^ 51) (b % 2 ^ 23 * 2 ^ 29)) (or_least (2 ^ 51) (b % 2 ^ 23 * 2 ^ 29)) (or_lt 52 (2 ^ 51) (b % 2 ^ 23 * 2 ^ 29) (omega arith) f)

fits_double : (b : ℕ) → T (fits binary64 (of_bits binary32 b))
fits_double b = fits_widens (of_bits binary32 b) (of_bits-fits binary32 b)

module _ (b : ℕ) (h : b % 2147483648 ≤ 2139095040) where
  number : nan_bits binary32 b ≡ false
  number = nan_bits_above binary32 b ∙ le-ltb 2139095040 (b % 2147483648) h

  pub not_nan_bits : T (not (nan_bits binary32 b))
  not_nan_bits = rw number tt

  pub not_nan : T (not (is_nan (of_bits binary32 b)))
  not_nan = subst (λ (t : Bool). T (not t)) (nan_bits_is binary32 b) not_nan_bits

  pub loses_nothing : T (fits binary64 (of_bits binary32 b) && not (is_nan (of_bits binary32 b)))
  loses_nothing = and_i (fits binary64 (of_bits binary32 b)) (not (is_nan (of_bits binary32 b))) (fits_double b) not_nan

  pub number_widened : to_bits binary64 (of_bits binary32 b) ≡ widened b
  unfolding widened
  number_widened = rw number

module _ (b : ℕ) (h : 2139095040 < b % 2147483648) where
  pub nan_widened : widened_nan b ≡ widened b
  unfolding widened
  nan_widened = rw (nan_bits_above binary32 b ∙ lt-ltb 2139095040 (b % 2147483648) h)

-- ---- the value is the same: nothing is rounded, and a NaN stays one
same_by : (b : ℕ) (t : Bool) → nan_bits binary32 b ≡ t → of_bits binary64 (widened b) ≡ of_bits binary32 b
unfolding widened
same_by b true e =
    rw e (only_nan (of_bits binary64 (widened_nan b)) (sym (nan_bits_is binary64 (widened_nan b)) ∙ wide_nan b)
    ∙ sym (only_nan (of_bits binary32 b) (sym (nan_bits_is binary32 b) ∙ e)))
same_by b false e = rw e (of_bits-to_bits binary64 (of_bits binary32 b) (fits_double b))

same_value : (b : ℕ) → of_bits binary64 (widened b) ≡ of_bits binary32 b
same_value b = same_by b (nan_bits binary32 b) refl

-- the two words of the widened bits are those bits
pub same_words : (w b : ℕ) → w ≡ widened b → of_bits binary64 (bits_of (words_of w)) ≡ of_bits binary32 b
same_words w b e =
    let z : w / 4294967296 * 4294967296 + w % 4294967296 ≡ w = div-add-mod' w 4294967296 in
    ap (λ (n : ℕ). of_bits binary64 n) (z ∙ e) ∙ same_value b
