-- The digits of a number as the code writes them, one at a time; how long a label is.
use mathlib.Core.Path.{◌≡◌, refl, sym, ap, ◌∙◌}
use mathlib.Core.Bool.{Bool, true, false, cond}
use mathlib.Core.List.{List, [], ◌∷◌, ◌++◌, append_assoc}
use Prim.Native.Nat.{ℕ, zero, suc, ◌+◌, ◌*◌, ◌-◌, ◌^◌, ◌/◌, ◌%◌, ◌≤◌, ◌<◌}
use native.Mathlib.Omega.{arith}
use native.Mathlib.Numerals.{unary_clauses}
use Rattle.std.specs.Prelude.{Option, None, Some, IfNone, IfSome}
use Rattle.std.specs.Option.{unwrap_or}
use borrow.Author.Tests.{lt-ltb, le-ltb, ltb-true, ltb-false}
use lib.Dec.{ltb}
use lib.ListN.{length, length-append}
use Rattle.rules.specs.Digits.{digit, decimal_by, decimal, hex}
use Rattle.rules.specs.Texts.{label}
use Rattle.text.specs.Copies.{tens}

-- more steps than there are digits change nothing
abbrev grown : ℕ → List ℕ → List ℕ
grown n l = l ++ (digit (n % 10) ∷ [])

steps_by : (n : ℕ) (l r : List ℕ) → (10 ≤ n → l ≡ r) → (t : Bool) → ltb n 10 ≡ t → cond t (digit n ∷ []) (grown n l) ≡ cond t (digit n ∷ []) (grown n r)
steps_by n l r e true q = refl
steps_by n l r e false q = ap (grown n) (e (ltb-false n 10 q))

steps : (f g n : ℕ) → n < f → n < g → decimal_by f n ≡ decimal_by g n
unfolding decimal_by
steps zero g n h k = absurd (omega arith)
steps (suc f) zero n h k = absurd (omega arith)
steps (suc f) (suc g) n h k = steps_by n (decimal_by f (n / 10)) (decimal_by g (n / 10)) (λ l. steps f g (n / 10) (omega arith) (omega arith)) (ltb n 10) refl

pub one-digit : (n : ℕ) → n < 10 → decimal n ≡ digit n ∷ []
unfolding decimal decimal_by
one-digit n h = rw (lt-ltb n 10 h)

pub more_digits : (n : ℕ) → 10 ≤ n → decimal n ≡ decimal (n / 10) ++ (digit (n % 10) ∷ [])
unfolding decimal decimal_by
more_digits n h = rw (le-ltb n 10 h) (ap (λ (l : List ℕ). l ++ (digit (n % 10) ∷ [])) (steps n (suc (n / 10)) (n / 10) (omega arith) (omega arith)))

-- ---- two digits at a time
pub two_digits : (n : ℕ) → 10 ≤ n → n < 100 → decimal n ≡ tens n
two_digits n h l = more_digits n h ∙ ap (λ (d : List ℕ). d ++ (digit (n % 10) ∷ [])) (one-digit (n / 10) (omega arith))

pub more-two : (n : ℕ) → 100 ≤ n → decimal n ≡ decimal (n / 100) ++ tens (n % 100)
more-two n h =
    let a : n / 10 / 10 ≡ n / 100 = omega arith in
    let b : n / 10 % 10 ≡ n % 100 / 10 = omega arith in
    let c : n % 10 ≡ n % 100 % 10 = omega arith in
    more_digits n (omega arith)
    ∙ ap (λ (d : List ℕ). d ++ (digit (n % 10) ∷ [])) (more_digits (n / 10) (omega arith))
    ∙ append_assoc (decimal (n / 10 / 10)) (digit (n / 10 % 10) ∷ []) (digit (n % 10) ∷ [])
    ∙ (λ i. decimal (a i) ++ (digit (b i) ∷ digit (c i) ∷ []))

pub three_digits : (n : ℕ) → 100 ≤ n → n < 1000 → decimal n ≡ digit (n / 100) ∷ tens (n % 100)
three_digits n h l = more-two n h ∙ ap (λ (d : List ℕ). d ++ tens (n % 100)) (one-digit (n / 100) (omega arith))

pub four_digits_lem : (n : ℕ) → 1000 ≤ n → n < 10000 → decimal n ≡ tens (n / 100) ++ tens (n % 100)
four_digits_lem n h l = more-two n (omega arith) ∙ ap (λ (d : List ℕ). d ++ tens (n % 100)) (two_digits (n / 100) (omega arith) (omega arith))

pub more-four : (n : ℕ) → 10000 ≤ n → decimal n ≡ decimal (n / 10000) ++ (tens (n % 10000 / 100) ++ tens (n % 10000 % 100))
more-four n h =
    let a : n / 100 / 100 ≡ n / 10000 = omega arith in
    let b : n / 100 % 100 ≡ n % 10000 / 100 = omega arith in
    let c : n % 100 ≡ n % 10000 % 100 = omega arith in
    more-two n (omega arith)
    ∙ ap (λ (d : List ℕ). d ++ tens (n % 100)) (more-two (n / 100) (omega arith))
    ∙ append_assoc (decimal (n / 100 / 100)) (tens (n / 100 % 100)) (tens (n % 100))
    ∙ (λ i. decimal (a i) ++ (tens (b i) ++ tens (c i)))

pub no-hex : (k n : ℕ) → k ≡ 0 → hex k n ≡ []
unfolding hex
no-hex zero n e = refl
no-hex (suc k) n e = absurd (omega arith)

pub more-hex : (k n : ℕ) → (k ≡ 0 → ⊥) → hex k n ≡ hex (k - 1) (n / 16) ++ (digit (n % 16) ∷ [])
unfolding hex
more-hex zero n e = absurd (e refl)
more-hex (suc k) n e = let q : k ≡ suc k - 1 = omega arith in ap (λ (j : ℕ). hex j (n / 16) ++ (digit (n % 16) ∷ [])) q

-- ---- how long a label is
pub short-label : (n : ℕ) → n < 10 → length (label n) ≡ 9
unfolding label
short-label n h = rw (one-digit n h)

pub longer-label : (n : ℕ) → 10 ≤ n → length (label n) ≡ length (label (n / 10)) + 1
unfolding label
longer-label n h = rw (more_digits n h) (simp length-append (omega arith))

-- by its power of ten
one-power : (k : ℕ) → 1 ≤ 10 ^ k
one-power zero = omega arith
one-power (suc k) = let h = one-power k in simp unary_clauses (omega arith)

pub label_power : (k n : ℕ) → 10 ^ k ≤ n → n < 10 * 10 ^ k → length (label n) ≡ 9 + k
label_power zero n h l = short-label n (omega arith)
label_power (suc k) n h l =
    let a = simp unary_clauses at h in
    let b = simp unary_clauses at l in
    let one = one-power k in
    longer-label n (omega arith) ∙ ap (λ (m : ℕ). m + 1) (label_power k (n / 10) (omega arith) (omega arith)) ∙ omega arith

pub label_logged : (n : ℕ) (r : Option ℕ) → IfNone r (n ≡ 0) → IfSome r (λ k. 10 ^ k ≤ n) → IfSome r (λ k. n < 10 * 10 ^ k) → 9 + unwrap_or r 0 ≡ length (label n)
label_logged n None z a b = let e : n ≡ 0 = z in sym (short-label n (omega arith))
label_logged n (Some k) z a b = sym (label_power k n a b)

-- ten, and ten times ten k times
abbrev times : ℕ → ℕ
times zero = 10
times (suc k) = times k * 10

label-by : (k n : ℕ) → (10 ≤ n → length (label (n / 10)) ≤ k + 8) → (t : Bool) → ltb n 10 ≡ t → length (label n) ≤ suc k + 8
label-by k n h true e = rw (short-label n (ltb-true n 10 e)) (omega arith)
label-by k n h false e = let g : 10 ≤ n = ltb-false n 10 e in rw (longer-label n g) (omega (arith, h g))

label-most : (k n : ℕ) → n < times k → length (label n) ≤ suc k + 8
label-most zero n h = label-by zero n (λ g. absurd (omega arith)) (ltb n 10) refl
label-most (suc k) n h = label-by (suc k) n (λ g. label-most k (n / 10) (omega arith)) (ltb n 10) refl

pub longest-label : (n : ℕ) → n < 4294967296 → length (label n) ≤ 18
longest-label n h = label-most 9 n (omega arith)
