-- Searches, words and numbers, as the code meets them: one byte at a time, one test at a time.
use Prim.Native.Nat.{ℕ, suc, ◌+◌, ◌*◌, ◌-◌, ◌≤◌, ◌<◌}
use native.Mathlib.Omega.{arith}
use mathlib.Core.Path.{◌≡◌, refl, sym, ap, subst, ◌∙◌}
use mathlib.Core.Bool.{Bool, true, false, cond, and-false}
use mathlib.Core.List.{List, [], ◌∷◌, ◌++◌}
use Rattle.std.proofs.Common.{Option, Some, None, nat_eq}
use Rattle.std.specs.Option.{SomeIff}
use Rattle.std.proofs.lemmas.Bool.Decides.{nat_tests}
use Rattle.std.specs.Char.{digit_value}
use borrow.Author.Tests.{lt-ltb, le-ltb, le-leb, lt-leb, eq-eqb, ne_eqb, ltb-true, ltb-false}
use lib.Dec.{ltb, eqb}
use lib.Pointwise.{pointwise}
use lib.ListN.{length, get_or, take, drop, length-drop}
use lib.Seq.{length-take-le}
use Rattle.std.proofs.lemmas.List.{get_or-take, get_or-drop, take-append-drop}
use Rattle.rules.specs.Lists.{same}
use Rattle.tablelines.specs.Words.{stops, before, onward, digit_of, byte_of, code_of, two_of, four_of}
use Rattle.tablelines.specs.Items.{Cut, below}

-- ---- what is cut off
cut_by : (search : ℕ) (f g : List ℕ) → ((k : ℕ) → k < length f → stops search (get_or f k 0) ≡ false) → (0 < length g → stops search (get_or g 0 0) ≡ true) → (before search (f ++ g) ≡ f) × (onward search (f ++ g) ≡ g)
unfolding before onward
cut_by search [] [] p e = (refl, refl)
cut_by search [] (y ∷ g) p e = let z = e (omega arith) in (rw z, rw z)
cut_by search (x ∷ f) g p e =
    let z = p 0 (omega arith) in
    let k = cut_by search f g (λ i l. p (suc i) (omega arith)) e in
    (rw z (ap (λ (l : List ℕ). x ∷ l) k.0), rw z k.1)

pub cut_at : {Test : ℕ → Bool → Type 0} {s front back : List ℕ} {p : ℕ} → front ≡ take p s → back ≡ drop p s → p ≤ length s → ((k : ℕ) → k < p → Test (get_or s k 0) false) → (p < length s → Test (get_or s p 0) true) → Cut Test s front back
cut_at {Test} {s} {front} {back} {p} f g h passed stopped =
    let n = length-take-le p s h in
    let m = length-drop p s in
    let q : p + 0 ≡ p = omega arith in
    let here : (k : ℕ) → k < length (take p s) → Test (get_or (take p s) k 0) false = λ k l. subst (λ (b : ℕ). Test b false) (sym (get_or-take p s k 0 (omega arith))) (passed k (omega arith)) in
    let there : 0 < length (drop p s) → Test (get_or (drop p s) 0 0) true = λ l. subst (λ (b : ℕ). Test b true) (sym (get_or-drop p s 0 0 ∙ ap (λ (i : ℕ). get_or s i 0) q)) (stopped (omega arith)) in
    rw (f, g) (record { joined = sym (take-append-drop p s); passed = here; stopped = there })

-- where the test is that of a search
module _ (search : ℕ) {Test : ℕ → Bool → Type 0} (is : (b : ℕ) (r : Bool) → Test b r → stops search b ≡ r) {s f g : List ℕ} (C : Cut Test s f g) where
  both : (before search s ≡ f) × (onward search s ≡ g)
  both = rw C.joined (cut_by search f g (λ k l. is _ _ (C.passed k l)) (λ l. is _ _ (C.stopped l)))

  pub in_front : before search s ≡ f
  in_front = both.0

  pub from_it_on : onward search s ≡ g
  from_it_on = both.1

-- ---- the same word
pub other_length : (a b : List ℕ) → (length a ≡ length b → ⊥) → same a b ≡ false
unfolding same
other_length [] [] n = absurd (n refl)
other_length [] (y ∷ b) n = refl
other_length (x ∷ a) [] n = refl
other_length (x ∷ a) (y ∷ b) n = rw (other_length a b (λ e. n (ap suc e))) (and-false (eqb x y))

pub same_each : (a b : List ℕ) → pointwise nat_eq a b ≡ same a b
unfolding same
same_each [] [] = refl
same_each [] (y ∷ b) = refl
same_each (x ∷ a) [] = refl
same_each (x ∷ a) (y ∷ b) = rw (same_each a b) refl

-- ---- a number, or none
abbrev is_there : Option ℕ → ℕ
is_there (Some n) = 1
is_there None = 0

abbrev there : (x : ℕ) → Option ℕ → ℕ
there x (Some n) = n
there x None = x

module _ {most n : ℕ} where
  pub none_above : None ≡ below most n → most ≤ n
  none_above e = go (ltb n most) refl e
    where
      go : (t : Bool) → ltb n most ≡ t → None ≡ cond t (Some n) None → most ≤ n
      go true q e = let z : ◌≡◌ {A = ℕ} 0 1 = ap is_there e in absurd (omega arith)
      go false q e = ltb-false n most q

  pub some_below : {x : ℕ} → Some x ≡ below most n → (x ≡ n) × (n < most)
  some_below {x} e = go (ltb n most) refl e
    where
      go : (t : Bool) → ltb n most ≡ t → Some x ≡ cond t (Some n) None → (x ≡ n) × (n < most)
      go true q e = (ap (there x) e, ltb-true n most q)
      go false q e = let z : ◌≡◌ {A = ℕ} 1 0 = ap is_there e in absurd (omega arith)

  pub none_of : most ≤ n → None ≡ below most n
  none_of h = rw (le-ltb n most h) refl

  pub some_of : n < most → Some n ≡ below most n
  some_of h = rw (lt-ltb n most h) refl

-- ---- digits
module _ (b : ℕ) where
  before_digits : b < 48 → digit_of b ≡ 16
  unfolding digit_of
  before_digits h = rw (lt-leb 48 b h, lt-leb 65 b (omega arith), lt-leb 97 b (omega arith))

  a_digit : 48 ≤ b → b ≤ 57 → digit_of b ≡ b - 48
  unfolding digit_of
  a_digit h g = rw (le-leb 48 b h, le-leb b 57 g)

  before_capitals : 57 < b → b < 65 → digit_of b ≡ 16
  unfolding digit_of
  before_capitals h g = rw (le-leb 48 b (omega arith), lt-leb b 57 h, lt-leb 65 b g, lt-leb 97 b (omega arith))

  a_capital : 65 ≤ b → b ≤ 70 → digit_of b ≡ b - 55
  unfolding digit_of
  a_capital h g = rw (le-leb 48 b (omega arith), lt-leb b 57 (omega arith), le-leb 65 b h, le-leb b 70 g)

  before-letters : 70 < b → b < 97 → digit_of b ≡ 16
  unfolding digit_of
  before-letters h g = rw (le-leb 48 b (omega arith), lt-leb b 57 (omega arith), le-leb 65 b (omega arith), lt-leb b 70 h, lt-leb 97 b g)

  a_letter : 97 ≤ b → b ≤ 102 → digit_of b ≡ b - 87
  unfolding digit_of
  a_letter h g = rw (le-leb 48 b (omega arith), lt-leb b 57 (omega arith), le-leb 65 b (omega arith), lt-leb b 70 (omega arith), le-leb 97 b h, le-leb b 102 g)

  after_letters : 102 < b → digit_of b ≡ 16
  unfolding digit_of
  after_letters h = rw (le-leb 48 b (omega arith), lt-leb b 57 (omega arith), le-leb 65 b (omega arith), lt-leb b 70 (omega arith), le-leb 97 b (omega arith), lt-leb b 102 h)

  -- as the library has it
  as_value : digit_of b ≡ cond (ltb (digit_value b) 16) (digit_value b) 16
  unfolding digit_of
  as_value = grind (arith, nat_tests)

not_lt : (m n : ℕ) → (m < n → ⊥) → n ≤ m
not_lt m n h = go (ltb m n) refl
  where
    go : (t : Bool) → ltb m n ≡ t → n ≤ m
    go true q = absurd (h (ltb-true m n q))
    go false q = ltb-false m n q

value_read : (b : ℕ) (r : Option ℕ) → SomeIff r (digit_value b < 16) (digit_value b) → r ≡ below 16 (digit_of b)
value_read b None h = let e = as_value b in none_of (rw (e, le-ltb (digit_value b) 16 (not_lt _ _ h)) (omega arith))
value_read b (Some d) h = let e = as_value b in let q : digit_of b ≡ d = rw (e, lt-ltb (digit_value b) 16 h.0) (sym h.1) in rw (← q) (some_of (omega (arith, q, h.0, h.1)))

pub digit_read : {b x : ℕ} {r : Option ℕ} → x ≡ b → SomeIff r (digit_value x < 16) (digit_value x) → r ≡ below 16 (digit_of b)
digit_read {b} {x} {r} e h = value_read b r (subst (λ (n : ℕ). SomeIff r (digit_value n < 16) (digit_value n)) e h)

-- ---- numbers of two digits
-- the number of a hex digit
pub record Digit (b r : ℕ) : Type 0 where
  pub is : r ≡ digit_of b
  pub small : r ≤ 16

module _ (a b : ℕ) where
  pub no-high : 16 ≤ digit_of a → byte_of a b ≡ 256
  unfolding byte_of
  no-high h = rw (le-ltb (digit_of a) 16 h)

  pub no-low : digit_of a < 16 → 16 ≤ digit_of b → byte_of a b ≡ 256
  unfolding byte_of
  no-low g h = rw (lt-ltb (digit_of a) 16 g, le-ltb (digit_of b) 16 h)

  pub two_small : digit_of a < 16 → digit_of b < 16 → byte_of a b ≡ 16 * digit_of a + digit_of b
  unfolding byte_of
  two_small g h = rw (lt-ltb (digit_of a) 16 g, lt-ltb (digit_of b) 16 h)

pub a_byte : {a b high low : ℕ} → Digit a high → Digit b low → (high ≡ 16 → ⊥) → (low ≡ 16 → ⊥) → byte_of a b ≡ 16 * high + low
a_byte {a} {b} h l n m = let s = h.small in let t = l.small in let e = h.is in let f = l.is in omega (arith, two_small a b (omega arith) (omega arith))

module _ (high low : ℕ) where
  pub no-high-byte : 256 ≤ high → code_of high low ≡ 65536
  unfolding code_of
  no-high-byte h = rw (le-ltb high 256 h)

  pub no-low-byte : high < 256 → 256 ≤ low → code_of high low ≡ 65536
  unfolding code_of
  no-low-byte g h = rw (lt-ltb high 256 g, le-ltb low 256 h)

  pub a_code : high < 256 → low < 256 → code_of high low ≡ 256 * high + low
  unfolding code_of
  a_code g h = rw (lt-ltb high 256 g, lt-ltb low 256 h)

pub two_digits : (w : List ℕ) → length w ≡ 2 → two_of w ≡ byte_of (get_or w 0 0) (get_or w 1 0)
unfolding two_of
two_digits w e = rw (eq-eqb (length w) 2 e)

pub not_two : (w : List ℕ) → (length w ≡ 2 → ⊥) → two_of w ≡ 256
unfolding two_of
not_two w n = rw (ne_eqb (length w) 2 n)

pub four_digits_lem : (w : List ℕ) → length w ≡ 4 → four_of w ≡ code_of (byte_of (get_or w 0 0) (get_or w 1 0)) (byte_of (get_or w 2 0) (get_or w 3 0))
unfolding four_of
four_digits_lem w e = rw (eq-eqb (length w) 4 e)

pub not_four : (w : List ℕ) → (length w ≡ 4 → ⊥) → four_of w ≡ 65536
unfolding four_of
not_four w n = rw (ne_eqb (length w) 4 n)
