-- The lines that are printed, as the code writes them; the longest has 93 bytes, so a buffer of 128 holds each whole.
use mathlib.Core.Path.{◌≡◌, refl}
use mathlib.Core.Bool.{Bool, true, false}
use mathlib.Core.List.{List, [], ◌++◌}
use Prim.Native.Nat.{ℕ, ◌-◌, ◌≤◌, ◌<◌}
use native.Mathlib.Omega.{arith}
use borrow.Author.Tests.{lt-ltb, le-ltb, ltb-true, ltb-false, eq-eqb, ne_eqb, eqb-true, eqb-false}
use lib.Dec.{ltb, eqb}
use lib.ListN.{length, take, length-append}
use Rattle.rules.specs.Lists.{all, text}
use Rattle.rules.specs.Digits.{decimal}
use Rattle.text.specs.Writer.{Wrote}
use Rattle.text.proofs.Arms.{all_short, one-short}
use Rattle.listing.proofs.Placed.{held}
use Rattle.listing.proofs.Longest.{Word32, decimal-short}
use Rattle.tablewhy.specs.Why.{line_place, word_texts, words_why, rule_texts, rules_why, why, why_text, size_text}

-- what is said past the end of each list
abbrev pub last_word : List ℕ
last_word = text "header lines stand before the first scope"

abbrev pub last_rule : List ℕ
last_rule = text "there is no room for its table"

pub no_line : (n : ℕ) → n ≡ 0 → line_place n ≡ []
unfolding line_place
no_line n e = rw (eq-eqb n 0 e)

pub a_line : (n : ℕ) → (n ≡ 0 → ⊥) → line_place n ≡ text "line " ++ (decimal n ++ text ": ")
unfolding line_place
a_line n e = rw (ne_eqb n 0 e)

pub of_words : (e : ℕ) → e < 9 → why e ≡ words_why e
unfolding why
of_words e h = rw (lt-ltb e 9 h)

pub of_rules : (e : ℕ) → 9 ≤ e → why e ≡ rules_why e
unfolding why
of_rules e h = rw (le-ltb e 9 h)

-- ---- how long they are
line-short : (n : ℕ) → Word32 n → (b : Bool) → eqb n 0 ≡ b → length (line_place n) ≤ 17
line-short n h true e = rw (no_line n (eqb-true n 0 e)) (omega arith)
line-short n h false e = rw (a_line n (eqb-false n 0 e)) (simp length-append (omega (arith, decimal-short n h)))

words-short : (e : ℕ) → length (words_why e) ≤ 75
unfolding words_why all
words-short e = one-short last_word (all_short 75 word_texts refl) (omega arith) e

rules_short : (e : ℕ) → length (rules_why e) ≤ 75
unfolding rules_why all
rules_short e = one-short last_rule (all_short 75 rule_texts refl) (omega arith) (e - 9)

why-short : (e : ℕ) → (b : Bool) → ltb e 9 ≡ b → length (why e) ≤ 75
why-short e true q = rw (of_words e (ltb-true e 9 q)) (words-short e)
why-short e false q = rw (of_rules e (ltb-false e 9 q)) (rules_short e)

module _ (e n : ℕ) (h : Word32 n) where
  pub longest-why : length (why_text e n) ≤ 93
  unfolding why_text
  longest-why = simp length-append (omega (arith, line-short n h (eqb n 0) refl, why-short e (ltb e 9) refl))

  pub whole-why : {o new : List ℕ} {p : ℕ} → Wrote o 0 (why_text e n) new p → 128 ≤ length o → take p new ≡ why_text e n
  whole-why l g = held l (omega (arith, longest-why))

module _ (n : ℕ) (h : Word32 n) where
  pub longest-size : length (size_text n) ≤ 17
  unfolding size_text
  longest-size = simp length-append (omega (arith, decimal-short n h))

  pub whole-size : {o new : List ℕ} {p : ℕ} → Wrote o 0 (size_text n) new p → 128 ≤ length o → take p new ≡ size_text n
  whole-size l g = held l (omega (arith, longest-size))
