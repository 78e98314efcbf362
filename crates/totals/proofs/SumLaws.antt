-- Numbers added place by place, and the ceiling; and the layouts' counts as what a Blob comes to.
use Prim.Native.Nat.{ℕ, ◌+◌, ◌≤◌, ◌<◌}
use native.Mathlib.Numerals.{add-one}
use native.Mathlib.Omega.{arith}
use mathlib.Core.Path.{◌≡◌, refl, sym, ap, ◌∙◌}
use mathlib.Core.Bool.{Bool, true, false, ◌&&◌}
use mathlib.Core.List.{List, [], ◌∷◌, ◌++◌, append_assoc, append-nil}
use lib.ListN.{length, get_or, set, take, drop, length-drop, length-set}
use lib.Seq.{take-suc-set, drop-set-lt, drop-length, take-length, length-take-le}
use borrow.Author.Tests.{leb-true, lt-ltb, le-ltb}
use Rattle.rules.specs.Lists.{all}
use Rattle.rules.specs.Answer.{refusal, too_long_lem, bad_table, longest}
use Rattle.rules.specs.CodeTable.{well_formed_lem}
use Rattle.rules.specs.Blob.{is2000, reading_of, outcome}
use Rattle.rules.specs.Totals.{sums, sum, ceiling, holds, within}
use Rattle.rules.specs.declared.Answer.{Answer}
use Rattle.rules.specs.declared.Totals.{Totals}
use Rattle.rules.proofs.ListLaws.{and_l, and_r}
use Rattle.totallaws.proofs.TotalsLaws.{held-step, sums-step}
use Rattle.tally.specs.Places.{bumps, Tallied}
use Rattle.tally2000.specs.Counting as old
use Rattle.tallylater.specs.Counting as new

-- ---- one place of two lists
module _ (t d : List ℕ) (i : ℕ) where
  pub fit-no : i < length t → i < length d → holds (get_or t i 0 + get_or d i 0) ≡ false → all holds (sums (drop i t) (drop i d)) ≡ false
  fit-no h k big = held-step t d i h k ∙ rw big

  pub fit-yes : i < length t → i < length d → holds (get_or t i 0 + get_or d i 0) ≡ true → all holds (sums (drop i t) (drop i d)) ≡ all holds (sums (drop (i + 1) t) (drop (i + 1) d))
  fit-yes h k small = held-step t d i h k ∙ rw small

  -- where all fit, the next sum fits, and the rest does
  pub sum-small : i < length t → i < length d → all holds (sums (drop i t) (drop i d)) ≡ true → get_or t i 0 + get_or d i 0 ≤ ceiling
  sum-small h k e = leb-true _ _ (and_l (holds (get_or t i 0 + get_or d i 0)) _ (sym (held-step t d i h k) ∙ e))

  pub rest-fits : (x : ℕ) → i < length t → i < length d → all holds (sums (drop i t) (drop i d)) ≡ true → all holds (sums (drop (i + 1) (set t i x)) (drop (i + 1) d)) ≡ true
  rest-fits x h k e =
      let s : i < i + 1 = omega arith in
      rw (drop-set-lt (i + 1) t i x s) (and_r (holds (get_or t i 0 + get_or d i 0)) _ (sym (held-step t d i h k) ∙ e))

  pub sum-put : i < length t → i < length d
      → take i t ++ sums (drop i t) (drop i d) ≡ take (i + 1) (set t i (get_or t i 0 + get_or d i 0)) ++ sums (drop (i + 1) (set t i (get_or t i 0 + get_or d i 0))) (drop (i + 1) d)
  sum-put h k =
      let s : i < i + 1 = omega arith in
      let u : take (i + 1) (set t i (get_or t i 0 + get_or d i 0)) ≡ take i t ++ ((get_or t i 0 + get_or d i 0) ∷ []) = rw add-one (take-suc-set t i (get_or t i 0 + get_or d i 0) h) in
      rw (sums-step t d i h k, drop-set-lt (i + 1) t i (get_or t i 0 + get_or d i 0) s, u, append_assoc)

  -- at the end nothing is left
  pub fit-end : length t ≤ i → i ≤ length t → length t ≡ length d → all holds (sums (drop i t) (drop i d)) ≡ true
  unfolding all sums
  fit-end h k e =
      let z : i ≡ length t = omega arith in
      rw (z, drop-length t, e, drop-length d)

  pub sums-end : length t ≤ i → i ≤ length t → length t ≡ length d → take i t ++ sums (drop i t) (drop i d) ≡ t
  unfolding sums
  sums-end h k e =
      let z : i ≡ length t = omega arith in
      rw (z, drop-length t, take-length t, e, drop-length d, append-nil)

-- the sums up to i are in place
pub record Adding (old more into : List ℕ) (i : ℕ) : Type 0 where
  pub paired : length into ≡ length more
  pub fits : all holds (sums (drop i into) (drop i more)) ≡ true
  pub added : sums old more ≡ take i into ++ sums (drop i into) (drop i more)

pub adding_start : {old more : List ℕ} → length old ≡ length more → all holds (sums old more) ≡ true → Adding old more old 0
adding_start p f = record { paired = p; fits = f; added = refl }

module _ {old more into : List ℕ} {i : ℕ} (known : Adding old more into i) where
  module _ (h : i < length more) where
    pub adding_small : get_or into i 0 + get_or more i 0 ≤ ceiling
    adding_small = sum-small into more i (omega (arith, known.paired)) h known.fits

    pub adding_more : Adding old more (set into i (get_or into i 0 + get_or more i 0)) (i + 1)
    adding_more = record {
      paired = length-set into i _ ∙ known.paired;
      fits = rest-fits into more i _ (omega (arith, known.paired)) h known.fits;
      added = known.added ∙ sum-put into more i (omega (arith, known.paired)) h;
    }

  pub adding_all : length more ≤ i → i ≤ length more → into ≡ sums old more
  adding_all h k = sym (known.added ∙ sums-end into more i (omega (arith, known.paired)) (omega (arith, known.paired)) known.paired)

-- a chain of tests, by the two arms of each
pub and_then : {v r a : Bool} (b : Bool) → v ≡ r → r ≡ b → true ≡ a → v ≡ (a && b)
and_then b e f t = e ∙ f ∙ ap (λ a. a && b) t

pub and_else : {v r a : Bool} (b : Bool) → v ≡ r → r ≡ false → false ≡ a → v ≡ (a && b)
and_else b e f t = e ∙ f ∙ ap (λ a. a && b) t

-- the record's parts fit one by one: d is what is added
pub within_parts : (t d : Totals) (v₁ v₂ v₃ : Bool) {r : Bool} → v₁ ≡ (all holds (sums t.answers d.answers) && all holds (sums t.types d.types)) → v₂ ≡ (v₁ && holds (t.unmapped + d.unmapped))
    → v₃ ≡ (v₂ && holds (t.mapped + d.mapped)) → r ≡ (v₃ && all holds (sums t.marks d.marks)) → r ≡ within (sum t d)
unfolding within sum
within_parts t d v₁ v₂ v₃ e₁ e₂ e₃ e =
    e ∙ ap (λ v. v && all holds (sums t.marks d.marks)) (e₃ ∙ ap (λ v. v && holds (t.mapped + d.mapped)) (e₂ ∙ ap (λ v. v && holds (t.unmapped + d.unmapped)) e₁))
    ∙ go (all holds (sums t.answers d.answers)) (all holds (sums t.types d.types)) (holds (t.unmapped + d.unmapped)) (holds (t.mapped + d.mapped))
  where
    go : (a b u m : Bool) → ((((a && b) && u) && m) && all holds (sums t.marks d.marks)) ≡ (a && (b && (u && (m && all holds (sums t.marks d.marks)))))
    go false b u m = refl
    go true false u m = refl
    go true true false m = refl
    go true true true m = refl

-- a part of a record's numbers
pub part-many : (words : List ℕ) (m n : ℕ) → length words ≡ 48 → m + n ≤ 48 → length (take n (drop m words)) ≡ n
part-many words m n e h = length-take-le n (drop m words) (omega (arith, length-drop m words))

-- what `within` shows of the parts
pub record Fit (t d : Totals) : Type 0 where
  pub answers : all holds (sums t.answers d.answers) ≡ true
  pub types : all holds (sums t.types d.types) ≡ true
  pub unmapped : t.unmapped + d.unmapped ≤ ceiling
  pub mapped : t.mapped + d.mapped ≤ ceiling
  pub marks : all holds (sums t.marks d.marks) ≡ true

pub fit_parts : (t d : Totals) → within (sum t d) ≡ true → Fit t d
unfolding within sum
fit_parts t d e =
    let e₁ : _ ≡ true = and_r (all holds (sums t.answers d.answers)) _ e in
    let e₂ : _ ≡ true = and_r (all holds (sums t.types d.types)) _ e₁ in
    let e₃ : _ ≡ true = and_r (holds (t.unmapped + d.unmapped)) _ e₂ in
    record {
      answers = and_l (all holds (sums t.answers d.answers)) _ e;
      types = and_l (all holds (sums t.types d.types)) _ e₁;
      unmapped = leb-true (t.unmapped + d.unmapped) ceiling (and_l (holds (t.unmapped + d.unmapped)) _ e₂);
      mapped = leb-true (t.mapped + d.mapped) ceiling (and_l (holds (t.mapped + d.mapped)) _ e₃);
      marks = and_r (holds (t.mapped + d.mapped)) _ e₃;
    }

pub sum_is : (t d s : Totals) → s.answers ≡ sums t.answers d.answers → s.types ≡ sums t.types d.types → s.marks ≡ sums t.marks d.marks
    → s.unmapped ≡ t.unmapped + d.unmapped → s.mapped ≡ t.mapped + d.mapped → s ≡ sum t d
unfolding sum
sum_is t d s a b m u v = λ i. record { answers = a i; types = b i; unmapped = u i; mapped = v i; marks = m i }

-- ---- what a Blob comes to, by the first of its refusals or by its layout
module _ (t s : List ℕ) (c p : ℕ) (words : List ℕ) (a : Answer) where
  abbrev Told : List ℕ → Type 0
  Told words' = Tallied (is2000 t s) (outcome t s c p) words a words'

  pub five : longest < length s → a ≡ refusal too_long_lem → Told words
  unfolding outcome bumps
  five h e = rw (lt-ltb longest (length s) h) (record { answer-is = e; words_are = refl; few = tt })

  module _ (h : length s ≤ longest) where
    pub eight : well_formed_lem t ≡ false → a ≡ refusal bad_table → Told words
    unfolding outcome bumps
    eight w e = rw (le-ltb longest (length s) h, w) (record { answer-is = e; words_are = refl; few = tt })

    module _ (w : well_formed_lem t ≡ true) {words' : List ℕ} where
      pub by_2000 : is2000 t s ≡ true → old.Counted t s c p words a words' → Told words'
      unfolding outcome reading_of
      by_2000 b d = rw (le-ltb longest (length s) h, w, b) d

      pub by-later : is2000 t s ≡ false → new.Counted s c p words a words' → Told words'
      unfolding outcome reading_of
      by-later b d = rw (le-ltb longest (length s) h, w, b) d
