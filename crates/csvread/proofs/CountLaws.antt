-- The counting walk: the counts of the whole text are those so far and those of what is left.
use Prim.Native.Nat.{ℕ, suc, ◌+◌, ◌≤◌, ◌<◌}
use native.Mathlib.Omega.{arith}
use native.Mathlib.Nat.{zero-add, add-zero}
use native.Mathlib.Numerals.{add-one}
use mathlib.Core.Path.{◌≡◌, refl, ap, ◌∙◌}
use mathlib.Core.List.{List}
use mathlib.Core.Option.{none, some}
use lib.ListN.{length, drop}
use lib.Seq.{drop-cons}
use borrow.Author.Tests.{ne_eqb}
use Rattle.rules.specs.Lists.{concat}
use Rattle.rules.specs.Bytes.{byte}
use Rattle.rules.specs.Csv.{step, read_from, at_end}
use Rattle.rules.specs.declared.Mode.{Mode}
use Rattle.rules.specs.declared.Mode.TheVariants.{Start}
use Rattle.rules.specs.declared.Step.{Step}
use Rattle.rules.specs.declared.Step.TheVariants.{Pass, Put, Close, Refuse}
use Rattle.csvlaws.proofs.CsvLaws.{read-end}
use Rattle.csvlaws.proofs.CsvReaderLaws.{Counts, counted, more, more-more, tally, count-step}
use Rattle.csvread.specs.declared.Place.{Place}
use Rattle.std.specs.Prelude as rust
use Rattle.std.specs.Prelude.{Some, None}
use Rattle.csvread.specs.Places.{begin, place_after, end_of, last_of}

-- the two counts
abbrev pub both : Counts → ℕ × ℕ
both none = (0, 0)
both (some c) = c

pub bytes-are : {o : Counts} {b n : ℕ} → o ≡ some (b, n) → (both o).0 ≡ b
bytes-are e = ap (λ o. (both o).0) e

pub fields-are : {o : Counts} {b n : ℕ} → o ≡ some (b, n) → (both o).1 ≡ n
fields-are e = ap (λ o. (both o).1) e

-- ---- a step
-- all counts, where what is left after a place counts `rest`
abbrev left : rust.Option Place → (Mode → ℕ → Counts) → Counts
left None rest = none
left (Some p) rest = more p.bytes p.fields (rest p.mode p.field)

step_left : (p : Place) (t : Step) (rest : Mode → ℕ → Counts) → more p.bytes p.fields (tally t rest) ≡ left (place_after p t) rest
step_left p (Pass m k) rest = refl
step_left p (Put m k) rest = more-more p.bytes p.fields 1 0 (rest m k) ∙ rw (add-zero p.fields)
step_left p (Close m k) rest = more-more p.bytes p.fields 0 1 (rest m k) ∙ rw (add-zero p.bytes)
step_left p Refuse rest = refl

by_byte : (m : Mode) (k : ℕ) (s : List ℕ) (i : ℕ) → i < length s
    → counted (read_from m k (drop i s)) ≡ tally (step m k (byte s i)) (λ q j. counted (read_from q j (drop (i + 1) s)))
by_byte m k s i h = rw (drop-cons s i 0 h, add-one i) (count-step m k (byte s i) (drop (suc i) s))

none_more : (c : Counts) → c ≡ more 0 0 c
none_more none = refl
none_more (some c) = rw (zero-add c.0, zero-add c.1)

-- ---- the walk
pub record Counting (s : List ℕ) (i : ℕ) (p : Place) : Type 0 where
  pub inside : i ≤ length s
  pub few_bytes : p.bytes ≤ i
  pub few-fields : p.fields ≤ i
  pub so_far : counted (read_from Start 0 s) ≡ more p.bytes p.fields (counted (read_from p.mode p.field (drop i s)))

pub count-begin : (s : List ℕ) → Counting s 0 begin
count-begin s = record {
  inside = omega arith;
  few_bytes = omega arith;
  few-fields = omega arith;
  so_far = none_more (counted (read_from Start 0 s));
}

-- the step that is taken at a place
abbrev pub step_at : List ℕ → ℕ → Place → Step
step_at s i p = step p.mode p.field (byte s i)

record Few (i : ℕ) (p : Place) : Type 0 where
  bytes : p.bytes ≤ i
  fields : p.fields ≤ i

few_on : (p : Place) (t : Step) (i : ℕ) (q : Place) → p.bytes ≤ i → p.fields ≤ i → place_after p t ≡ Some q → Few (i + 1) q
few_on p (Pass m k) i q h l e =
    let x : p.bytes ≡ q.bytes = cc in
    let y : p.fields ≡ q.fields = cc in
    record { bytes = omega arith; fields = omega arith }
few_on p (Put m k) i q h l e =
    let x : p.bytes + 1 ≡ q.bytes = cc in
    let y : p.fields ≡ q.fields = cc in
    record { bytes = omega arith; fields = omega arith }
few_on p (Close m k) i q h l e =
    let x : p.bytes ≡ q.bytes = cc in
    let y : p.fields + 1 ≡ q.fields = cc in
    record { bytes = omega arith; fields = omega arith }
few_on p Refuse i q h l e = absurd (let z : ◌≡◌ {A = ℕ} 0 1 = cc in omega arith)

module _ {s : List ℕ} {i : ℕ} {p : Place} (w : Counting s i p) where
  all_left : i < length s → counted (read_from Start 0 s) ≡ left (place_after p (step_at s i p)) (λ q j. counted (read_from q j (drop (i + 1) s)))
  all_left h =
      w.so_far ∙ ap (more p.bytes p.fields) (by_byte p.mode p.field s i h)
      ∙ step_left p (step_at s i p) (λ q j. counted (read_from q j (drop (i + 1) s)))

  pub count-on : (q : Place) → i < length s → place_after p (step_at s i p) ≡ Some q → Counting s (i + 1) q
  count-on q h e =
      let few = few_on p (step_at s i p) i q w.few_bytes w.few-fields e in
      record {
        inside = omega arith;
        few_bytes = few.bytes;
        few-fields = few.fields;
        so_far = all_left h ∙ ap (λ n. left n (λ q j. counted (read_from q j (drop (i + 1) s)))) e;
      }

  pub count-refused : i < length s → place_after p (step_at s i p) ≡ None → counted (read_from Start 0 s) ≡ none
  count-refused h e = all_left h ∙ ap (λ n. left n (λ q j. counted (read_from q j (drop (i + 1) s)))) e

  pub count-end : length s ≤ i → counted (read_from Start 0 s) ≡ end_of p
  unfolding end_of
  count-end h = w.so_far ∙ ap (λ o. more p.bytes p.fields (counted o)) (read-end p.mode p.field s i h)

-- ---- the text's end
pub end-after-line : (p : Place) → p.mode ≡ Start → p.field ≡ 0 → end_of p ≡ some (p.bytes, p.fields)
unfolding end_of at_end concat
end-after-line p e f = rw (e, f, add-zero p.bytes, add-zero p.fields)

pub end_in_field : (p : Place) → p.mode ≡ Start → (p.field ≡ 0 → ⊥) → end_of p ≡ last_of p
unfolding end_of last_of at_end
end_in_field p e n = rw (e, ne_eqb p.field 0 n)
