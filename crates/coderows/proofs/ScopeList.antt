-- What the contents say of the scopes, as it is written down one scope after the other.
use Prim.Native.Nat.{ℕ, ◌+◌, ◌*◌, ◌≤◌, ◌<◌, min}
use mathlib.Core.Path.{◌≡◌, refl, ◌∙◌}
use mathlib.Core.Logic.{◌⊎◌, inl, inr}
use mathlib.Core.List.{List}
use mathlib.Core.Bool.{Bool, true, false}
use native.Mathlib.Nat.{not-suc-le-zero}
use native.Mathlib.Numerals.{add-one}
use native.Mathlib.Omega.{arith}
use lib.Dec.{ltb}
use borrow.Author.Tests.{ltb-true, ltb-false}
use lib.ListN.{length, set, get_or, length-set}
use lib.Seq.{get_or-set_same, get_or-set_other}
use Rattle.rules.specs.CodeTable.{scope_count, contents_at}
use Rattle.coderows.specs.Look.{key_at, count_at, counts_to, Words, Listed}
use Rattle.codetable.proofs.Steps.{Counts}

-- three words written from k on
abbrev pub three_at : List ℕ → ℕ → ℕ → ℕ → ℕ → List ℕ
three_at xs k a b c = set (set (set xs k a) (k + 1) b) (k + 2) c

module _ (xs : List ℕ) (k a b c : ℕ) where
  before-three : (j : ℕ) → j < k → get_or (three_at xs k a b c) j 0 ≡ get_or xs j 0
  before-three j h =
      get_or-set_other (set (set xs k a) (k + 1) b) (k + 2) j c 0 (λ q. omega arith)
      ∙ get_or-set_other (set xs k a) (k + 1) j b 0 (λ q. omega arith)
      ∙ get_or-set_other xs k j a 0 (λ q. omega arith)

  module _ (room : k + 2 < length xs) where
    long-one : length (set xs k a) ≡ length xs
    long-one = length-set xs k a

    long-two : length (set (set xs k a) (k + 1) b) ≡ length xs
    long-two = length-set (set xs k a) (k + 1) b ∙ long-one

    three-first : get_or (three_at xs k a b c) k 0 ≡ a
    three-first =
        get_or-set_other (set (set xs k a) (k + 1) b) (k + 2) k c 0 (λ q. omega arith)
        ∙ get_or-set_other (set xs k a) (k + 1) k b 0 (λ q. omega arith)
        ∙ get_or-set_same xs k a 0 (omega arith)

    three-second : get_or (three_at xs k a b c) (k + 1) 0 ≡ b
    three-second =
        get_or-set_other (set (set xs k a) (k + 1) b) (k + 2) (k + 1) c 0 (λ q. omega arith)
        ∙ get_or-set_same (set xs k a) (k + 1) b 0 (omega (arith, long-one))

    three_third : get_or (three_at xs k a b c) (k + 2) 0 ≡ c
    three_third = get_or-set_same (set (set xs k a) (k + 1) b) (k + 2) c 0 (omega (arith, long-two))

-- the first i scopes are written down
pub record Filled (t xs : List ℕ) (contents bodies body i : ℕ) : Type 0 where
  pub body_is : body ≡ bodies + 4 * counts_to t contents i
  pub long : length xs ≡ 192
  pub few : counts_to t contents i ≤ 65535 * i
  pub done : (j : ℕ) → j < i → Words t xs contents bodies j

pub filled_none : (t xs : List ℕ) (contents bodies : ℕ) → length xs ≡ 192 → Filled t xs contents bodies bodies 0
unfolding counts_to
filled_none t xs contents bodies e =
    record { body_is = omega arith; long = e; few = omega arith; done = λ j h. absurd (not-suc-le-zero h) }

module _ {t xs : List ℕ} {contents bodies body i : ℕ} (F : Filled t xs contents bodies body i) (key count : ℕ)
    (key-is : key ≡ key_at t contents i) (count-is : count ≡ count_at t contents i) where
  abbrev filled : List ℕ
  filled = three_at xs (3 * i) key body count

  written : i < 64 → (j : ℕ) → (j < i) ⊎ (j ≡ i) → Words t filled contents bodies j
  written h j (inl p) =
      let w = F.done j p in
      record {
        key = before-three xs (3 * i) key body count (3 * j) (omega arith) ∙ w.key;
        start = before-three xs (3 * i) key body count (3 * j + 1) (omega arith) ∙ w.start;
        count = before-three xs (3 * i) key body count (3 * j + 2) (omega arith) ∙ w.count;
      }
  written h j (inr q) =
      let room : 3 * i + 2 < length xs = omega (arith, F.long) in
      rw q
      (record {
        key = three-first xs (3 * i) key body count room ∙ key-is;
        start = three-second xs (3 * i) key body count room ∙ F.body_is;
        count = three_third xs (3 * i) key body count room ∙ count-is;
      })

  at_most : (j : ℕ) → j < i + 1 → (j < i) ⊎ (j ≡ i)
  at_most j h = go (ltb j i) refl
    where
      go : (b : Bool) → ltb j i ≡ b → (j < i) ⊎ (j ≡ i)
      go true e = inl (ltb-true j i e)
      go false e = inr (omega (arith, ltb-false j i e))

  pub filled_next : i < 64 → count < 65536 → Filled t filled contents bodies (body + 4 * count) (i + 1)
  unfolding counts_to
  filled_next h small =
      record {
        body_is = rw (add-one i) (omega (arith, F.body_is, count-is));
        long = length-set (set (set xs (3 * i) key) (3 * i + 1) body) (3 * i + 2) count ∙ long-two xs (3 * i) key body count (omega (arith, F.long)) ∙ F.long;
        few = rw (add-one i) (omega (arith, F.few, count-is));
        done = λ j p. written h j (at_most j p);
      }

-- all are written down, or 64
pub all_listed : {t xs : List ℕ} {h n body i : ℕ} → Counts t h n → Filled t xs (4 + 2 * h) (4 + 2 * h + 5 * n) body i → min n 64 ≤ i → Listed t xs
all_listed C F e j p q = rw (← C.headers-is, ← C.scopes-is) (F.done j (omega (arith, C.scopes-is)))

-- the words of a listed scope, by the number of scopes that was read
pub listed-words : {t xs : List ℕ} {n : ℕ} → Listed t xs → n ≡ scope_count t → (i : ℕ) → i < n → n ≤ 64 → Words t xs (contents_at t) (contents_at t + 5 * n) i
listed-words L e i p q = rw e (L i (omega (arith, e)) (omega arith))
