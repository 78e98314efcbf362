-- The entries of a list one by one, whatever the layout; and how much is counted of what was read.
use Prim.Native.Nat.{ℕ, zero, suc, ◌+◌, ◌-◌, ◌≤◌, ◌<◌}
use native.Mathlib.Omega.{arith}
use native.Mathlib.Numerals.{sub-one}
use mathlib.Core.Path.{◌≡◌, refl}
use mathlib.Core.Bool.{Bool, true, false, cond}
use mathlib.Core.Option.{Option, none, some}
use Rattle.rules.specs.Lists.{◌>>=◌}
use Rattle.rules.specs.Tree.{Entry, Entries, end, more, many_at, levels_at, is_reported, reported}
use Rattle.rules.proofs.ListLaws.{Every, every_then, every_when}
use Rattle.rows.specs.Counting.{size1, size, props1, props}

-- what follows the entry x
abbrev pub after : {P : Type 0} → (ℕ → Option (Entries P × ℕ)) → Entry P × ℕ → Option (Entries P × ℕ)
after rest x = rest x.1 >>= λ y. some (more x.0 y.0, y.1)

abbrev pub is_more : {P : Type 0} → Entries P → Type 0
is_more end = ⊥
is_more (more e es) = Unit

module _ {P : Type 0} (one : (ℕ → ℕ → Option (Entries P × ℕ)) → ℕ → Option (Entry P × ℕ)) where
  pub levels-none : (d p : ℕ) → levels_at one d 0 p ≡ some (end, p)
  unfolding levels_at many_at
  levels-none zero p = refl
  levels-none (suc d) p = refl

  pub levels_deep : (k p : ℕ) → 0 < k → levels_at one 0 k p ≡ none
  unfolding levels_at
  levels_deep zero p h = absurd (omega arith)
  levels_deep (suc k) p h = refl

  pub levels-next : (d k p : ℕ) → (d ≡ 0 → ⊥) → 0 < k → levels_at one d k p ≡ (one (levels_at one (d - 1)) p >>= after (levels_at one d (k - 1)))
  unfolding levels_at many_at
  levels-next zero k p f h = absurd (f refl)
  levels-next (suc d) zero p f h = absurd (omega arith)
  levels-next (suc d) (suc k) p f h = rw (sub-one (suc d), sub-one (suc k))

  -- a list of one or more has an entry
  pub levels-more : (d k p : ℕ) → 0 < k → Every (λ x. is_more x.0) (levels_at one d k p)
  unfolding levels_at many_at
  levels-more d zero p h = absurd (omega arith)
  levels-more zero (suc k) p h = tt
  levels-more (suc d) (suc k) p h =
      every_when (λ x. is_more x.0) (one (levels_at one d) p) _ λ x _.
      every_when (λ x. is_more x.0) (many_at (one (levels_at one d)) k x.1) _ λ y _. tt

-- ---- what is read takes a byte for each entry and each property, or more
abbrev pub EntryGrows : {P : Type 0} → ℕ → Entry P × ℕ → Type 0
EntryGrows p x = p + size1 x.0 + props1 x.0 ≤ x.1

abbrev pub EntriesGrow : {P : Type 0} → ℕ → Entries P × ℕ → Type 0
EntriesGrow p x = p + size x.0 + props x.0 ≤ x.1

abbrev pub Below : {P : Type 0} → (ℕ → ℕ → Option (Entries P × ℕ)) → Type 0
Below below = (n q : ℕ) → Every (EntriesGrow q) (below n q)

many_grow : {P : Type 0} (one : ℕ → Option (Entry P × ℕ)) → ((p : ℕ) → Every (EntryGrows p) (one p)) → (n p : ℕ) → Every (EntriesGrow p) (many_at one n p)
unfolding many_at
many_grow one grows zero p = omega arith
many_grow one grows (suc n) p =
    every_then (EntryGrows p) (EntriesGrow p) (one p) _ (grows p) λ x g.
    every_then (EntriesGrow x.1) (EntriesGrow p) (many_at one n x.1) _ (many_grow one grows n x.1) λ y h. omega arith

module _ {P : Type 0} (one : (ℕ → ℕ → Option (Entries P × ℕ)) → ℕ → Option (Entry P × ℕ))
    (grows : (below : ℕ → ℕ → Option (Entries P × ℕ)) → Below below → (p : ℕ) → Every (EntryGrows p) (one below p)) where
  pub levels_grow : (d : ℕ) → Below (levels_at one d)
  unfolding levels_at
  levels_grow zero zero p = omega arith
  levels_grow zero (suc n) p = tt
  levels_grow (suc d) n p = many_grow (one (levels_at one d)) (grows (levels_at one d) (levels_grow d)) n p

-- ---- what is reported is no more than there is
fewer-by : {P : Type 0} (b : Bool) (x : Entry P) (es : Entries P) → size (reported es) + props (reported es) ≤ size es + props es
    → size (cond b (more x (reported es)) (reported es)) + props (cond b (more x (reported es)) (reported es)) ≤ size1 x + size es + (props1 x + props es)
fewer-by true x es h = omega arith
fewer-by false x es h = omega arith

pub fewer : {P : Type 0} (es : Entries P) → size (reported es) + props (reported es) ≤ size es + props es
unfolding reported
fewer end = omega arith
fewer (more x es) = fewer-by (is_reported x) x es (fewer es)
