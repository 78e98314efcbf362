-- A cursor before an entry, after it, and past an entry of the top list, whatever the layout.
use Prim.Native.Nat.{ℕ, zero, suc, ◌+◌, ◌-◌, ◌≤◌, ◌<◌}
use native.Mathlib.Omega.{arith}
use native.Mathlib.Numerals.{sub-one}
use mathlib.Core.Path.{◌≡◌, refl, sym, ap, ◌∙◌}
use mathlib.Core.Bool.{Bool, true, false}
use mathlib.Core.List.{List, [], ◌∷◌}
use mathlib.Core.Option.{Option, none, some}
use lib.ListN.{length}
use Rattle.rules.specs.Lists.{◌>>=◌}
use Rattle.rules.specs.Tree.{Entry, levels, levels_at}
use Rattle.rules.proofs.ListLaws.{Every}
use Rattle.rows.specs.Acts.{Nodes, Held}
use Rattle.rows.proofs.LevelLaws.{levels_deep}
use Rattle.cursor.specs.Walk.{Step, node_of, Steps, frame, entry_by, ◌before◌, rest_at, behind}
use Rattle.cursor.specs.Stack.{outer, moved, count_of, Moved}
use Rattle.cursor.specs.Cursors.{cursor, rest_by, top_at, Picked, Passed, below_top}
use Rattle.cursor.specs.declared.Cursor.{Cursor}
use Rattle.cursor.proofs.WalkLaws.{rest_end, rest-step, rest_over}
use Rattle.cursor.proofs.StackLaws.{outer-length, outer-empty, rest-moved}

module _ {P : Type 0} (step : Steps P) (pick : Entry P → Bool) where
  -- what is left after the entry x at c, of row n
  abbrev pub left_behind_lem : ℕ → List ℕ → Cursor → Step P → Nodes P
  left_behind_lem n a c x = behind step pick (below_top - c.level) n (frame (c.left - 1) c.parent) (outer a c.level) x.children x.next

  pub rest-behind : (n : ℕ) (a : List ℕ) (c : Cursor) (x : Step P) (a' : List ℕ) (r : Cursor) → c.level < levels → Moved a c n (count_of x.children) x.next a' r
      → rest_by step pick (suc n) a' r ≡ left_behind_lem n a c x
  unfolding rest_by
  rest-behind n a c x a' r low m =
      let z : suc (below_top - c.level) + length (outer a c.level) ≡ levels - r.level + length (moved (frame (c.left - 1) c.parent) (outer a c.level) n (count_of x.children)).1
      = omega (arith, outer-length a c.level, m.low, outer-length a' r.level, ap (λ o. length o.1) m.is) in
      (λ i. rest_at step pick (levels - r.level) (suc n) (m.is i).0 (m.is i).1 (m.at-is i))
      ∙ sym (rest-moved step pick (below_top - c.level) (levels - r.level) n (frame (c.left - 1) c.parent) (outer a c.level) x.children x.next z)

  -- a cursor before an entry
  pub record Stands (n : ℕ) (a : List ℕ) (c : Cursor) : Type 0 where
    pub entry : Step P
    pub read : step c.at ≡ some entry
    pub low : c.level < levels
    pub is : rest_by step pick n a c ≡ (node_of c.level c.parent entry ∷ [] before left_behind_lem n a c entry)

  module _ (n : ℕ) (a : List ℕ) (c : Cursor) (l : 0 < c.left) where
    rest-low : c.level ≤ levels → Held (λ _. Unit) (rest_by step pick n a c) → c.level < levels
    unfolding rest_by rest_at
    rest-low b h =
        let f : c.level ≡ levels → ⊥ = λ e.
        let z : levels - c.level ≡ 0 = omega arith in
        rw (ap (λ (d : ℕ). levels_at (entry_by step) d c.left c.at) z ∙ levels_deep (entry_by step) c.left c.at l) at h in
        omega arith

    abbrev enter : ℕ → Step P → Nodes P
    enter m x = node_of m c.parent x ∷ [] before left_behind_lem n a c x

    pub stands : c.level ≤ levels → Picked step pick c → Held (λ _. Unit) (rest_by step pick n a c) → Stands n a c
    unfolding rest_by
    stands b h there =
        let low = rest-low b there in
        let z : levels - c.level ≡ suc (below_top - c.level) = omega arith in
        let k : c.left ≡ suc (c.left - 1) = omega arith in
        let e = (λ i. rest_at step pick (z i) n (frame (k i) c.parent) (outer a c.level) c.at)
        ∙ rest-step step pick (below_top - c.level) n (c.left - 1) c.parent (outer a c.level) c.at (λ e. picks (outer-empty a c.level e) h)
        ∙ ap (λ (m : ℕ). step c.at >>= enter m) (outer-length a c.level) in
        go (step c.at) refl low e (rw e at there)
      where
        picks : c.level ≡ 0 → Picked step pick c → Every (λ e. pick e.0 ≡ true) (entry_by step (levels_at (entry_by step) (below_top - c.level)) c.at)
        picks z h =
            let k : below_top - c.level ≡ below_top = omega arith in
            rw k (h z l)

        go : (o : Option (Step P)) → step c.at ≡ o → c.level < levels → rest_by step pick n a c ≡ (o >>= enter c.level) → Held (λ _. Unit) (o >>= enter c.level) → Stands n a c
        go none r low e there = absurd there
        go (some x) r low e there = record { entry = x; read = r; low = low; is = e }

  pub rest-done : (n : ℕ) (a : List ℕ) (c : Cursor) → c.left ≡ 0 → c.level ≡ 0 → rest_by step pick n a c ≡ some ([], c.at)
  unfolding rest_by outer
  rest-done n a c e f = rw (e, f) (rest_end step pick levels n c.parent c.at)

-- ---- the top list
module _ {P : Type 0} (step : Steps P) (pick : Entry P → Bool) where
  -- in the top list, the cursor c came to `at` with `left` entries left, all of the others skipped
  pub record Passing (c : Cursor) (at left : ℕ) : Type 0 where
    pub top : c.level ≡ 0
    pub is : (n : ℕ) (a : List ℕ) → rest_by step pick n a (cursor at c.level left c.parent) ≡ rest_by step pick n a c

  pub passing_none : (c : Cursor) → c.level ≡ 0 → Passing c c.at c.left
  passing_none c top = record { top = top; is = λ n a. refl }

  pub passed_none : (c : Cursor) → 0 < c.level → Passed step pick c c
  passed_none c l = record { level-is = refl; picked = λ e _. absurd (omega arith); done = λ d. d; is = λ n a. refl }

module _ {P : Type 0} {step : Steps P} {pick : Entry P → Bool} where
  module _ {c : Cursor} {at left : ℕ} (h : Passing step pick c at left) where
    pub passed_all : left ≤ 0 → Passed step pick c (cursor at c.level left c.parent)
    passed_all e = record { level-is = refl; picked = λ _ l. absurd (omega arith); done = λ _ _. h.top; is = h.is }

    pub passed_some : Every (λ e. pick e.0 ≡ true) (top_at step at) → Passed step pick c (cursor at c.level left c.parent)
    passed_some e = record { level-is = refl; picked = λ _ _. e; done = λ _ _. h.top; is = h.is }

    pub passing_next : 0 < left → (e : Entry P) (next : ℕ) → top_at step at ≡ some (e, next) → pick e ≡ false → Passing step pick c next (left - 1)
    unfolding rest_by outer
    passing_next l e next r k = record { top = h.top; is = λ n a. rw h.top (go n left l) ∙ h.is n a }
      where
        go : (n m : ℕ) → 0 < m → rest_at step pick levels n (frame (m - 1) c.parent) [] next ≡ rest_at step pick levels n (frame m c.parent) [] at
        go n zero l = absurd (omega arith)
        go n (suc m) l = rw (sub-one (suc m)) (sym (rest_over step pick below_top n m c.parent at e next r k))

-- the same of a cursor `here` in the top list, as a loop over `left` keeps it
pub record Skipping {P : Type 0} (step : Steps P) (pick : Entry P → Bool) (c here : Cursor) (left : ℕ) : Type 0 where
  pub passing : Passing step pick c here.at left
  pub stands : here ≡ cursor here.at c.level left c.parent

module _ {P : Type 0} {step : Steps P} {pick : Entry P → Bool} {c here : Cursor} {left : ℕ} (h : Skipping step pick c here left) where
  pub skipping_next : 0 < left → (e : Entry P) (next : ℕ) → top_at step here.at ≡ some (e, next) → pick e ≡ false → Skipping step pick c (cursor next c.level (left - 1) c.parent) (left - 1)
  skipping_next l e next r k = record { passing = passing_next h.passing l e next r k; stands = refl }
