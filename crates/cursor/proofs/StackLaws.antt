-- The open lists on the lent stack, and that closing those that have no entry left changes nothing of what is left to visit.
use Prim.Native.Nat.{ℕ, zero, suc, ◌+◌, ◌*◌, ◌-◌, ◌≤◌, ◌<◌}
use native.Mathlib.Omega.{arith}
use mathlib.Core.Path.{◌≡◌, refl, sym, ap, subst, ◌∙◌}
use mathlib.Core.Bool.{Bool}
use mathlib.Core.List.{List, [], ◌∷◌}
use mathlib.Core.Option.{Option, none, some}
use lib.ListN.{length, get_or, set, length-set}
use lib.Seq.{get_or-set_same, get_or-set_other}
use native.Mathlib.Numerals.{sub-one, add-one}
use Rattle.rules.specs.Tree.{Entry, levels}
use Rattle.cursor.specs.Walk.{Steps, Frame, frame, rest_at, behind}
use Rattle.cursor.specs.Stack.{outer, Open, unwind, moved, count_of, Unwound, Moved, stack_words}
use Rattle.cursor.specs.declared.Cursor.{Cursor}
use Rattle.cursor.proofs.WalkLaws.{is_empty, rest_pop}

pub outer-length : (a : List ℕ) (l : ℕ) → length (outer a l) ≡ l
unfolding outer
outer-length a zero = refl
outer-length a (suc l) = ap suc (outer-length a l)

-- a word of a higher level
pub outer-set : (a : List ℕ) (l i v : ℕ) → l * 2 ≤ i → outer (set a i v) l ≡ outer a l
unfolding outer
outer-set a zero i v h = refl
outer-set a (suc l) i v h =
    let w = get_or-set_other a i (l * 2) v 0 (λ e. omega arith) in
    let z = get_or-set_other a i (l * 2 + 1) v 0 (λ e. omega arith) in
    let r = outer-set a l i v (omega arith) in
    rw (w, z, r)

pub outer-push : (a : List ℕ) (l left up : ℕ) → l * 2 + 1 < length a → outer (set (set a (l * 2) left) (l * 2 + 1) up) (suc l) ≡ frame left up ∷ outer a l
unfolding outer
outer-push a l left up h =
    let b = set a (l * 2) left in
    let m : length b ≡ length a = simp length-set in
    let x : get_or (set b (l * 2 + 1) up) (l * 2) 0 ≡ left = get_or-set_other b (l * 2 + 1) (l * 2) up 0 (λ e. omega arith) ∙ get_or-set_same a (l * 2) left 0 (omega arith) in
    let y : get_or (set b (l * 2 + 1) up) (l * 2 + 1) 0 ≡ up = get_or-set_same b (l * 2 + 1) up 0 (omega arith) in
    let r : outer (set b (l * 2 + 1) up) l ≡ outer a l = outer-set b l (l * 2 + 1) up (omega arith) ∙ outer-set a l (l * 2) left (omega arith) in
    λ i. frame (x i) (y i) ∷ r i

-- ---- closing
-- what closing keeps, come from c to r with `level` lists around it: the lists that stay open are those of the start
pub record Closing (a : List ℕ) (c r : Cursor) (level : ℕ) : Type 0 where
  pub at-is : r.at ≡ c.at
  pub level-is : r.level ≡ level
  pub lower : level ≤ c.level
  pub same : unwind (frame r.left r.parent) (outer a level) ≡ unwind (frame c.left c.parent) (outer a c.level)

module _ (a : List ℕ) (level left up : ℕ) where
  unwind-end : level ≡ 0 → unwind (frame left up) (outer a level) ≡ (frame left up, outer a level)
  unfolding unwind outer
  unwind-end e = rw e

  unwind_some : 0 < left → unwind (frame left up) (outer a level) ≡ (frame left up, outer a level)
  unfolding unwind
  unwind_some h = go left (outer a level) h
    where
      go : (k : ℕ) (fs : List Frame) → 0 < k → unwind (frame k up) fs ≡ (frame k up, fs)
      go k [] h = refl
      go zero (g ∷ fs) h = absurd (omega arith)
      go (suc k) (g ∷ fs) h = refl

  unwind-up : left ≡ 0 → 0 < level
      → unwind (frame left up) (outer a level) ≡ unwind (frame (get_or a ((level - 1) * 2) 0) (get_or a ((level - 1) * 2 + 1) 0)) (outer a (level - 1))
  unfolding unwind outer
  unwind-up e h = rw e (go level h)
    where
      go : (l : ℕ) → 0 < l → unwind (frame 0 up) (outer a l) ≡ unwind (frame (get_or a ((l - 1) * 2) 0) (get_or a ((l - 1) * 2 + 1) 0)) (outer a (l - 1))
      go zero h = absurd (omega arith)
      go (suc l) h = rw (sub-one (suc l))

module _ {a : List ℕ} {c r : Cursor} {level : ℕ} (h : Closing a c r level) where
  closed : unwind (frame r.left r.parent) (outer a level) ≡ (frame r.left r.parent, outer a level) → Unwound a c r
  closed e = record { at-is = h.at-is; low = omega (arith, h.lower, h.level-is); is = ap (λ l. (frame r.left r.parent, outer a l)) h.level-is ∙ sym e ∙ h.same }

  pub closed_last : level ≤ 0 → Unwound a c r
  closed_last e = closed (unwind-end a level r.left r.parent (omega arith))

  pub closed_some : 0 < r.left → Unwound a c r
  closed_some e = closed (unwind_some a level r.left r.parent e)

  pub closing_more : r.left ≡ 0 → 0 < level
      → Closing a c (record { at = c.at; level = level - 1; left = get_or a ((level - 1) * 2) 0; parent = get_or a ((level - 1) * 2 + 1) 0 }) (level - 1)
  closing_more e l = record { at-is = refl; level-is = refl; lower = omega (arith, h.lower); same = sym (unwind-up a level r.left r.parent e l) ∙ h.same }

-- only the outermost list is left without entries
unwind-done : (left up : ℕ) (fs : List Frame) → (unwind (frame left up) fs).0.left ≡ 0 → is_empty (unwind (frame left up) fs).1
unfolding unwind
unwind-done left up [] e = tt
unwind-done zero up (g ∷ fs) e = unwind-done g.left g.parent fs e
unwind-done (suc k) up (g ∷ fs) e = absurd (omega arith)

moved-done : (f : Frame) (fs : List Frame) (n m : ℕ) → (moved f fs n m).0.left ≡ 0 → is_empty (moved f fs n m).1
unfolding moved
moved-done f fs n zero e = unwind-done f.left f.parent fs e
moved-done f fs n (suc m) e = absurd (omega arith)

pub outer-empty : (a : List ℕ) (l : ℕ) → is_empty (outer a l) → l ≡ 0
unfolding outer
outer-empty a zero e = refl
outer-empty a (suc l) e = absurd e

pub done : (a : List ℕ) (c : Cursor) (row count next : ℕ) (a' : List ℕ) (r : Cursor) → Moved a c row count next a' r → r.left ≡ 0 → r.level ≡ 0
done a c row count next a' r m e =
    outer-empty a' r.level
    (subst (λ (o : Open). is_empty o.1) (sym m.is) (moved-done (frame (c.left - 1) c.parent) (outer a c.level) row count (sym (ap (λ o. o.0.left) m.is) ∙ e)))

-- ---- a cursor after an entry
module _ {a : List ℕ} {c : Cursor} {row next : ℕ} where
  pub moved_out : (count : ℕ) {r : Cursor} → count ≡ 0 → c.level < levels → Unwound a (record { at = next; level = c.level; left = c.left - 1; parent = c.parent }) r → Moved a c row count next a r
  unfolding moved
  moved_out count e h u = rw e (record { long = refl; at-is = u.at-is; low = omega (arith, u.low); is = u.is })

  pub moved_in : (count : ℕ) → (count ≡ 0 → ⊥) → c.level < levels → length a ≡ stack_words
      → Moved a c row count next (set (set a (c.level * 2) (c.left - 1)) (c.level * 2 + 1) c.parent) (record { at = next; level = c.level + 1; left = count; parent = row })
  unfolding moved
  moved_in count f h l = record { long = simp length-set; at-is = refl; low = omega arith; is = go count f }
    where
      go : (m : ℕ) → (m ≡ 0 → ⊥)
          → (frame m row, outer (set (set a (c.level * 2) (c.left - 1)) (c.level * 2 + 1) c.parent) (c.level + 1)) ≡ moved (frame (c.left - 1) c.parent) (outer a c.level) row m
      go zero f = absurd (f refl)
      go (suc m) f = rw (add-one c.level) (ap (λ fs. (frame (suc m) row, fs)) (outer-push a c.level (c.left - 1) c.parent (omega arith)))

-- ---- what is left to visit
module _ {P : Type 0} (step : Steps P) (pick : Entry P → Bool) where
  rest-levels : (d d' n : ℕ) (f : Frame) (fs : List Frame) (p : ℕ) → d + length fs ≡ d' + length fs → rest_at step pick d n f fs p ≡ rest_at step pick d' n f fs p
  rest-levels d d' n f fs p e =
      let z : d ≡ d' = omega arith in
      rw z

  pub rest-unwind : (d d' n left up : ℕ) (fs : List Frame) (p : ℕ) → d + length fs ≡ d' + length (unwind (frame left up) fs).1
      → rest_at step pick d n (frame left up) fs p ≡ rest_at step pick d' n (unwind (frame left up) fs).0 (unwind (frame left up) fs).1 p
  unfolding unwind
  rest-unwind d d' n left up [] p e = rest-levels d d' n (frame left up) [] p e
  rest-unwind d d' n zero up (g ∷ fs) p e = rest_pop step pick d n up g fs p ∙ rest-unwind (suc d) d' n g.left g.parent fs p (omega arith)
  rest-unwind d d' n (suc k) up (g ∷ fs) p e = rest-levels d d' n (frame (suc k) up) (g ∷ fs) p e

  pub rest-moved : (d d' n : ℕ) (f : Frame) (fs : List Frame) (c : Option ℕ) (p : ℕ) → suc d + length fs ≡ d' + length (moved f fs n (count_of c)).1
      → behind step pick d n f fs c p ≡ rest_at step pick d' (suc n) (moved f fs n (count_of c)).0 (moved f fs n (count_of c)).1 p
  unfolding moved behind
  rest-moved d d' n f fs none p e = rest-unwind (suc d) d' (suc n) f.left f.parent fs p e
  rest-moved d d' n f fs (some zero) p e = rest-unwind (suc d) d' (suc n) f.left f.parent fs p e
  rest-moved d d' n f fs (some (suc m)) p e = rest-levels d d' (suc n) (frame (suc m) n) (f ∷ fs) p (omega arith)
