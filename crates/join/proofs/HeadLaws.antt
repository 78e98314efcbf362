-- Header codes, compared and written one by one, and what the loop keeps that compares them.
use Prim.Native.Nat.{ℕ, ◌+◌, ◌*◌, ◌-◌, ◌<◌, ◌≤◌}
use native.Mathlib.Omega.{arith}
use mathlib.Core.Path.{◌≡◌, refl, sym, ap, ◌∙◌}
use mathlib.Core.Bool.{Bool, true, false}
use mathlib.Core.List.{List, [], ◌∷◌, ◌++◌}
use lib.ListN.{length}
use borrow.Author.Tests.{eq-eqb, ne_eqb}
use Rattle.rules.specs.Lists.{concat, same}
use Rattle.rules.specs.Bytes.{u16, two_bytes_lem}
use Rattle.rules.specs.CodeTable.{codes_at, layout, header_count, header}
use Rattle.rules.specs.Join.{same_head_lem}
use Rattle.joinlaws.proofs.TableBytesLaws.{codes_bytes, length-codes_at, no_codes}
use Rattle.joinlaws.proofs.JoinedLaws.{same_true}
use Rattle.codetable.proofs.Steps.{codes_next}
use Rattle.join.specs.Walk.{head_bytes}

-- ---- compared
-- of n codes so many are left from `at` on, and those in front of them are the same
pub record ComparedTo (one other : List ℕ) (n at left : ℕ) : Type 0 where
  pub ends : at + 2 * left ≤ 516
  pub rest : same (codes_at one 4 n) (codes_at other 4 n) ≡ same (codes_at one at left) (codes_at other at left)

module _ {one other : List ℕ} {n at left : ℕ} (C : ComparedTo one other n at left) where
  module _ {x y : ℕ} (more : 0 < left) (X : x ≡ u16 one at) (Y : y ≡ u16 other at) where
    pub code-differs : (x ≡ y → ⊥) → same (codes_at one 4 n) (codes_at other 4 n) ≡ false
    unfolding same
    code-differs h = C.rest ∙ rw (codes_next one at left more, codes_next other at left more, ← X, ← Y, ne_eqb x y h)

    pub code_same : x ≡ y → ComparedTo one other n (at + 2) (left - 1)
    unfolding same
    code_same h =
        let p = C.ends in
        record { ends = omega arith; rest = C.rest ∙ rw (codes_next one at left more, codes_next other at left more, ← X, ← Y, eq-eqb x y h) }

  pub all_compared : left ≤ 0 → same (codes_at one 4 n) (codes_at other 4 n) ≡ true
  unfolding same
  all_compared h = C.rest ∙ rw (no_codes one at left h, no_codes other at left h)

module _ (a b : List ℕ) where
  pub other-count : layout a ≡ layout b → (header_count a ≡ header_count b → ⊥) → same_head_lem a b ≡ false
  unfolding same_head_lem
  other-count e h = rw (eq-eqb (layout a) (layout b) e) (go (same (header a) (header b)) refl)
    where
      go : (s : Bool) → same (header a) (header b) ≡ s → s ≡ false
      go false q = refl
      go true q =
          let l : length (header a) ≡ length (header b) = ap length (same_true (header a) (header b) q) in
          let m = length-codes_at a 4 (header_count a) in
          let n = length-codes_at b 4 (header_count b) in
          absurd (h (sym m ∙ l ∙ n))

-- ---- written
pub bytes_next : (t : List ℕ) (from left : ℕ) {x : ℕ} → 0 < left → x ≡ u16 t from → codes_bytes (codes_at t from left) ≡ two_bytes_lem x ++ codes_bytes (codes_at t (from + 2) (left - 1))
unfolding concat
bytes_next t from left more e = rw (codes_next t from left more, e)

pub bytes-done : (t : List ℕ) (from left : ℕ) → left ≤ 0 → codes_bytes (codes_at t from left) ≡ []
unfolding concat
bytes-done t from left h = rw (no_codes t from left h)

pub head-is : (t : List ℕ) (n first codes : ℕ) → first ≡ layout t → codes ≡ header_count t → (first ∷ codes ∷ two_bytes_lem n ++ codes_bytes (header t)) ≡ head_bytes t n
head-is t n first codes e h =
    let c : codes ≡ length (header t) = h ∙ sym (length-codes_at t 4 (header_count t)) in
    λ i. e i ∷ c i ∷ two_bytes_lem n ++ codes_bytes (header t)
