-- Names that a NUL or the end of the stream ends: where they end, and which of the two it was. The entries that are reported: how many, and how wide.
use Prim.Native.Nat.{ℕ, zero, suc, ◌+◌, ◌≤◌, ◌<◌}
use native.Mathlib.Omega.{arith}
use native.Mathlib.Numerals.{add-one}
use mathlib.Core.Path.{◌≡◌, refl, sym, ◌∙◌}
use mathlib.Core.Bool.{Bool, true, false, cond}
use mathlib.Core.List.{List, [], ◌∷◌, map}
use borrow.Author.Tests.{eqb-true, eqb-false, lt-ltb, le-ltb}
use lib.Dec.{leb, eqb}
use lib.ListN.{length, get_or, drop, length-drop}
use lib.Seq.{get_or-drop}
use Rattle.rules.specs.Lists.{keep}
use Rattle.rules.specs.Bytes.{byte}
use Rattle.rules.specs.Rows.{type_info_width}
use Rattle.rules.specs.TypeInfo.{Info, before_nul, nul_terminated, info_at, next_info, infos_at, is_reported_info, type_info_row}
use Rattle.rules.proofs.RowsLaws.{Wide}

-- ---- the bytes before a NUL
within_by : (n m : ℕ) (b : Bool) → n ≤ m → cond b 0 (n + 1) ≤ suc m
within_by n m true h = omega arith
within_by n m false h = omega arith

within : (l : List ℕ) → before_nul l ≤ length l
unfolding before_nul
within [] = omega arith
within (b ∷ l) = within_by (before_nul l) (length l) (eqb b 0) (within l)

-- where they end before the list does, a NUL follows
nul_follows : (l : List ℕ) → before_nul l < length l → get_or l (before_nul l) 0 ≡ 0
unfolding before_nul
nul_follows [] h = absurd (omega arith)
nul_follows (b ∷ l) h = go (eqb b 0) refl h (nul_follows l)
  where
    go : (t : Bool) → eqb b 0 ≡ t → cond t 0 (before_nul l + 1) < length (b ∷ l) → (before_nul l < length l → get_or l (before_nul l) 0 ≡ 0)
        → get_or (b ∷ l) (cond t 0 (before_nul l + 1)) 0 ≡ 0
    go true e k rest = eqb-true b 0 e
    go false e k rest = rw (add-one (before_nul l)) (rest (omega arith))

-- and none stands among them
none-among : (l : List ℕ) (i : ℕ) → i < before_nul l → ¬ (get_or l i 0 ≡ 0)
unfolding before_nul
none-among [] i h = λ e. omega arith
none-among (b ∷ l) i h = go (eqb b 0) refl i h (none-among l)
  where
    go : (t : Bool) → eqb b 0 ≡ t → (i : ℕ) → i < cond t 0 (before_nul l + 1) → ((j : ℕ) → j < before_nul l → ¬ (get_or l j 0 ≡ 0)) → ¬ (get_or (b ∷ l) i 0 ≡ 0)
    go true z i k rest e = omega arith
    go false z zero k rest e = eqb-false b 0 z e
    go false z (suc i) k rest e = rest i (omega arith) e

-- ---- a name, where it starts inside the stream
module _ (s : List ℕ) (p : ℕ) where
  pub name-within : p ≤ length s → p + before_nul (drop p s) ≤ length s
  name-within h = omega (arith, within (drop p s), length-drop p s)

  pub no_nul_in : (i : ℕ) → i < before_nul (drop p s) → ¬ (byte s (p + i) ≡ 0)
  no_nul_in i h e = none-among (drop p s) i h (get_or-drop p s i 0 ∙ e)

  pub next-within : (nul_terminated s p).next ≤ length s
  unfolding nul_terminated
  next-within = omega arith

  -- it ends at a NUL, and isn't cut
  pub at_nul : p + before_nul (drop p s) < length s → ((nul_terminated s p).cut ≡ 0) × (byte s (p + before_nul (drop p s)) ≡ 0)
  unfolding nul_terminated
  at_nul h = (rw (lt-ltb (p + before_nul (drop p s)) (length s) h), sym (get_or-drop p s (before_nul (drop p s)) 0) ∙ nul_follows (drop p s) (omega (arith, length-drop p s)))

  -- it ends where the stream does, and is cut: nothing follows it
  pub at-end : length s ≤ p + before_nul (drop p s) → ((nul_terminated s p).cut ≡ 1) × ((nul_terminated s p).next ≡ length s)
  unfolding nul_terminated
  at-end h = (rw (le-ltb (p + before_nul (drop p s)) (length s) h), omega arith)

-- ---- the entries: no more than asked for, nor are more of them reported
infos-few : (s : List ℕ) (p n : ℕ) → length (infos_at s p n) ≤ n
unfolding infos_at
infos-few s p zero = omega arith
infos-few s p (suc n) = go (leb (p + 8) (length s)) (infos-few s (next_info s p) n)
  where
    go : (b : Bool) → length (infos_at s (next_info s p) n) ≤ n → length (cond b (info_at s p ∷ infos_at s (next_info s p) n) []) ≤ suc n
    go true h = omega arith
    go false h = omega arith

kept-few : (is : List Info) → length (keep is_reported_info is) ≤ length is
unfolding keep
kept-few [] = omega arith
kept-few (i ∷ is) = go (is_reported_info i) (kept-few is)
  where
    go : (b : Bool) → length (keep is_reported_info is) ≤ length is → length (cond b (i ∷ keep is_reported_info is) (keep is_reported_info is)) ≤ suc (length is)
    go true h = omega arith
    go false h = omega arith

pub reported-few : (s : List ℕ) (p n : ℕ) → length (keep is_reported_info (infos_at s p n)) ≤ n
reported-few s p n = omega (arith, kept-few (infos_at s p n), infos-few s p n)

-- a row for each
pub info_wide : (is : List Info) → Wide type_info_width (map type_info_row is)
info_wide [] = tt
info_wide (i ∷ is) = (refl, info_wide is)
