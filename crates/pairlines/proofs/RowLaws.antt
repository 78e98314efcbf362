-- Rows in lent slices, before and after their controls are paired.
use mathlib.Core.Path.{◌≡◌, refl, sym, ap, ap₂, ◌∙◌}
use mathlib.Core.Bool.{Bool, true, false, cond}
use mathlib.Core.List.{List, [], ◌∷◌, ◌++◌}
use Prim.Native.Nat.{ℕ, zero, suc, ◌+◌, ◌*◌, ◌≤◌, ◌<◌}
use native.Mathlib.Omega.{arith}
use lib.ListN.{length, get_or, drop}
use lib.Seq.{get_or-drop}
use Rattle.rules.specs.Lists.{keep}
use Rattle.rules.specs.Rows.{control_width, row_at}
use Rattle.rules.specs.Listing.{word, control_line, lines_from}
use Rattle.rules.specs.Pairing.{mark_of, start_of, size_of, paired_type, types_set}
use Rattle.rules.proofs.PairingLaws.{word_at, type-set, word_stays}
use Rattle.listing.specs.Shown.{lines_to}
use Rattle.pairlines.specs.Pairs.{paired_line, is_unpaired}
use Rattle.pairlines.specs.Told.{tally}

-- ---- lines that are the same row by row
lines_same : (f g : ℕ → List ℕ → List ℕ) (w : ℕ) (a b : List ℕ) (n : ℕ) → ((k : ℕ) → k < n → f k (row_at w k a) ≡ g k (row_at w k b)) → lines_to f w n a ≡ lines_to g w n b
unfolding lines_to
lines_same f g w a b zero h = refl
lines_same f g w a b (suc n) h = ap₂ (λ (x y : List ℕ). x ++ y) (lines_same f g w a b n (λ k l. h k (omega arith))) (h n (omega arith))

-- a C line, by the words of its row
same-control : (s : List ℕ) (n : ℕ) (a b : List ℕ) → ((i : ℕ) → i < control_width → word a i ≡ word b i) → control_line s n a ≡ control_line s n b
unfolding control_line
same-control s n a b h =
    rw (
      h 0 (omega arith),
      h 1 (omega arith),
      h 2 (omega arith),
      h 3 (omega arith),
      h 4 (omega arith),
      h 5 (omega arith),
      h 6 (omega arith),
      h 7 (omega arith),
    )

module _ (s t : List ℕ) (infos : List (List ℕ)) (n : ℕ) (old : List ℕ) (fits : n * control_width ≤ length old) where
  abbrev now : List ℕ
  now = types_set s t infos n old

  first_word : (k : ℕ) → k < n → word (row_at control_width k now) 0 ≡ paired_type s t infos (row_at control_width k old)
  first_word k l = word_at control_width k 0 now (omega arith) ∙ ap (λ (i : ℕ). get_or now i 0) (let z : k * control_width + 0 ≡ k * control_width = omega arith in z) ∙ type-set s t infos old n fits k l

  paired_word : (k : ℕ) → k < n → (i : ℕ) → i < control_width
      → word (row_at control_width k now) i ≡ word (paired_type s t infos (row_at control_width k old) ∷ drop 1 (row_at control_width k old)) i
  paired_word k l zero h = first_word k l
  paired_word k l (suc i) h =
      let z : suc i ≡ 1 + i = omega arith in
      word_stays s t infos old n fits k (suc i) (omega arith) h ∙ ap (λ (j : ℕ). word (row_at control_width k old) j) z ∙ sym (get_or-drop 1 (row_at control_width k old) i 0)

  pub lines_paired : lines_to (control_line s) control_width n now ≡ lines_to (paired_line s t infos) control_width n old
  lines_paired = lines_same (control_line s) (paired_line s t infos) control_width now old n (λ k l. same-control s k _ _ (paired_word k l))

  -- lines that the mark, the start and the length tell are what they were
  pub lines_stay : (f : ℕ → List ℕ → List ℕ) → ((a b : List ℕ) → mark_of a ≡ mark_of b → start_of a ≡ start_of b → size_of a ≡ size_of b → (k : ℕ) → f k a ≡ f k b)
      → lines_to f control_width n now ≡ lines_to f control_width n old
  lines_stay f same =
      let stays = word_stays s t infos old n fits in
      lines_same f f control_width now old n λ k l.
      same _ _ (stays k 1 (omega arith) (omega arith)) (stays k 2 (omega arith) (omega arith)) (stays k 3 (omega arith) (omega arith)) k

-- ---- how many found no row
module _ (s t : List ℕ) (infos : List (List ℕ)) where
  one_kept : (row : List ℕ) (rows : List (List ℕ)) (tallied : List ℕ) (b : Bool) → length tallied ≡ length (keep (is_unpaired s t infos) rows)
      → length (cond b (0 ∷ []) [] ++ tallied) ≡ length (cond b (row ∷ keep (is_unpaired s t infos) rows) (keep (is_unpaired s t infos) rows))
  one_kept row rows tallied true e = ap suc e
  one_kept row rows tallied false e = e

  pub tally-kept : (n : ℕ) (rows : List (List ℕ)) → length (lines_from (tally s t infos) n rows) ≡ length (keep (is_unpaired s t infos) rows)
  unfolding lines_from keep tally
  tally-kept n [] = refl
  tally-kept n (row ∷ rows) = one_kept row rows (lines_from (tally s t infos) (n + 1) rows) (is_unpaired s t infos row) (tally-kept (n + 1) rows)
