-- Turns of a walk through the rows of two scopes, and what the loop keeps that if_agreed them.
use Prim.Native.Nat.{ℕ, ◌+◌, ◌≤◌, ◌<◌}
use native.Mathlib.Omega.{arith}
use mathlib.Core.Path.{◌≡◌, refl, sym, ap, ap₂, ◌∙◌}
use mathlib.Core.Bool.{Bool, true, false}
use mathlib.Core.List.{List, []}
use lib.ListN.{length}
use Rattle.rules.specs.Lists.{merge, agree, all}
use Rattle.rules.specs.CodeTable.{Tie, id_of, tie_at}
use Rattle.rules.specs.Join.{join_rows, same_row_lem}
use Rattle.joinlaws.proofs.MergeLaws.{Ascends, length_most}
use Rattle.joinlaws.proofs.JoinTurns.{Turn}
use Rattle.joinlaws.proofs.TableBytesLaws.{length-ties_at, no_ties}
use Rattle.codetable.proofs.Steps.{ties_next}
use Rattle.join.specs.declared.Rows.{Rows}
use Rattle.tablebytes.specs.declared.Row.{Row}
use Rattle.tablebytes.specs.Rows.{tie_of}
use Rattle.std.proofs.Common.{Option, Some, None}
use Rattle.std.proofs.lemmas.Option.{none-some}
use Rattle.join.specs.Walk.{alone, Walks, rows_in_lem, RowsWalk, RowLeft, rows_after, RowsTurn, if_agreed, counted}
use Rattle.join.proofs.Turns.{Front, Both, alone-more, first-turn, second-turn, both_turn}

abbrev first : Tie → Tie → Tie
first r r' = r

-- ---- what is counted where two agree
abbrev counted_or : {A : Type 0} → A → Option A → A
counted_or x (Some n) = n
counted_or x None = x

pub some_agreed : {A : Type 0} (b : Bool) (n : A) {h : A} → Some h ≡ if_agreed b n → (b ≡ true) × (h ≡ n)
some_agreed true n {h} e = (refl, ap (counted_or h) e)
some_agreed false n {h} e = absurd (none-some h (sym e))

pub none_agreed : {A : Type 0} (b : Bool) (n : A) → None ≡ if_agreed b n → b ≡ false
none_agreed true n e = absurd (none-some n e)
none_agreed false n e = refl

-- ---- turns
-- where one is left, it can be taken, and the rows after it can be walked
module _ {t : List ℕ} {a : Rows} (w : RowsWalk t a) (more : 0 < a.left) where
  pub row-left : RowLeft a
  row-left = let p = w.place in record { at_small = omega arith; more = more }

  after_walk : Ascends id_of 0 (rows_in_lem t (rows_after a)) → RowsWalk t (rows_after a)
  after_walk up = let p = w.place in let f = w.few in record { ascend = up; few = omega arith; place = omega arith }

-- the next row of a walk
rows-front : {t : List ℕ} {a : Rows} {x : Row} → RowsWalk t a → tie_of x ≡ tie_at t a.at → Front id_of a.left x.id (tie_of x) (rows_in_lem t a) (rows_in_lem t (rows_after a))
rows-front {t} {a} w e = record { number = refl; next = λ h. rw e (ties_next t a.at a.left h); end = λ e. no_ties t a.at a.left (omega arith); ascend = w.ascend }

module _ {one other : List ℕ} {a b : Rows} {x y : Row} (W : Walks RowsWalk one a other b) (X : tie_of x ≡ tie_at one a.at) (Y : tie_of y ≡ tie_at other b.at) where
  abbrev RowTaken : Tie → Bool → Rows → Rows → Type 0
  RowTaken z agreed a' b' = Turn id_of first same_row_lem (rows_in_lem one a) (rows_in_lem other b) z agreed (rows_in_lem one a') (rows_in_lem other b')

  pub first-row : {rest : Rows} → alone a.left x.id b.left y.id ≡ true → rest ≡ rows_after a → RowsTurn one a other b (record { row = x; agreed = true; one = rest; other = b })
  first-row e h =
      let more = alone-more _ _ _ _ e in
      let T : RowTaken (tie_of x) true (rows_after a) b = first-turn (λ x y q. refl) (rows-front W.one_walk X) (rows-front W.other_walk Y) e in
      rw h (record { turn = T; walks = record { one_walk = after_walk W.one_walk more T.front; other_walk = W.other_walk }; fewer = omega arith })

  pub second-row : {rest : Rows} → alone b.left y.id a.left x.id ≡ true → rest ≡ rows_after b → RowsTurn one a other b (record { row = y; agreed = true; one = a; other = rest })
  second-row e h =
      let more = alone-more _ _ _ _ e in
      let T : RowTaken (tie_of y) true a (rows_after b) = second-turn (λ x y q. refl) (rows-front W.one_walk X) (rows-front W.other_walk Y) e in
      rw h (record { turn = T; walks = record { one_walk = W.one_walk; other_walk = after_walk W.other_walk more T.back }; fewer = omega arith })

  pub both_rows : {front back : Rows} {agreed : Bool} → Both a.left x.id b.left y.id → agreed ≡ same_row_lem (tie_of x) (tie_of y) → front ≡ rows_after a → back ≡ rows_after b
      → RowsTurn one a other b (record { row = x; agreed = agreed; one = front; other = back })
  both_rows both s h k =
      let l = both.first in
      let l' = both.second in
      let T : RowTaken (tie_of x) (same_row_lem (tie_of x) (tie_of y)) (rows_after a) (rows_after b) = both_turn (λ x y q. refl) (rows-front W.one_walk X) (rows-front W.other_walk Y) both in
      rw (s, h, k) (record { turn = T; walks = record { one_walk = after_walk W.one_walk l T.front; other_walk = after_walk W.other_walk l' T.back }; fewer = omega arith })

-- ---- the ends
pub few-joined : (one : List ℕ) (a : Rows) (other : List ℕ) (b : Rows) → length (join_rows (rows_in_lem one a) (rows_in_lem other b)) ≤ a.left + b.left
few-joined one a other b =
    let l = length_most id_of first (rows_in_lem one a) (rows_in_lem other b) in
    let m = length-ties_at one a.at a.left in
    let n = length-ties_at other b.at b.left in
    omega arith

module _ (one : List ℕ) (a : Rows) (other : List ℕ) (b : Rows) (h : a.left + b.left ≤ 0) where
  pub rows_none : join_rows (rows_in_lem one a) (rows_in_lem other b) ≡ []
  unfolding merge
  rows_none = rw (no_ties one a.at a.left (omega arith), no_ties other b.at b.left (omega arith))

  rows_agreed : agree id_of same_row_lem (rows_in_lem one a) (rows_in_lem other b) ≡ true
  unfolding agree all
  rows_agreed = rw (no_ties one a.at a.left (omega arith))

-- ---- counting: from a₀ and b₀ on, what is left at a and b with so many counted
pub record CountedTo (one : List ℕ) (a₀ : Rows) (other : List ℕ) (b₀ a b : Rows) (rows : ℕ) : Type 0 where
  pub walks : Walks RowsWalk one a other b
  pub few : a₀.left + b₀.left ≤ 506
  pub agrees : agree id_of same_row_lem (rows_in_lem one a₀) (rows_in_lem other b₀) ≡ agree id_of same_row_lem (rows_in_lem one a) (rows_in_lem other b)
  pub many : length (join_rows (rows_in_lem one a₀) (rows_in_lem other b₀)) ≡ rows + length (join_rows (rows_in_lem one a) (rows_in_lem other b))

pub counted_none : {one other : List ℕ} {a b : Rows} → Walks RowsWalk one a other b → CountedTo one a other b a b 0
counted_none W = let f = W.one_walk.few in let g = W.other_walk.few in record { walks = W; few = omega arith; agrees = refl; many = omega arith }

module _ {one other : List ℕ} {a₀ b₀ a b : Rows} {rows : ℕ} (C : CountedTo one a₀ other b₀ a b rows) where
  pub counted-few : rows ≤ 506
  counted-few = let l = few-joined one a₀ other b₀ in let m = C.many in let f = C.few in omega arith

  pub counted-all : a.left + b.left ≤ 0 → counted (rows_in_lem one a₀) (rows_in_lem other b₀) ≡ Some rows
  counted-all h =
      let l : length (join_rows (rows_in_lem one a) (rows_in_lem other b)) ≡ 0 = ap length (rows_none one a other b h) in
      let m = C.many in
      let n : length (join_rows (rows_in_lem one a₀) (rows_in_lem other b₀)) ≡ rows = omega arith in
      ap₂ if_agreed (C.agrees ∙ rows_agreed one a other b h) n
