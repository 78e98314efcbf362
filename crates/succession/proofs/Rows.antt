-- Rows looked up among those of the other table, one after another, and what the loop keeps that does it.
use Prim.Native.Nat.{ℕ, ◌+◌, ◌*◌, ◌-◌, ◌≤◌, ◌<◌, ◌^◌}
use native.Mathlib.Omega.{arith}
use mathlib.Core.Path.{◌≡◌, refl, sym, ap, ◌∙◌}
use mathlib.Core.Bool.{Bool, true, false, cond}
use mathlib.Core.List.{List, ◌∷◌}
use mathlib.Core.Option.{Option, none, some}
use Rattle.rules.specs.Lists.{find}
use Rattle.rules.specs.CodeTable.{Tie, tie_at, ties_at, is_tied}
use Rattle.joinlaws.proofs.TableBytesLaws.{no_ties}
use Rattle.codetable.proofs.Steps.{ties_next}
use Rattle.coderows.specs.Look as look
use Rattle.coderows.specs.declared.Tie as sought
use Rattle.std.proofs.Common.{Some}
use Rattle.std.proofs.Common as std
use Rattle.tablebytes.specs.declared.Row.{Row}
use Rattle.tablebytes.specs.Rows.{tie_of}
use Rattle.succession.specs.declared.Lack as told
use Rattle.succession.specs.Lacks.{Lack, passes, rows_other}
use Rattle.succession.specs.Found.{is_held, as_lack}

-- what the code compares is what the definition does
pub held_same : (missing : Bool) (row : Row) (o : Option Tie) → is_held missing row (look.as_row o) ≡ passes missing (tie_of row) o
unfolding is_held
held_same true row none = refl
held_same true row (some q) = refl
held_same false row none = refl
held_same false row (some q) = refl

-- ---- one after another
-- of n rows so many are left from `place` on, and those in front of them are passed over
pub record RowsTo (missing : Bool) (kind code : ℕ) (rs : List Tie) (t : List ℕ) (start n place left : ℕ) : Type 0 where
  pub ends : place + 4 * left < 2 ^ 59
  pub rest : rows_other missing kind code rs (ties_at t start n) ≡ rows_other missing kind code rs (ties_at t place left)

pub no-row_tried : {missing : Bool} {kind code : ℕ} {rs : List Tie} {t : List ℕ} {start n : ℕ} → start + 4 * n < 2 ^ 59 → RowsTo missing kind code rs t start n start n
no-row_tried h = record { ends = h; rest = refl }

module _ {missing : Bool} {kind code : ℕ} {rs : List Tie} {t : List ℕ} {start n place left : ℕ} (K : RowsTo missing kind code rs t start n place left) where
  pub all-rows_tried : left ≤ 0 → rows_other missing kind code rs (ties_at t start n) ≡ none
  unfolding rows_other
  all-rows_tried h = K.rest ∙ rw (no_ties t place left h)

  module _ (row : Row) {other : std.Option sought.Tie} (more : 0 < left) (here : tie_of row ≡ tie_at t place) (e : other ≡ look.as_row (find (is_tied row.id) rs)) where
    -- what is told of this row
    abbrev this : Lack
    this = record { kind = kind; code = code; row = tie_of row; other = find (is_tied row.id) rs }

    next : rows_other missing kind code rs (ties_at t start n) ≡ cond (is_held missing row other) (rows_other missing kind code rs (ties_at t (place + 4) (left - 1))) (some this)
    unfolding rows_other
    next =
        K.rest ∙ ap (rows_other missing kind code rs) (ties_next t place left more)
        ∙ ap (λ (r : Tie). rows_other missing kind code rs (r ∷ ties_at t (place + 4) (left - 1))) (sym here)
        ∙ ap (λ (b : Bool). cond b (rows_other missing kind code rs (ties_at t (place + 4) (left - 1))) (some this)) (sym (held_same missing row (find (is_tied row.id) rs)) ∙ ap (is_held missing row) (sym e))

    pub row_told : is_held missing row other ≡ false → Some (record { kind = kind; code = code; row = row; other = other }) ≡ as_lack (rows_other missing kind code rs (ties_at t start n))
    unfolding as_lack
    row_told f = rw (next, f) (ap (λ (z : std.Option sought.Tie). let p : told.Lack = record { kind = kind; code = code; row = row; other = z } in Some p) e)

    pub row-passes : is_held missing row other ≡ true → RowsTo missing kind code rs t start n (place + 4) (left - 1)
    row-passes f = let l = K.ends in record { ends = omega arith; rest = next ∙ rw f refl }
