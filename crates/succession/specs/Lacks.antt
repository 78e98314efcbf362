-- The first row of a code table, in its order, for whose scope and id another table has another row, or none where that counts: why a newer table doesn't succeed an older of the same head, and why two can't be joined.
use Rattle.std.specs.Prelude.{ℕ, ◌≡◌, Bool, true, false, cond, List, [], ◌∷◌}
use Rattle.std.proofs.Math.Option.{Option, none, some}
use Rattle.rules.specs.Lists.{find}
use Rattle.rules.specs.CodeTable.{Tie, Scope, is_tied, scope_rows, row_of, Holds}
use Rattle.rules.specs.Join.{same_row_lem}
use Rattle.rules.specs.Differences.{found_same}

-- a scope, a row that the one table has there, and what the other has for its id: another row, or none
pub record Lack : Type 0 where
  pub kind : ℕ
  pub code : ℕ
  pub row : Tie
  pub other : Option Tie

-- r is passed over where the other table has o for its id: the same row, or none where that doesn't count
abbrev pub passes : Bool → Tie → Option Tie → Bool
passes true r o = found_same r o
passes false r none = true
passes false r (some q) = same_row_lem q r

-- the first of rs that isn't passed over, where rs' are the other table's rows of the same scope
unfoldable pub rows_other : Bool → ℕ → ℕ → List Tie → List Tie → Option Lack
rows_other missing kind code rs' [] = none
rows_other missing kind code rs' (r ∷ rs) =
    let o = find (is_tied r.id) rs' in
    cond (passes missing r o) (rows_other missing kind code rs' rs) (some (record { kind = kind; code = code; row = r; other = o }))

abbrev pub or_else : {A : Type 0} → Option A → Option A → Option A
or_else none y = y
or_else (some x) y = some x

-- the first row of these scopes for which the table t' has another, or none where that counts
unfoldable pub scopes_other : Bool → List ℕ → List Scope → Option Lack
scopes_other missing t' [] = none
scopes_other missing t' (s ∷ ss) = or_else (rows_other missing s.kind s.code (scope_rows t' s.kind s.code) s.rows) (scopes_other missing t' ss)

-- the first row of these scopes that the table t' hasn't
abbrev pub scopes_lack : List ℕ → List Scope → Option Lack
scopes_lack t' ss = scopes_other true t' ss

-- what is found is a row of the one table, and what the other has in its place isn't that row
pub record Lacks (t t' : List ℕ) (l : Lack) : Type 0 where
  pub held : Holds t l.kind l.code l.row
  pub looked_up : l.other ≡ row_of t' l.kind l.code l.row.id
  pub other_row : ¬ (l.other ≡ some l.row)
