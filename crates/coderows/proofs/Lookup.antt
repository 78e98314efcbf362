-- What a reader that looks rows up may rely on, where the table is well formed.
use Prim.Native.Nat.{ℕ}
use mathlib.Core.Path.{◌≡◌, refl}
use mathlib.Core.List.{List}
use mathlib.Core.Bool.{true}
use mathlib.Core.Option.{Option, none, some}
use Rattle.rules.specs.Lists.{find, ascends}
use Rattle.rules.specs.CodeTable.{Scope, scopes, scope_ok, is_scope, rows_of, scope_rows}
use Rattle.coderows.specs.declared.Body.{Body}
use Rattle.coderows.specs.Look.{Formed, Sorted, Finds, body_rows}
use Rattle.rules.proofs.ListLaws.{all_there, found-there}
use Rattle.rules.proofs.CodeTableLaws.{formed, rows-ascend}

module _ (t : List ℕ) (kind code : ℕ) (F : Formed t) where
  -- a scope that is found is well formed
  scope-ok : (s : Scope) → find (is_scope kind code) (scopes t) ≡ some s → scope_ok s ≡ true
  scope-ok s q = all_there scope_ok (scopes t) s (formed t F).scopes-ok (found-there (is_scope kind code) (scopes t) s q).0

  pub scope-sorted : Sorted (scope_rows t kind code)
  unfolding scope_rows ascends
  scope-sorted = go (find (is_scope kind code) (scopes t)) refl
    where
      go : (o : Option Scope) → find (is_scope kind code) (scopes t) ≡ o → Sorted (rows_of o)
      go none q = refl
      go (some s) q = rows-ascend s (scope-ok s q)

-- where a body's rows are the scope's, they are in order too
pub finds : (t : List ℕ) (kind code : ℕ) (body : Body) → (Formed t → body_rows t body ≡ scope_rows t kind code) → Finds t kind code body
finds t kind code body e = record { rows = e; sorted = λ F. rw (e F) (scope-sorted t kind code F) }
