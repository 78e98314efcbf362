-- Two walks at once, through the rows of two scopes and through the scopes of two tables: what is left, what a turn takes, and what is counted and written.
use Rattle.std.specs.Prelude.{ℕ, ◌+◌, ◌-◌, ◌*◌, ◌/◌, ◌%◌, ◌^◌, ◌≤◌, ◌<◌, ◌≡◌, Bool, true, cond, ◌&&◌, ◌||◌, Option, Some, None, List, ◌∷◌, ◌++◌, map, ltb, eqb, length}
use Rattle.rules.specs.Lists.{all, ascends, agree}
use Rattle.rules.specs.Bytes.{byte, u16, two_bytes_lem}
use Rattle.rules.specs.CodeTable.{Tie, Scope, id_of, key_of, key, ties_at, scopes_at, layout, header, scopes, scope_count, contents_at, bodies_at, scope_ok, row_count_lem, well_formed_lem}
use Rattle.rules.specs.Join.{join_rows, join_scope, join_scopes, same_row_lem, rows_agree, scopes_agree}
use Rattle.joinlaws.proofs.JoinTurns.{Turn}
use Rattle.joinlaws.proofs.TableBytesLaws.{codes_bytes}
use Rattle.tablebytes.specs.Rows.{tie_of}
use Rattle.join.specs.declared.Rows.{Rows}
use Rattle.join.specs.declared.Scopes.{Scopes}
use Rattle.join.specs.declared.RowTurn.{RowTurn}
use Rattle.join.specs.declared.Taken.{Taken}
use Rattle.join.specs.declared.ScopeTurn.{ScopeTurn}
use Rattle.join.specs.declared.Size.{Size}

-- a walk goes on by itself: its number is less than the other's, or the other is at its end
unfoldable pub alone : ℕ → ℕ → ℕ → ℕ → Bool
alone left number others other = ltb 0 left && (eqb others 0 || ltb number other)

-- two walks at once, of which each meets what is asked of one
pub record Walks {C : Type 0} (Walk : List ℕ → C → Type 0) (one : List ℕ) (a : C) (other : List ℕ) (b : C) : Type 0 where
  pub one_walk : Walk one a
  pub other_walk : Walk other b

-- and with so much left, there is a next turn
pub record NextTurn {C : Type 0} (Walk : List ℕ → C → Type 0) (one : List ℕ) (a : C) (other : List ℕ) (b : C) (left : ℕ) : Type 0 where
  pub walks : Walks Walk one a other b
  pub more : 0 < left

-- ---- rows
abbrev pub rows_in_lem : List ℕ → Rows → List Tie
rows_in_lem t a = ties_at t a.at a.left

-- what is asked of rows that are walked: they ascend, are few, and lie where a well-formed table is
pub record RowsWalk (t : List ℕ) (a : Rows) : Type 0 where
  pub ascend : ascends 0 (map id_of (rows_in_lem t a)) ≡ true
  pub few : a.left ≤ 253
  pub place : a.at + 4 * a.left ≤ 65100

-- there is a row to take
pub record RowLeft (a : Rows) : Type 0 where
  pub at_small : a.at < 2 ^ 32
  pub more : 0 < a.left

-- the rows after the next one
abbrev pub rows_after : Rows → Rows
rows_after a = record { at = a.at + 4; left = a.left - 1 }

-- a turn takes one row, and leaves the rest
pub record RowsTurn (one : List ℕ) (a : Rows) (other : List ℕ) (b : Rows) (r : RowTurn) : Type 0 where
  pub turn : Turn id_of (λ x y. x) same_row_lem (rows_in_lem one a) (rows_in_lem other b) (tie_of r.row) r.agreed (rows_in_lem one r.one) (rows_in_lem other r.other)
  pub walks : Walks RowsWalk one r.one other r.other
  pub fewer : r.one.left + r.other.left < a.left + b.left

-- what is counted where the two agree
abbrev pub if_agreed : {A : Type 0} → Bool → A → Option A
if_agreed agreed n = cond agreed (Some n) None

abbrev pub counted : List Tie → List Tie → Option ℕ
counted rs rs' = if_agreed (agree id_of same_row_lem rs rs') (length (join_rows rs rs'))

-- ---- scopes
abbrev pub scopes_in : List ℕ → Scopes → List Scope
scopes_in t a = scopes_at t a.at a.body a.left

-- all scopes of a table
abbrev pub scopes_of : List ℕ → Scopes
scopes_of t = record { at = contents_at t; body = bodies_at t; left = scope_count t }

pub record ScopesWalk (t : List ℕ) (a : Scopes) : Type 0 where
  pub keys : ascends 0 (map key (scopes_in t a)) ≡ true
  pub ok : all scope_ok (scopes_in t a) ≡ true
  pub place : a.at + 5 * a.left ≤ 332
  pub ends : a.body + 4 * row_count_lem (scopes_in t a) ≤ 65100

-- there is a scope to take
pub record ScopeLeft (a : Scopes) : Type 0 where
  pub at_small : a.at < 2 ^ 32
  pub body-small : a.body < 2 ^ 32
  pub more : 0 < a.left

-- kind and code of the scope that is told at a place, as one number
pub record ReadsKey (t : List ℕ) (at r : ℕ) : Type 0 where
  pub is : r ≡ key_of (byte t at) (u16 t (at + 1))
  pub kind-small : byte t at < 256
  pub code-small : u16 t (at + 1) < 65536

-- and out of it
abbrev pub kind_of : ℕ → ℕ
kind_of k = k / 65536

abbrev pub code_of : ℕ → ℕ
code_of k = k % 65536

-- what is taken of a walk: its next scope, which has n rows, or nothing
abbrev pub taken_by : Scopes → ℕ → Taken
taken_by a n = record { rows = record { at = a.body; left = n }; rest = record { at = a.at + 5; body = a.body + 4 * n; left = a.left - 1 } }

abbrev pub taken : List ℕ → Scopes → Taken
taken t a = taken_by a (u16 t (a.at + 3))

abbrev pub stayed : Scopes → Taken
stayed a = record { rows = record { at = 0; left = 0 }; rest = a }

-- a turn takes one scope: the rows that the two have for it are joined
abbrev pub scope_of : List ℕ → List ℕ → ScopeTurn → Scope
scope_of one other r = record { kind = kind_of r.key; code = code_of r.key; rows = join_rows (rows_in_lem one r.front.rows) (rows_in_lem other r.back.rows) }

pub record ScopesTurn (one : List ℕ) (a : Scopes) (other : List ℕ) (b : Scopes) (r : ScopeTurn) : Type 0 where
  pub turn : Turn key join_scope rows_agree (scopes_in one a) (scopes_in other b) (scope_of one other r)
      (agree id_of same_row_lem (rows_in_lem one r.front.rows) (rows_in_lem other r.back.rows))
      (scopes_in one r.front.rest) (scopes_in other r.back.rest)
  pub small : r.key < 2 ^ 24
  pub rows : Walks RowsWalk one r.front.rows other r.back.rows
  pub rest : Walks ScopesWalk one r.front.rest other r.back.rest
  pub fewer : r.front.rest.left + r.back.rest.left < a.left + b.left

abbrev pub size_of : ℕ → ℕ → Size
size_of n m = record { scopes = n; rows = m }

abbrev pub sized : List Scope → List Scope → Option Size
sized ss ss' = if_agreed (scopes_agree ss ss') (size_of (length (join_scopes ss ss')) (row_count_lem (join_scopes ss ss')))

-- two well-formed tables
pub record Formed (one other : List ℕ) : Type 0 where
  pub one-formed : well_formed_lem one ≡ true
  pub other-formed : well_formed_lem other ≡ true

-- and no scope and id has two different rows
pub record Agreed (one other : List ℕ) : Type 0 where
  pub formed : Formed one other
  pub agree-all : scopes_agree (scopes one) (scopes other) ≡ true

-- ---- the head of a table as it is written (`table_bytes`)
abbrev pub head_bytes : List ℕ → ℕ → List ℕ
head_bytes t n = layout t ∷ length (header t) ∷ two_bytes_lem n ++ codes_bytes (header t)
