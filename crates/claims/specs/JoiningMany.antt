-- Document 02, wish 12, for any number of offices: "With four offices we can't tell them in which order to join."
use Rattle.std.specs.Prelude.{ℕ, ◌≡◌, ◌↔◌}
use mathlib.Core.List.{List, [], ◌∷◌, ◌++◌, map, Memᴰ, Permᴰ}
use Rattle.std.proofs.Math.Option.{Option, some}
use Rattle.rules.specs.Lists.{◌>>=◌}
use Rattle.rules.specs.CodeTable.{Tie, Holds}
use Rattle.rules.specs.Join.{join_exit, result}
use Rattle.claims.specs.Demand3.{Successor}
use Rattle.claims.specs.Joining.{Table, Roomy}

-- ---- any order, any grouping
-- a plan of joining: one table, or what two plans give, joined into a buffer
pub data Plan : Type 0 where
  table : List ℕ → Plan
  join : Plan → Plan → List ℕ → Plan

-- its tables, from left to right
unfoldable pub tables : Plan → List (List ℕ)
tables (Plan.table t) = t ∷ []
tables (Plan.join p q out) = tables p ++ tables q

-- what comes out in the end: bytes, or none where any joining of it is refused
unfoldable pub outcome : Plan → Option (List ℕ)
outcome (Plan.table t) = some t
outcome (Plan.join p q out) = outcome p >>= λ a. outcome q >>= λ b. result (join_exit a b out)

-- "Premise: each table is well formed and each call has room for 65,100 bytes"
unfoldable pub Ready : Plan → Type 0
Ready (Plan.table t) = Table t
Ready (Plan.join p q out) = Ready p × Ready q × Roomy out

-- ---- the plain way: each table joined to what came of those before it
-- a further office: its table, and the buffer that is joined into
pub record Further : Type 0 where
  pub table : List ℕ
  pub out : List ℕ

unfoldable pub from_left : List ℕ → List Further → Option (List ℕ)
from_left t [] = some t
from_left t (f ∷ fs) = result (join_exit t f.table f.out) >>= λ u. from_left u fs

abbrev pub AllReady : List Further → Type 0
AllReady fs = (f : Further) → Memᴰ f fs → Table f.table × Roomy f.out

-- ---- what any number of offices has of it
pub record FromAll (p : Plan) (t : List ℕ) : Type 0 where
  -- well formed, so it may be joined further
  pub is-table : Table t
  -- every row of each office, and no other
  pub row : (kind code : ℕ) (r : Tie) → Holds t kind code r ↔ ((u : List ℕ) × Memᴰ u (tables p) × Holds u kind code r)
  -- demand 3 speaks of each office's table and the joined one
  pub after-each : (u : List ℕ) → Memᴰ u (tables p) → Successor u t

pub record AnyOrder : Type 0 where
  -- whatever the order and the grouping: the same bytes, or refused both
  pub any_plan : (p q : Plan) → Ready p → Ready q → Permᴰ (tables p) (tables q) → outcome p ≡ outcome q
  -- from the left, in any order
  pub from-left : (t t' : List ℕ) (fs fs' : List Further) → Table t → Table t' → AllReady fs → AllReady fs'
      → Permᴰ (t ∷ map (λ (f : Further). f.table) fs) (t' ∷ map (λ (f : Further). f.table) fs') → from_left t fs ≡ from_left t' fs'
  -- more than asked: nor does it matter how often a table is joined
  pub same_tables : (p q : Plan) → Ready p → Ready q → ((t : List ℕ) → Memᴰ t (tables p) ↔ Memᴰ t (tables q)) → outcome p ≡ outcome q
  -- what is joined is what all of them have
  pub from_all : (p : Plan) (t : List ℕ) → Ready p → outcome p ≡ some t → FromAll p t
