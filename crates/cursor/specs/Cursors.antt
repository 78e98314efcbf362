-- What is left to visit from a cursor on, and what the functions of a layout that move the cursor do.
use Rattle.std.specs.Prelude.{ℕ, ◌-◌, ◌<◌, ◌≡◌, Bool, true, List}
use Rattle.std.proofs.Math.Option.{Option}
use Rattle.rules.specs.Tree.{Entry, levels, levels_at}
use Rattle.rules.proofs.ListLaws.{Every}
use Rattle.rows.specs.Acts.{Nodes, Held}
use Rattle.rows.specs.declared.Nesting.{Nesting}
use Rattle.cursor.specs.Walk.{Steps, frame, entry_by, rest_at}
use Rattle.cursor.specs.Stack.{outer, Before, Moved}
use Rattle.cursor.specs.declared.Cursor.{Cursor}

abbrev pub cursor : ℕ → ℕ → ℕ → ℕ → Cursor
cursor at level left up = record { at = at; level = level; left = left; parent = up }

-- where the entry at a cursor stands in the tree
abbrev pub nesting : Cursor → Nesting
nesting c = record { level = c.level; parent = c.parent }

-- n is the next row
unfoldable pub rest_by : {P : Type 0} → Steps P → (Entry P → Bool) → ℕ → List ℕ → Cursor → Nodes P
rest_by step pick n a c = rest_at step pick (levels - c.level) n (frame c.left c.parent) (outer a c.level) c.at

-- how many levels there are below an entry of the top list
abbrev pub below_top : ℕ
below_top = levels - 1

-- an entry of the top list
abbrev pub top_at : {P : Type 0} → Steps P → ℕ → Option (Entry P × ℕ)
top_at step p = entry_by step (levels_at (entry_by step) below_top) p

-- in the top list, the cursor stands before an entry that is picked
abbrev pub Picked : {P : Type 0} → Steps P → (Entry P → Bool) → Cursor → Type 0
Picked step pick c = c.level ≡ 0 → 0 < c.left → Every (λ e. pick e.0 ≡ true) (top_at step c.at)

-- the cursor r past the entries of the top list that aren't picked
pub record Passed {P : Type 0} (step : Steps P) (pick : Entry P → Bool) (c r : Cursor) : Type 0 where
  pub level-is : r.level ≡ c.level
  pub picked : Picked step pick r
  pub done : (c.left ≡ 0 → c.level ≡ 0) → r.left ≡ 0 → r.level ≡ 0
  pub is : (n : ℕ) (a : List ℕ) → rest_by step pick n a r ≡ rest_by step pick n a c

-- going on after the entry at c: `list` is how many entries its list has, and the place after its head
pub record PastReady (a : List ℕ) (c : Cursor) (list : Option (ℕ × ℕ)) : Type 0 where
  pub before : Before a c
  pub there : Held (λ _. Unit) list

abbrev pub Past : List ℕ → Cursor → ℕ → Option (ℕ × ℕ) → List ℕ → Cursor → Type 0
Past a c row list a' r = Held (λ x. Moved a c row x.0 x.1 a' r) list
