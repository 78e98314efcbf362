-- A reading and its counts, whatever the layout: what is answered, what a writer asks and leaves, what a caller sees.
use Rattle.std.specs.Prelude.{ℕ, ◌+◌, ◌*◌, ◌≤◌, ◌≡◌, List, length}
use Rattle.std.proofs.Math.Option.{Option, some}
use Rattle.rules.specs.Answer.{longest}
use Rattle.rules.specs.Reading.{Reading, properties, control_rows, property_rows}
use Rattle.rules.specs.Rows.{control_width, property_width, room, written}
use Rattle.rules.specs.Blob.{Exit, Outcome, fit, answer_of, exit_by_lem}
use Rattle.rules.specs.declared.Answer.{Answer}

-- so many controls, properties in all, and properties of the object
pub record Counts (r : Reading) (n m o : ℕ) : Type 0 where
  pub controls-are : length r.controls ≡ n
  pub properties-are : length (properties r) ≡ m
  pub own-are : length r.own ≡ o

-- so many fit an answer's words
pub record Answerable (controls props own : ℕ) : Type 0 where
  pub few : controls + props ≤ longest
  pub among : own ≤ props

-- the answer for every reading with these counts
abbrev pub Judged : ℕ → ℕ → ℕ → ℕ → ℕ → Answer → Type 0
Judged n m o control_room property_room a = (r : Reading) → Counts r n m o → a ≡ answer_of (fit control_room property_room (some r))

-- there is room for its rows
pub record Roomy (cs ps : List ℕ) (r : Reading) : Type 0 where
  pub controls : length r.controls * control_width ≤ length cs
  pub properties : length (properties r) * property_width ≤ length ps

-- both slices with its rows in them
pub record Written (r : Reading) (cs ps cs' ps' : List ℕ) : Type 0 where
  pub controls : cs' ≡ written (control_rows r) cs
  pub properties : ps' ≡ written (property_rows r) ps

-- what a reading, or none, comes to in the slices' room
abbrev pub fit_in : Option Reading → List ℕ → List ℕ → Outcome
fit_in o cs ps = fit (room control_width cs) (room property_width ps) o

-- all that a caller sees is that outcome's
abbrev pub Exits : Option Reading → List ℕ → List ℕ → Answer → List ℕ → List ℕ → Type 0
Exits o cs ps a cs' ps' = ◌≡◌ {A = Exit} (record { answer = a; controls = cs'; properties = ps' }) (exit_by_lem (fit_in o cs ps) cs ps)
