-- What writing the nodes of a tree does, whatever the layout: `f` makes a control of a node.
use Rattle.std.specs.Prelude.{ℕ, ◌+◌, ◌≤◌, List, ◌++◌, map, length}
use Rattle.std.proofs.Math.Option.{Option, none, some}
use Rattle.rules.specs.Lists.{◌>>=◌}
use Rattle.rules.specs.Answer.{longest}
use Rattle.rules.specs.Tree.{Entries, Node, nodes_of}
use Rattle.rules.specs.Reading.{Control}
use Rattle.rows.specs.Writing.{State, state, theirs, write_controls, Room}
use Rattle.rows.specs.declared.Next.{Next}

-- ---- nodes in output order, and the place after them, of what a reader read
abbrev pub Nodes : Type 0 → Type 0
Nodes P = Option (List (Node P) × ℕ)

-- of the top list, those that are reported
abbrev pub top_nodes : {P : Type 0} → Option (Entries P × ℕ) → Nodes P
top_nodes none = none
top_nodes (some x) = some (nodes_of x.0, x.1)

-- these, and then those from the place after them on
abbrev pub ◌then◌ : {P : Type 0} → Nodes P → (ℕ → Nodes P) → Nodes P
o then g = o >>= λ x. g x.1 >>= λ y. some (x.0 ++ y.0, y.1)

infixl 20 ◌then◌
-- ---- what holds of what was read, where something was
abbrev pub Held : {A : Type 0} → (A → Type 0) → Option A → Type 0
Held P none = ⊥
Held P (some a) = P a

-- there is room for the rows of these controls, and their numbers fit a word
pub record Fit (cs : List Control) (st : State) : Type 0 where
  pub room : Room cs st
  pub few : st.ci + st.pi + (length cs + length (theirs cs)) ≤ longest

-- ---- what is left in the slices, and the place after what was written
pub record Stood : Type 0 where
  pub state : State
  pub next : ℕ

abbrev pub stood : List ℕ → ℕ → List ℕ → ℕ → ℕ → Stood
stood cs ci ps pi next = record { state = state cs ci ps pi; next = next }

-- the same by a writer's cursor
abbrev pub state_at : List ℕ → List ℕ → Next → State
state_at cs ps n = state cs n.control ps n.property

abbrev pub stood_at : List ℕ → List ℕ → Next → Stood
stood_at cs ps n = record { state = state_at cs ps n; next = n.at }

abbrev pub act_by : {P : Type 0} → (Node P → Control) → Nodes P → State → Option Stood
act_by f none st = none
act_by f (some x) st = some (record { state = write_controls (map f x.0) st; next = x.1 })

-- what a writer asks: K, what a layout knows beforehand, and that the nodes could be read and fit
pub record Ready {P : Type 0} (K : Type 0) (f : Node P → Control) (o : Nodes P) (st : State) : Type 0 where
  pub known : K
  pub fits : Held (λ x. Fit (map f x.0) st) o
