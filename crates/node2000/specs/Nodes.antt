-- What the functions that write the entries of an Access 2000 stream ask and do, and an entry without its list.
use Rattle.std.specs.Prelude.{ℕ, ◌+◌, ◌≤◌, ◌≡◌, true, List, [], ◌∷◌, length}
use Rattle.std.proofs.Math.Option.{Option, some}
use Rattle.rules.specs.Lists.{◌>>=◌}
use Rattle.rules.specs.Bytes.{half_at_lem}
use Rattle.rules.specs.Answer.{longest}
use Rattle.rules.specs.CodeTable.{well_formed_lem}
use Rattle.rules.specs.Tree.{node_in}
use Rattle.rules.specs.Access2000.{Prop, run_at}
use Rattle.rules.specs.Read2000.{control_of}
use Rattle.rows.specs.Writing.{State}
use Rattle.rows.specs.Acts.{Nodes, Stood, state_at, stood_at, act_by, Ready}
use Rattle.rows.specs.declared.Next.{Next}
use Rattle.rows.specs.declared.Nesting.{Nesting}
use Rattle.coderows.specs.Look.{Listed}

-- an entry without its list, by where it stands in the tree
unfoldable pub node_at : Nesting → List ℕ → ℕ → Nodes Prop
node_at nesting s p = do
  type ← half_at_lem s p
  (props, q) ← run_at s (p + 2)
  some (node_in nesting.level nesting.parent type props ∷ [], q)

abbrev pub act : List ℕ → List ℕ → Nodes Prop → State → Option Stood
act t s o st = act_by (control_of t s) o st

-- what is known of the table, the list of its scopes and the stream beforehand
pub record Given (t scopes s : List ℕ) : Type 0 where
  pub formed : well_formed_lem t ≡ true
  pub listed : Listed t scopes
  pub small : length s ≤ longest

abbrev pub NodesReady : List ℕ → List ℕ → List ℕ → Nodes Prop → State → Type 0
NodesReady t scopes s o st = Ready (Given t scopes s) (control_of t s) o st

-- the entry at a cursor could be read, and its rows fit from there on
pub record NodeReady (t scopes s controls rows : List ℕ) (from : Next) (nesting : Nesting) : Type 0 where
  pub ready : NodesReady t scopes s (node_at nesting s from.at) (state_at controls rows from)

-- at exit its rows are written, and r stands after its run
abbrev pub NodeDone : (t s controls rows : List ℕ) → Next → Nesting → (controls' rows' : List ℕ) → Next → Type 0
NodeDone t s controls rows from nesting controls' rows' r = some (stood_at controls' rows' r) ≡ act t s (node_at nesting s from.at) (state_at controls rows from)
