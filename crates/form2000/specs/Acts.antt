-- What the functions that write an Access 2000 reading ask and do.
use Rattle.std.specs.Prelude.{ℕ, ◌≤◌, ◌≡◌, true, List, length}
use Rattle.std.proofs.Math.Option.{some}
use Rattle.rules.specs.Answer.{longest}
use Rattle.rules.specs.CodeTable.{well_formed_lem}
use Rattle.rules.specs.Tree.{levels}
use Rattle.rules.specs.Access2000.{Prop, entries_at, stream_of}
use Rattle.rules.specs.Read2000.{read2000}
use Rattle.rules.specs.Blob.{read_by}
use Rattle.rules.specs.declared.Answer.{Answer}
use Rattle.rows.specs.Acts.{Nodes, top_nodes, Held, state_at, stood_at}
use Rattle.rows.specs.Judge.{Roomy, Written, Exits}
use Rattle.rows.specs.declared.Next.{Next}
use Rattle.node2000.specs.Nodes.{act, NodesReady}

-- ---- the top list
-- what is reported of n entries from p on
abbrev pub top_at : List ℕ → ℕ → ℕ → Nodes Prop
top_at s n p = top_nodes (entries_at levels s n p)

-- it could be read, and its rows fit from the first control row on
pub record TopReady (t scopes s : List ℕ) (n : ℕ) (controls rows : List ℕ) (start : Next) : Type 0 where
  pub ready : NodesReady t scopes s (top_at s n start.at) (state_at controls rows start)
  pub first : start.control ≡ 0

-- at exit its rows are written, and r stands after it
abbrev pub TopDone : (t s : List ℕ) → ℕ → (controls rows : List ℕ) → Next → (controls' rows' : List ℕ) → Next → Type 0
TopDone t s n controls rows start controls' rows' r = some (stood_at controls' rows' r) ≡ act t s (top_at s n start.at) (state_at controls rows start)

-- ---- the whole stream
pub record StreamReady (t s controls rows : List ℕ) : Type 0 where
  pub formed : well_formed_lem t ≡ true
  pub small : length s ≤ longest
  pub fits : Held (λ x. Roomy controls rows (read2000 t s x)) (stream_of s)

abbrev pub StreamDone : List ℕ → List ℕ → List ℕ → List ℕ → List ℕ → List ℕ → Type 0
StreamDone t s controls rows controls' rows' = Held (λ x. Written (read2000 t s x) controls rows controls' rows') (stream_of s)

pub record ReadReady (t s : List ℕ) : Type 0 where
  pub formed : well_formed_lem t ≡ true
  pub small : length s ≤ longest

-- all that a caller sees is what the reading comes to
abbrev pub Reads : (t s controls rows : List ℕ) → Answer → (controls' rows' : List ℕ) → Type 0
Reads t s controls rows a controls' rows' = Exits (read_by t s (stream_of s)) controls rows a controls' rows'
