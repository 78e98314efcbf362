-- What the functions that take an Access 2000 stream's records off a room ask and do.
use Rattle.std.specs.Prelude.{ℕ, ◌+◌, ◌-◌, ◌≤◌, ◌<◌, ◌≡◌, true, List, length}
use Rattle.rules.specs.Bytes.{u16}
use Rattle.rules.specs.Answer.{longest}
use Rattle.rules.specs.CodeTable.{well_formed_lem}
use Rattle.rules.specs.Tree.{node_in, no_parent}
use Rattle.rules.specs.Access2000.{Prop, run_at, stream_of}
use Rattle.rules.specs.Read2000.{control_of, read2000}
use Rattle.rows.specs.Acts.{Held}
use Rattle.coderows.specs.Look.{Sorted, body_rows}
use Rattle.coderows.specs.declared.Body.{Body}
use Rattle.names.specs.Lookup.{Lent}
use Rattle.run2000.specs.Runs.{shown_in}
use Rattle.shown2000.specs.Next.{Given}
use Rattle.form2000.specs.Acts.{top_at}
use Rattle.cursor.specs.Work.{Ran}
use Rattle.csvwalk.specs.Needs.{sheet_need, records_left, controls_left, node_need}
use Rattle.csv2000.specs.declared.Left.{Left}

-- ---- a run: it could be read, the rows of its scope ascend, and the names are lent
pub record RunReady (t : List ℕ) (body : Body) (s : List ℕ) (at : ℕ) (index letters : List ℕ) : Type 0 where
  pub small : length s ≤ longest
  pub sorted : Sorted (body_rows t body)
  pub there : Held (λ _. Unit {0}) (run_at s at)
  pub lent : Lent index letters

abbrev pub RunDone : (t : List ℕ) → Body → (s : List ℕ) → ℕ → ℕ → ℕ → Left → Type 0
RunDone t body s at owner all r = Ran (records_left s (shown_in (body_rows t body) s) owner) (run_at s at) all r.left r.at

-- ---- an entry without its list
pub record NodeReady (t s : List ℕ) (at : ℕ) (index letters : List ℕ) : Type 0 where
  pub known : Given t s
  pub inside : at + 1 < length s
  pub there : Held (λ _. Unit {0}) (run_at s (at + 2))
  pub lent : Lent index letters

-- after it as control n, wherever it stands in the tree
abbrev pub node_left : List ℕ → List ℕ → ℕ → ℕ → List Prop → ℕ → ℕ
node_left t s n type ps all = all - node_need s (control_of t s) n (node_in 0 no_parent type ps)

abbrev pub NodeDone : (t s : List ℕ) → ℕ → ℕ → ℕ → Left → Type 0
NodeDone t s at n all r = Ran (node_left t s n (u16 s at)) (run_at s (at + 2)) all r.left r.at

-- ---- the top list
pub record TopReady (t s : List ℕ) (n at : ℕ) (index letters : List ℕ) : Type 0 where
  pub known : Given t s
  pub few : Held (λ x. length x.0 ≤ longest) (top_at s n at)
  pub lent : Lent index letters

pub record TopDone (t s : List ℕ) (n at all r : ℕ) : Type 0 where
  pub next : ℕ
  pub is : Ran (controls_left s (control_of t s) 0) (top_at s n at) all r next

-- ---- the whole stream
pub record StreamReady (t s index letters : List ℕ) : Type 0 where
  pub formed : well_formed_lem t ≡ true
  pub small : length s ≤ longest
  pub there : Held (λ _. Unit {0}) (stream_of s)
  pub lent : Lent index letters

pub record StreamDone (t s : List ℕ) (all r : ℕ) : Type 0 where
  pub is : Held (λ x. r ≡ all - sheet_need s (read2000 t s x)) (stream_of s)
