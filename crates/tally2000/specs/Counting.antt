-- What the functions that count an Access 2000 stream ask and do.
use Rattle.std.specs.Prelude.{ℕ, ◌+◌, ◌≤◌, ◌<◌, ◌≡◌, true, List, length}
use Rattle.rules.specs.Bytes.{u16}
use Rattle.rules.specs.Answer.{longest}
use Rattle.rules.specs.CodeTable.{well_formed_lem}
use Rattle.rules.specs.Tree.{Node, node_in, no_parent}
use Rattle.rules.specs.Access2000.{Prop, run_at, stream_of}
use Rattle.rules.specs.Read2000.{control_of, read2000}
use Rattle.rules.specs.Blob.{fit, read_by}
use Rattle.rules.specs.declared.Answer.{Answer}
use Rattle.rows.specs.Acts.{Held}
use Rattle.coderows.specs.Look.{Sorted, body_rows}
use Rattle.coderows.specs.declared.Body.{Body}
use Rattle.run2000.specs.Runs.{shown_in}
use Rattle.shown2000.specs.Next.{Given}
use Rattle.form2000.specs.Acts.{top_at}
use Rattle.tally.specs.Places.{bumps, control_places, reading_places, properties_tally, controls_tally, Tallied}
use Rattle.cursor.specs.Work.{Ran}

-- ---- a run: it could be read, and the rows of its scope ascend
pub record RunReady (t : List ℕ) (body : Body) (s : List ℕ) (at : ℕ) : Type 0 where
  pub small : length s ≤ longest
  pub sorted : Sorted (body_rows t body)
  pub there : Held (λ _. Unit {0}) (run_at s at)

abbrev pub run_tally : List ℕ → Body → List ℕ → List Prop → List ℕ → List ℕ
run_tally t body s = properties_tally true (shown_in (body_rows t body) s)

abbrev pub RunDone : (t : List ℕ) → Body → (s : List ℕ) → ℕ → (words words' : List ℕ) → ℕ → Type 0
RunDone t body s at words words' r = Ran (run_tally t body s) (run_at s at) words words' r

-- ---- an entry without its list
pub record NodeReady (t s : List ℕ) (at : ℕ) : Type 0 where
  pub known : Given t s
  pub inside : at + 1 < length s
  pub there : Held (λ _. Unit {0}) (run_at s (at + 2))

-- what is counted of an entry, wherever it stands in the tree
unfoldable pub node_places : List ℕ → List ℕ → ℕ → List Prop → List ℕ
node_places t s type props = control_places true (control_of t s (node_in 0 no_parent type props))

abbrev pub node_tally : List ℕ → List ℕ → ℕ → List Prop → List ℕ → List ℕ
node_tally t s type props words = bumps words (node_places t s type props)

abbrev pub NodeDone : (t s : List ℕ) → ℕ → (words words' : List ℕ) → ℕ → Type 0
NodeDone t s at words words' r = Ran (node_tally t s (u16 s at)) (run_at s (at + 2)) words words' r

-- ---- the top list
pub record TopReady (t s : List ℕ) (n at : ℕ) : Type 0 where
  pub known : Given t s
  pub few : Held (λ x. length x.0 ≤ longest) (top_at s n at)

abbrev pub top_tally : List ℕ → List ℕ → List (Node Prop) → List ℕ → List ℕ
top_tally t s = controls_tally true (control_of t s)

pub record TopDone (t s : List ℕ) (n at : ℕ) (words words' : List ℕ) : Type 0 where
  pub next : ℕ
  pub is : Ran (top_tally t s) (top_at s n at) words words' next

-- ---- the whole stream
pub record StreamReady (t s : List ℕ) : Type 0 where
  pub formed : well_formed_lem t ≡ true
  pub small : length s ≤ longest
  pub there : Held (λ _. Unit {0}) (stream_of s)

pub record StreamDone (t s words words' : List ℕ) : Type 0 where
  pub is : Held (λ x. words' ≡ bumps words (reading_places true (read2000 t s x))) (stream_of s)

-- what is answered in room for so many rows, and what is counted
abbrev pub Counted : (t s : List ℕ) → ℕ → ℕ → List ℕ → Answer → List ℕ → Type 0
Counted t s control_room property_room words a words' = Tallied true (fit control_room property_room (read_by t s (stream_of s))) words a words'
