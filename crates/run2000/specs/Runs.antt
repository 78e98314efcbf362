-- What the functions that write a run of an Access 2000 stream ask and do.
use Rattle.std.specs.Prelude.{ℕ, ◌+◌, ◌*◌, ◌≤◌, ◌<◌, ◌≡◌, true, cond, List, map, eqb, length}
use Rattle.std.proofs.Math.Option.{Option, none, some}
use Rattle.rules.specs.Lists.{find}
use Rattle.rules.specs.Bytes.{part}
use Rattle.rules.specs.Utf16.{is_utf16_lem}
use Rattle.rules.specs.Answer.{longest}
use Rattle.rules.specs.CodeTable.{Tie, is_tied}
use Rattle.rules.specs.Access2000.{Prop, run_at}
use Rattle.rules.specs.Rows.{property_width}
use Rattle.rules.specs.Read2000.{shown, name_by_lem}
use Rattle.rules.specs.declared.Name.{Name}
use Rattle.rules.specs.declared.Name.TheVariants.{Text, Numbered}
use Rattle.rules.specs.declared.Property.{Property}
use Rattle.propvalue.specs.Sized.{Sized}
use Rattle.rows.specs.Writing.{write_properties}
use Rattle.rows.specs.Acts.{Held}
use Rattle.coderows.specs.Look.{Sorted, body_rows}
use Rattle.coderows.specs.declared.Body.{Body}
use Rattle.run2000.specs.declared.Naming.{Naming}
use Rattle.run2000.specs.declared.RunRows.{RunRows}
use Rattle.run2000.specs.declared.Stored.{Stored}

-- ---- a property, and a run of them
abbrev pub prop : ℕ → ℕ → ℕ → Prop
prop id start size = record { id = id; start = start; size = size }

abbrev pub prop_of : Stored → Prop
prop_of p = prop p.id p.start p.size

-- a property by the rows of its scope
unfoldable pub shown_in : List Tie → List ℕ → Prop → Property
shown_in ties s q = shown s q (find (is_tied q.id) ties)

-- a value within the stream, as long as its id tells
pub record Sound (s : List ℕ) (id start size : ℕ) : Type 0 where
  pub inside : start + size ≤ length s
  pub sized : Sized id size

-- a value within a stream that isn't too long, as long as its id tells, and the rows that tie its id
pub record Inside (t : List ℕ) (body : Body) (s : List ℕ) (id start size : ℕ) : Type 0 where
  pub small : length s ≤ longest
  pub sorted : Sorted (body_rows t body)
  pub inside : start + size ≤ length s
  pub sized : Sized id size

-- the property rows at exit, the row after the last, and the place after the run
pub record Ran : Type 0 where
  pub rows : List ℕ
  pub row : ℕ
  pub next : ℕ

abbrev pub ran : List ℕ → ℕ → ℕ → Ran
ran rows row next = record { rows = rows; row = row; next = next }

abbrev pub run_act : (Prop → Property) → Option (List Prop × ℕ) → List ℕ → ℕ → Option Ran
run_act f none rows first = none
run_act f (some x) rows first = some (ran (write_properties (map f x.0) rows first) (first + length x.0) x.1)

abbrev pub RunFits : List ℕ → ℕ → List Prop × ℕ → Type 0
RunFits rows first x = (first + length x.0) * property_width ≤ length rows

-- the run at `at` fits from row `first` on, and no id that tells its value's size is wanted
pub record RunReady (t : List ℕ) (body : Body) (s : List ℕ) (at : ℕ) (rows : List ℕ) (first wanted : ℕ) : Type 0 where
  pub small : length s ≤ longest
  pub sorted : Sorted (body_rows t body)
  pub fits : Held (RunFits rows first) (run_at s at)
  pub above : 0xBC < wanted

-- ---- a name
abbrev pub name_at : List ℕ → ℕ → ℕ → Name
name_at s start size = cond (is_utf16_lem (part s start size)) (Text start size) Numbered

abbrev pub name_in_lem : List ℕ → ℕ → Option (List Prop × ℕ) → Name
name_in_lem s id none = Numbered
name_in_lem s id (some x) = name_by_lem s (find (λ q. eqb q.id id) x.0)

-- a value within the stream that is marked as text only where it is UTF-16
pub record NameReady (s : List ℕ) (mark start size : ℕ) : Type 0 where
  pub small : length s ≤ longest
  pub inside : start + size ≤ length s
  pub text : mark ≡ 6 → is_utf16_lem (part s start size) ≡ true

abbrev pub next_name : List ℕ → ℕ → ℕ → ℕ → Naming → Naming
next_name s id start size n = cond (eqb id n.wanted) (record { name = name_at s start size; wanted = 0xFF }) n

abbrev pub run_rows : ℕ → ℕ → Naming → RunRows
run_rows at row n = record { at = at; row = row; name = n.name }

-- at exit the run's rows are written, by the rows of its scope, and its name is that of the first with the id that is wanted
pub record RunDone (t : List ℕ) (body : Body) (s : List ℕ) (at : ℕ) (rows : List ℕ) (first wanted : ℕ) (rows' : List ℕ) (r : RunRows) : Type 0 where
  pub rows_are : some (ran rows' r.row r.at) ≡ run_act (shown_in (body_rows t body) s) (run_at s at) rows first
  pub name-is : r.name ≡ name_in_lem s wanted (run_at s at)
