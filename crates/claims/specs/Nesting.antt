-- Wish 1 of document 02. "Our panel layout puts a control inside its option group or tab page, and the rows don't say which. Please widen the control row to eight
-- words: after the present six, the level below the reported top entry (0 for it) and the row number of the parent, 0xFFFFFFFF at level 0. Scanned controls are
-- all level 0." What a caller sees of both words on answer 0. (That the level of each row is that of the item which the bytes spell says `RowChecks.items`, and of a
-- later tree `LaterTree.judges`.)
use Rattle.std.specs.Prelude.{ℕ, zero, suc, ◌+◌, ◌-◌, ◌≤◌, ◌<◌, ◌≡◌, true, false, cond, List, eqb, length, get_or, drop}
use Rattle.rules.specs.Bytes.{Bytes}
use Rattle.rules.specs.Tree.{no_parent}
use Rattle.rules.specs.Blob.{Exit, is2000, exit, exit2000, exit_later}
use Rattle.claims.specs.Grammar.{Stream, ◌spells◌}
use Rattle.claims.specs.LaterGrammar.{Stream as LaterStream, ◌spells◌ as ◌spellsLater◌}
use Rattle.claims.specs.Shown.{list_rows, shown}
use Rattle.claims.specs.LaterShown as later
use Rattle.claims.specs.LaterTree.{Spelled}
use Rattle.claims.specs.RowChecks.{level, parent_row}

-- ---- parents, by the levels alone
-- the last of the rows before row n that has level l; 0xFFFFFFFF if none has it
unfoldable pub last_before : (ℕ → ℕ) → ℕ → ℕ → ℕ
last_before levels l zero = no_parent
last_before levels l (suc n) = cond (eqb (levels n) l) n (last_before levels l n)

-- what whoever doubts the parent word of row i computes from the levels
abbrev pub parent_by : (ℕ → ℕ) → ℕ → ℕ
parent_by levels i = cond (eqb (levels i) 0) no_parent (last_before levels (levels i - 1) i)

-- row p is the last row before row i that has the level one less
pub record ParentOf (seen : Exit) (i p : ℕ) : Type 0 where
  pub before : p < i
  pub one_less : level seen p + 1 ≡ level seen i
  pub last : (j : ℕ) → p < j → j < i → ¬ (level seen j + 1 ≡ level seen i)

pub record Nested (seen : Exit) : Type 0 where
  -- row 0 has level 0
  pub first-row : 0 < seen.answer.first → level seen 0 ≡ 0
  -- a row is at most one level deeper than the row before it
  pub one_deeper : (i : ℕ) → i + 1 < seen.answer.first → level seen (i + 1) ≤ level seen i + 1
  -- no level is above 255
  pub deepest : (i : ℕ) → i < seen.answer.first → level seen i ≤ 255
  -- "0xFFFFFFFF at level 0"
  pub no-parent : (i : ℕ) → i < seen.answer.first → level seen i ≡ 0 → parent_row seen i ≡ 0xFFFFFFFF
  -- a row at level L > 0 has as parent the last row before it with level L − 1
  pub a_parent : (i : ℕ) → i < seen.answer.first → 0 < level seen i → ParentOf seen i (parent_row seen i)
  -- so whoever doubts the parent words can compute them from the levels
  pub by-levels : (i : ℕ) → i < seen.answer.first → parent_row seen i ≡ parent_by (level seen) i

-- ---- lists: the rows between an entry and the end of its list are exactly those with a higher level that follow it. That is: the rows right after it, up to
-- the first whose level isn't higher
-- the list of row i takes the m rows after it
pub record ListOf (seen : Exit) (i m : ℕ) : Type 0 where
  -- they are there, and each has a higher level than row i
  pub inside : i + m < seen.answer.first
  pub higher : (j : ℕ) → i < j → j ≤ i + m → level seen i < level seen j
  -- the row after them, if there is one, hasn't
  pub over : i + m + 1 < seen.answer.first → level seen (i + m + 1) ≤ level seen i

-- `rows` has for each row how many rows its list takes
pub record Lists (rows : List ℕ) (seen : Exit) : Type 0 where
  pub a_row-each : length rows ≡ seen.answer.first
  pub lists : (i : ℕ) → i < seen.answer.first → ListOf seen i (get_or rows i 0)

-- of an Access 2000 stream, by what its bytes spell
abbrev pub Lists2000 : List ℕ → Exit → Type 0
Lists2000 stream seen = (t : Stream) → drop 10 stream spells t → Lists (list_rows (shown t.list)) seen

-- of a later stream, whose bytes spell a tree or nothing
pub record ListsLater (stream : List ℕ) (seen : Exit) : Type 0 where
  pub tree : (t : LaterStream) → drop 14 stream spellsLater t → Lists (later.list_rows (later.shown t.top)) seen
  -- "Scanned controls are all level 0."
  pub scan : ¬ Spelled stream → (i : ℕ) → i < seen.answer.first → (level seen i ≡ 0) × (parent_row seen i ≡ 0xFFFFFFFF)

-- ---- on answer 0, for every table, stream and room. (`Bytes`: of a list of bytes, which every stream that is lent to a call is. `Calls.antt` says it of calls
-- without asking that)
pub record Nesting : Type 0 where
  pub nested : (table stream controls properties : List ℕ) → (exit table stream controls properties).answer.number ≡ 0
      → Nested (exit table stream controls properties)
  pub lists_2000 : (table stream controls properties : List ℕ) → is2000 table stream ≡ true → (exit table stream controls properties).answer.number ≡ 0
      → Lists2000 stream (exit table stream controls properties)
  pub lists-later : (table stream controls properties : List ℕ) → Bytes stream → is2000 table stream ≡ false → (exit table stream controls properties).answer.number ≡ 0
      → ListsLater stream (exit table stream controls properties)
  -- and by the reader of each layout
  pub reader_2000 : (table stream controls properties : List ℕ) → (exit2000 table stream controls properties).answer.number ≡ 0
      → Nested (exit2000 table stream controls properties) × Lists2000 stream (exit2000 table stream controls properties)
  pub reader_later : (layoutByte : ℕ) (stream controls properties : List ℕ) → Bytes stream → (exit_later layoutByte stream controls properties).answer.number ≡ 0
      → Nested (exit_later layoutByte stream controls properties) × ListsLater stream (exit_later layoutByte stream controls properties)
