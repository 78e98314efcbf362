-- The code table that a text says, and what a caller has when it is made.
use Rattle.std.specs.Prelude.{ℕ, ◌≤◌, ◌<◌, ◌≡◌, Result, Ok, Err, Bool, true, false, cond, ltb, eqb, length, drop}
use mathlib.Core.List.{List, [], ◌∷◌, ◌++◌, map, Memᴰ}
use Rattle.rules.specs.CodeTable as table
use Rattle.rules.specs.Lists.{concat}
use Rattle.rules.specs.Bytes.{two_bytes_lem}
use Rattle.rules.specs.Join.{tie_bytes, scope_bytes, table_bytes}
use Rattle.tablelines.specs.Faults.{long_text, no_room_lem, number_lem}
use Rattle.tablelines.specs.Items.{Item, Nothing, Layout, Header, Scope, Row, Bad, items_of}
use Rattle.tablemaking.specs.Judged.{Judged, judged}
use Rattle.tablemaking.specs.declared.Refusal.{Refusal}

-- ---- what a line adds to the table
-- a header code, a scope, a row, or none of these
unfoldable pub by_part_lem : {A : Type 0} → A → (ℕ → A) → (ℕ → ℕ → A) → (ℕ → ℕ → ℕ → A) → Item → A
by_part_lem none header scope row Nothing = none
by_part_lem none header scope row (Layout byte) = none
by_part_lem none header scope row (Header code) = header code
by_part_lem none header scope row (Scope kind code) = scope kind code
by_part_lem none header scope row (Row id target kind) = row id target kind
by_part_lem none header scope row (Bad error) = none

abbrev pub on_header : {A : Type 0} → A → (ℕ → A) → Item → A
on_header none f = by_part_lem none f (λ kind code. none) (λ id target kind. none)

abbrev pub on_scope : {A : Type 0} → A → (ℕ → ℕ → A) → Item → A
on_scope none f = by_part_lem none (λ code. none) f (λ id target kind. none)

abbrev pub on_row : {A : Type 0} → A → (ℕ → ℕ → ℕ → A) → Item → A
on_row none f = by_part_lem none (λ code. none) (λ kind code. none) f

abbrev pub tie : ℕ → ℕ → ℕ → table.Tie
tie id target kind = record { id = id; target = target; kind = kind }

-- ---- what the lines say together
-- the header codes, in their order
unfoldable pub headers_of : List Item → List ℕ
headers_of [] = []
headers_of (item ∷ items) = on_header (headers_of items) (λ code. code ∷ headers_of items) item

-- the rows above the next scope
unfoldable pub rows_of : List Item → List table.Tie
rows_of [] = []
rows_of (item ∷ items) = by_part_lem (rows_of items) (λ code. rows_of items) (λ kind code. []) (λ id target kind. tie id target kind ∷ rows_of items) item

-- each scope, with the rows that stand below it
unfoldable pub scopes_of : List Item → List table.Scope
scopes_of [] = []
scopes_of (item ∷ items) = on_scope (scopes_of items) (λ kind code. record { kind = kind; code = code; rows = rows_of items } ∷ scopes_of items) item

-- the table's bytes
unfoldable pub table_said : List ℕ → List ℕ
table_said s = table_bytes (judged s).layout (headers_of (items_of s)) (scopes_of (items_of s))

-- ---- what a caller has then
-- a longer text isn't read
abbrev pub longest_text : ℕ
longest_text = 2097152

-- the size of the table, or the line that is refused and why; `error` is 0 where nothing is wrong
pub record Made : Type 0 where
  pub error : ℕ
  pub line : ℕ
  pub size : ℕ

pub record MadeExit : Type 0 where
  pub made : Made
  pub out : List ℕ

-- a refusal names the line, 0 for the text as a whole, and writes nothing
abbrev pub refused_with : ℕ → ℕ → Made
refused_with error line = record { error = error; line = line; size = 0 }

abbrev pub refused : ℕ → ℕ → List ℕ → MadeExit
refused error line out = record { made = refused_with error line; out = out }

-- the table stands at the buffer's start; what stands after it stays
abbrev pub written : List ℕ → List ℕ → MadeExit
written t out = record { made = record { error = 0; line = 0; size = length t }; out = t ++ drop (length t) out }

unfoldable pub make_exit : List ℕ → List ℕ → MadeExit
make_exit s out =
    cond (ltb longest_text (length s)) (refused long_text 0 out)
    (cond (eqb (judged s).error 0)
    (cond (ltb (length out) (length (table_said s))) (refused no_room_lem 0 out) (written (table_said s) out))
    (refused (judged s).error (judged s).line out))

-- a call's result, and the buffer at its end
pub record MadeAs (exit : MadeExit) (r : Made) (new : List ℕ) : Type 0 where
  pub made : r ≡ exit.made
  pub out : new ≡ exit.out

-- ---- the table's parts, as they are written: line by line
unfoldable pub code_bytes : Item → List ℕ
code_bytes = on_header [] two_bytes_lem

unfoldable pub row_bytes : Item → List ℕ
row_bytes = on_row [] (λ id target kind. tie_bytes (tie id target kind))

unfoldable pub is_scope : Item → Bool
is_scope = on_scope false (λ kind code. true)

unfoldable pub rows_in_lem : Item → ℕ
rows_in_lem = on_row 0 (λ id target kind. 1)

-- a scope's place in the contents, with the lines below it
unfoldable pub scope_said : Item → List Item → List ℕ
scope_said item items = on_scope [] (λ kind code. scope_bytes (record { kind = kind; code = code; rows = rows_of items })) item

-- a line's part of the bodies, or of the header codes
unfoldable pub part_bytes_lem : Bool → Item → List ℕ
part_bytes_lem bodies item = cond bodies (row_bytes item) (code_bytes item)

unfoldable pub parts_said : Bool → List Item → List ℕ
parts_said bodies items = concat (map (part_bytes_lem bodies) items)

unfoldable pub scopes_said : List Item → List ℕ
scopes_said [] = []
scopes_said (item ∷ items) = scope_said item items ++ scopes_said items

-- a row count has two bytes
abbrev pub FewRows : List Item → Type 0
FewRows items = (s : table.Scope) → Memᴰ s (scopes_of items) → length s.rows < 65536

-- ---- what the code hands on
abbrev pub made_lem : Result ℕ Refusal → Made
made_lem (Ok size) = record { error = 0; line = 0; size = size }
made_lem (Err refusal) = refused_with (number_lem refusal.fault) refusal.line

-- the rows that a line is
pub record CountsRows (item : Item) (r : ℕ) : Type 0 where
  pub is : r ≡ rows_in_lem item
  pub small : r ≤ 1

-- a text whose lines, from some place on, can be written as scopes
pub record ScopesReady (s : List ℕ) (items : List Item) : Type 0 where
  pub short : length s ≤ longest_text
  pub few : FewRows items

-- a text that was judged and is taken
pub record TakenAs (s : List ℕ) (j : Judged) : Type 0 where
  pub short : length s ≤ longest_text
  pub is : j ≡ judged s
  pub taken : j.error ≡ 0
