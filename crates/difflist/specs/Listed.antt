-- What is printed for two code tables and a stream: the line of the answer, then that of the newer table's reading with the lines of the differences, or why there are none to tell.
use Rattle.std.specs.Prelude.{ℕ, ◌+◌, ◌*◌, ◌≤◌, ◌≡◌, cond, List, [], ◌++◌, ltb, eqb, length, take}
use Rattle.rules.specs.Answer.{refusal, bad_table, no_successor, longest}
use Rattle.rules.specs.Rows.{control_width, property_width, difference_width, room}
use Rattle.rules.specs.Blob.{Exit, exit}
use Rattle.rules.specs.Differences.{DifferencesExit, differences_exit}
use Rattle.rules.specs.Listing.{answer_line, table_length, table_in, blob_in}
use Rattle.listing.specs.Shown.{lines_to}
use Rattle.inputs.specs.Lent.{zeros}
use Rattle.difflist.specs.Lines.{difference_line, why_not}

-- ---- of two tables and a stream
-- a line for each difference, where the newer table's reading has room: its answer is 6 or 7 where not
unfoldable pub named : DifferencesExit → Exit → List ℕ
named d e =
    answer_line e.answer
    ++ cond (eqb e.answer.number 0) (lines_to (difference_line e.controls) difference_width d.answer.first d.rows) []

unfoldable pub said_by : List ℕ → List ℕ → DifferencesExit → Exit → List ℕ
said_by older newer d e =
    answer_line d.answer
    ++ cond (eqb d.answer.number no_successor) (why_not older newer)
    (cond (eqb d.answer.number 0) (named d e) [])

unfoldable pub said : List ℕ → List ℕ → List ℕ → List ℕ → List ℕ → List ℕ → List ℕ
said older newer s rows controls properties = said_by older newer (differences_exit older newer s rows) (exit newer s controls properties)

-- ---- of an input: the length of the older table, that table, the length of the newer, that table, a Blob
-- what is said of a table after its length, and of what follows it; an input that is too short for its table is refused as a bad table
unfoldable pub after_length : (List ℕ → List ℕ → List ℕ) → List ℕ → List ℕ
after_length say input =
    cond (ltb (length input) 4) (answer_line (refusal bad_table))
    (cond (ltb (length input) (4 + table_length input)) (answer_line (refusal bad_table))
    (say (table_in input) (blob_in input)))

-- a table after its length, and what follows it
pub record Cut (input table rest : List ℕ) : Type 0 where
  pub whole : 4 + table_length input ≤ length input
  pub table_is : table ≡ table_in input
  pub rest_is : rest ≡ blob_in input

abbrev pub listed_after : List ℕ → List ℕ → List ℕ → List ℕ → List ℕ → List ℕ
listed_after older rest rows controls properties = after_length (λ newer s. said older newer s rows controls properties) rest

abbrev pub listed : List ℕ → List ℕ → List ℕ → List ℕ → List ℕ
listed input rows controls properties = after_length (λ older rest. listed_after older rest rows controls properties) input

-- ---- the words that are lent: zeros
-- room for every Blob in an input under 16,384 bytes
abbrev pub small_rows : ℕ
small_rows = 16384 * difference_width

abbrev pub small_controls : ℕ
small_controls = 5461 * control_width

abbrev pub small_properties : ℕ
small_properties = 16384 * property_width

-- for a longer one
abbrev pub large_rows : ℕ
large_rows = 131072 * difference_width

abbrev pub large_controls : ℕ
large_controls = 16384 * control_width

abbrev pub large_properties : ℕ
large_properties = 262144 * property_width

unfoldable pub lent_for : List ℕ → ℕ → ℕ → List ℕ
lent_for input small large = cond (ltb (length input) 16384) (zeros small) (zeros large)

unfoldable pub listed_in_lem : List ℕ → List ℕ
listed_in_lem input = listed input (lent_for input small_rows large_rows) (lent_for input small_controls large_controls) (lent_for input small_properties large_properties)

-- so many bytes are read: with two tables of 65,536 bytes, one more than the longest stream has, so that a longer one is answered 5 whatever comes after it
abbrev pub most_read : ℕ
most_read = 8 + 2 * 65536 + longest + 1

unfoldable pub listed_of : List ℕ → List ℕ
listed_of input = listed_in_lem (take most_read input)

-- ---- how long it is: two answers of 51 bytes, why not in 131, a difference in 156
abbrev pub said_for : ℕ → ℕ
said_for differences = 233 + differences * 156

unfoldable pub most_said : List ℕ → ℕ
most_said rows = said_for (room difference_width rows)

abbrev pub small_said : ℕ
small_said = said_for 16384

abbrev pub large_said : ℕ
large_said = said_for 131072

-- ---- what is asked before
pub record Ready (input rows controls properties out : List ℕ) : Type 0 where
  pub short : length input ≤ most_read
  pub for_rows : lent_for input small_rows large_rows ≡ rows
  pub for_controls : lent_for input small_controls large_controls ≡ controls
  pub for_properties : lent_for input small_properties large_properties ≡ properties
  pub for_lines : most_said rows ≤ length out
