-- What is printed of the text on standard input: the line with the table's size and the table's bytes, or the line that is refused and why.
use Rattle.std.specs.Prelude.{ℕ, ◌≤◌, ◌<◌, ◌≡◌, cond, List, ◌++◌, ltb, eqb, length}
use Rattle.tablemaking.specs.Judged.{judged}
use Rattle.tablelines.specs.Faults.{long_text}
use Rattle.tablemaking.specs.Made.{table_said, longest_text}
use Rattle.tablewhy.specs.Why.{size_text, why_text}

unfoldable pub printed : List ℕ → List ℕ
printed s =
    cond (ltb longest_text (length s)) (why_text long_text 0)
    (cond (eqb (judged s).error 0)
    (size_text (length (table_said s)) ++ table_said s)
    (why_text (judged s).error (judged s).line))

-- room for any table, for any line, and to read more than any text has
pub record MakeReady (out line : List ℕ) (room : ℕ) : Type 0 where
  pub table-room : length out ≡ 65100
  pub line-room : 128 ≤ length line
  pub all_read : longest_text < room
