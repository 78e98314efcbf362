-- What is shown of a table.
use Rattle.std.specs.Prelude.{ℕ, ◌≤◌, ◌<◌, cond, List, length}
use Rattle.rules.specs.CodeTable.{well_formed_lem}
use Rattle.tabletext.specs.Text.{table_text}
use Rattle.text.specs.Writer.{Wrote}
use Rattle.tablebreak.specs.Rules.{longest, break_of}
use Rattle.tablewords.specs.Words.{break_text}

-- its text, or where it breaks which rule
unfoldable pub shown_text : List ℕ → List ℕ
shown_text t = cond (well_formed_lem t) (table_text t) (break_text (break_of t))

-- a text has at most so many bytes; the line of a rule has fewer
abbrev pub longest_shown : ℕ
longest_shown = 731386

-- it was written into a buffer from its start on
pub record ShownIn (old t new : List ℕ) (r : ℕ) : Type 0 where
  pub wrote : Wrote old 0 (shown_text t) new r
  pub short : length (shown_text t) ≤ longest_shown

-- room to read more than any table has, and for all that can be shown
pub record ShowReady (input out : List ℕ) : Type 0 where
  pub all_read : longest < length input
  pub room : longest_shown ≤ length out
