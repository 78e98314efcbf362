-- What is printed for a stream that is judged by the rules of panels: the line of the answer, and a line with a control row's type and name.
use Rattle.std.specs.Prelude.{ℕ, ◌+◌, ◌*◌, ◌≤◌, ◌≡◌, cond, List, ◌++◌, ltb, length, take}
use Rattle.rules.specs.Lists.{text}
use Rattle.rules.specs.Answer.{refusal, bad_table, longest}
use Rattle.rules.specs.Rows.{control_width, property_width, row_at}
use Rattle.rules.specs.Blob.{Exit}
use Rattle.rules.specs.Panel.{panel_exit}
use Rattle.rules.specs.Listing.{word, answer_line, table_length, table_in, blob_in}
use Rattle.listing.specs.Numbers.{numbers_line}
use Rattle.inputs.specs.Lent.{zeros}

-- ---- the lines
-- type, mark of the name, where it starts and how many bytes it has
abbrev pub row_line : ℕ → ℕ → ℕ → ℕ → List ℕ
row_line type mark start size = numbers_line (text "control") type mark start size

-- by the words of a row
unfoldable pub row_text : List ℕ → List ℕ
row_text row = row_line (word row 0) (word row 1) (word row 2) (word row 3)

-- the row is the one that the second count names: after a no, that which breaks a rule
unfoldable pub said : Exit → List ℕ
said e = answer_line e.answer ++ row_text (row_at control_width e.answer.second e.controls)

-- the length of the code table, the code table, a Blob; an input that is too short for its table is refused as a bad table
unfoldable pub judged : List ℕ → List ℕ → List ℕ → List ℕ
judged input controls properties =
    cond (ltb (length input) 4) (answer_line (refusal bad_table))
    (cond (ltb (length input) (4 + table_length input)) (answer_line (refusal bad_table))
    (said (panel_exit (table_in input) (blob_in input) controls properties)))

-- ---- the words that are lent: zeros
-- room for every Blob in an input under 16,384 bytes
abbrev pub small_controls : ℕ
small_controls = 5461 * control_width

abbrev pub small_properties : ℕ
small_properties = 16384 * property_width

-- for a longer one
abbrev pub large_controls : ℕ
large_controls = 16384 * control_width

abbrev pub large_properties : ℕ
large_properties = 262144 * property_width

unfoldable pub controls_for : List ℕ → List ℕ
controls_for input = cond (ltb (length input) 16384) (zeros small_controls) (zeros large_controls)

unfoldable pub properties_for : List ℕ → List ℕ
properties_for input = cond (ltb (length input) 16384) (zeros small_properties) (zeros large_properties)

unfoldable pub judged_in : List ℕ → List ℕ
judged_in input = judged input (controls_for input) (properties_for input)

-- so many bytes are read: with a table of 65,536 bytes, one more than the longest stream has, so that a longer one is answered 5 whatever comes after it
abbrev pub most_read : ℕ
most_read = 4 + 65536 + longest + 1

unfoldable pub judged_of : List ℕ → List ℕ
judged_of input = judged_in (take most_read input)

-- how long it is: an answer of 51 bytes, and a row's line of 52
abbrev pub most_said : ℕ
most_said = 103

-- ---- what is asked before
pub record Ready (input controls properties : List ℕ) : Type 0 where
  pub short : length input ≤ most_read
  pub for_controls : controls_for input ≡ controls
  pub for_properties : properties_for input ≡ properties
