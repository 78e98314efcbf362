-- How long the listing can be: the longest line of each kind, and as many of them as there is room for.
use Rattle.std.specs.Prelude.{ℕ, ◌+◌, ◌*◌, max, [], ◌∷◌, length}
use Rattle.rules.specs.Lists.{text}
use Rattle.rules.specs.NameTables.{Table, text_names, number_names, bytes_names, control_type_names}

-- ---- fields
-- the longest name of a table; one that is missing is `-`
unfoldable pub longest_in : Table → ℕ
longest_in [] = 1
longest_in (row ∷ table) = max (length (text row.1)) (longest_in table)

unfoldable pub longest_type : ℕ
longest_type = longest_in control_type_names

unfoldable pub longest_name : ℕ
longest_name = max (longest_in text_names) (max (longest_in number_names) (longest_in bytes_names))

-- a number of 32 bits in decimal
abbrev pub longest_number : ℕ
longest_number = 10

-- `notdefault`, and GUID text
abbrev pub longest_word : ℕ
longest_word = 10

abbrev pub longest_value : ℕ
longest_value = 38

-- ---- lines: each field with the blank or LF after it
abbrev pub longest_answer : ℕ
longest_answer = 6 + 1 + 4 * (longest_number + 1)

-- the bytes of a loose name have a `b` after their number
abbrev pub longest_control : ℕ
longest_control = 1 + 1 + (longest_number + 1) + (4 + 1) + (longest_type + 1) + (longest_number + 1 + 1) + 4 * (longest_number + 1)

abbrev pub longest_property : ℕ
longest_property = 1 + 1 + (longest_number + 1) + (4 + 1) + (longest_name + 1) + (longest_word + 1) + (longest_value + 1)

-- ---- the whole, with so many controls and properties
abbrev pub longest_lines : ℕ → ℕ → ℕ
longest_lines controls properties = longest_answer + (controls * longest_control + properties * longest_property)

-- in the room of document 01's program
unfoldable pub longest_listing : ℕ
longest_listing = longest_lines 256 1024
