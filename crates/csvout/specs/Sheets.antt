-- What is printed for an input: the line of the answer, and after it the comma-separated text.
use Rattle.std.specs.Prelude.{ℕ, ◌+◌, ◌≡◌, Bool, cond, List, ◌++◌, ltb, eqb, length}
use Rattle.rules.specs.Answer.{answer, refusal, too_long_lem, bad_table, no_room_for_sheet}
use Rattle.rules.specs.Blob.{Outcome, refused, read, outcome}
use Rattle.rules.specs.Csv.{csv_of}
use Rattle.rules.specs.Listing.{answer_line, table_length, table_in, blob_in}
use Rattle.inputs.specs.Begun.{Begun}

-- the longest Blob that is written, for how many controls and properties there is room, and for how many bytes of text
abbrev pub longest_blob : ℕ
longest_blob = 4194304

abbrev pub control_room : ℕ
control_room = 16384

abbrev pub property_room : ℕ
property_room = 262144

abbrev pub text_room : ℕ
text_room = 33554432

-- a refusal is its line alone, the 13 of a text without room too
abbrev pub sheet_by : List ℕ → Outcome → List ℕ
sheet_by stream (refused a) = answer_line a
sheet_by stream (read r) =
    cond (ltb text_room (length (csv_of stream r))) (answer_line (refusal no_room_for_sheet))
    (answer_line (answer 0 (length (csv_of stream r)) 0 0) ++ csv_of stream r)

-- the input is the length of the code table, the code table, a Blob
unfoldable pub sheet_in : List ℕ → List ℕ
sheet_in input =
    cond (ltb (length input) 4) (answer_line (refusal bad_table))
    (cond (ltb (length input) (4 + table_length input)) (answer_line (refusal bad_table))
    (cond (ltb longest_blob (length (blob_in input))) (answer_line (refusal too_long_lem))
    (sheet_by (blob_in input) (outcome (table_in input) (blob_in input) control_room property_room))))

-- a code table of up to 65,536 bytes always has room beside a Blob
abbrev pub longest_input : ℕ
longest_input = 4 + 65536 + longest_blob

unfoldable pub sheet_for : List ℕ → List ℕ
sheet_for input = cond (ltb longest_input (length input)) (answer_line (refusal too_long_lem)) (sheet_in input)

-- ---- by what was read of the input
-- all that it may have been comes to this refusal
abbrev pub Refused : List ℕ → Bool → ℕ → Type 0
Refused input more number = (whole : List ℕ) → Begun input more whole → sheet_for whole ≡ answer_line (refusal number)

-- how many bytes of text an answer says were written, by its number and its first count: a refusal's counts are others
unfoldable pub text_size : ℕ → ℕ → ℕ
text_size number first = cond (eqb number 0) first 0

-- the parts of an input that isn't refused for its lengths
pub record Parted (input table stream : List ℕ) : Type 0 where
  pub is : sheet_for input ≡ sheet_by stream (outcome table stream control_room property_room)
