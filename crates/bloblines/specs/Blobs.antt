-- The listing of a larger Blob: the bytes that `bloblist` prints. The lines are those of `formlist`.
use Rattle.std.specs.Prelude.{ℕ, ◌+◌, cond, List, ltb, length}
use Rattle.rules.specs.Answer.{refusal, too_long_lem, bad_table}
use Rattle.rules.specs.Rows.{control_width, property_width, room}
use Rattle.rules.specs.Blob.{outcome}
use Rattle.rules.specs.Listing.{answer_line, printed, table_length, table_in, blob_in}
use Rattle.listing.specs.Bound.{longest_lines}

-- the longest Blob that is listed, and how many controls and properties there is room for
abbrev pub longest_blob : ℕ
longest_blob = 4194304

abbrev pub control_room : ℕ
control_room = 16384

abbrev pub property_room : ℕ
property_room = 262144

-- as `formlist` says its input: the length of the code table, the code table, a Blob; by how many rows there is room for
unfoldable pub blob_listed : List ℕ → ℕ → ℕ → List ℕ
blob_listed input controls properties =
    cond (ltb (length input) 4) (answer_line (refusal bad_table))
    (cond (ltb (length input) (4 + table_length input)) (answer_line (refusal bad_table))
    (cond (ltb longest_blob (length (blob_in input))) (answer_line (refusal too_long_lem))
    (printed (blob_in input) (outcome (table_in input) (blob_in input) controls properties))))

-- a code table of up to 65,536 bytes always has room beside a Blob
abbrev pub longest_input : ℕ
longest_input = 4 + 65536 + longest_blob

unfoldable pub blob_listing : List ℕ → List ℕ
blob_listing input = cond (ltb longest_input (length input)) (answer_line (refusal too_long_lem)) (blob_listed input control_room property_room)

-- ---- by the slices lent for controls and properties
abbrev pub lines_in : List ℕ → List ℕ → List ℕ → List ℕ → List ℕ
lines_in table stream controls properties = printed stream (outcome table stream (room control_width controls) (room property_width properties))

abbrev pub listed_in_lem : List ℕ → List ℕ → List ℕ → List ℕ
listed_in_lem input controls properties = blob_listed input (room control_width controls) (room property_width properties)

abbrev pub most_in : List ℕ → List ℕ → ℕ
most_in controls properties = longest_lines (room control_width controls) (room property_width properties)
