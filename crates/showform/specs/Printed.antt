-- What is printed for an input: a form, line by line, or the line of a refusal.
use Rattle.std.specs.Prelude.{ℕ, ◌+◌, ◌*◌, ◌≤◌, ◌≡◌, cond, List, ltb, eqb, length, drop}
use Rattle.rules.specs.Bytes.{u32, part}
use Rattle.rules.specs.Answer.{refusal, too_long_lem, bad_table, no_room_for_text}
use Rattle.rules.specs.Rows.{control_width, property_width, type_info_width}
use Rattle.rules.specs.Listing.{answer_line}
use Rattle.inputs.specs.Lent.{zeros}
use Rattle.tabletext.specs.Input.{Began}
use Rattle.showlines.specs.Shown.{shown_blob, shown_paired}

-- the longest Blob and the longest TypeInfo that are read
abbrev pub longest_stream : ℕ
longest_stream = 4194304

-- a code table of up to 65,536 bytes always has room beside both
abbrev pub longest_input : ℕ
longest_input = 4 + 65536 + 4 + 2 * longest_stream

-- ---- the input: the length of the code table, the code table, the length of TypeInfo, TypeInfo, a Blob
abbrev pub info_at : List ℕ → ℕ
info_at input = 4 + u32 input 0

abbrev pub blob_at : List ℕ → ℕ
blob_at input = info_at input + 4 + u32 input (info_at input)

abbrev pub table_in : List ℕ → List ℕ
table_in input = part input 4 (u32 input 0)

abbrev pub info_in : List ℕ → List ℕ
info_in input = part input (info_at input + 4) (u32 input (info_at input))

abbrev pub blob_in : List ℕ → List ℕ
blob_in input = drop (blob_at input) input

-- ---- what is shown, by the slices lent for the rows of TypeInfo, controls and properties
-- TypeInfo of no byte is none
unfoldable pub parts_shown : List ℕ → List ℕ → List ℕ → List ℕ → List ℕ → List ℕ → List ℕ
parts_shown table info stream infos controls properties =
    cond (ltb longest_stream (length info)) (answer_line (refusal too_long_lem))
    (cond (ltb longest_stream (length stream)) (answer_line (refusal too_long_lem))
    (cond (eqb (length info) 0) (shown_blob table stream controls properties)
    (shown_paired table info stream infos controls properties)))

-- an input that has fewer bytes than its lengths tell is refused as a bad table
unfoldable pub shown_in : List ℕ → List ℕ → List ℕ → List ℕ → List ℕ
shown_in input infos controls properties =
    cond (ltb longest_input (length input)) (answer_line (refusal too_long_lem))
    (cond (ltb (length input) (blob_at input)) (answer_line (refusal bad_table))
    (parts_shown (table_in input) (info_in input) (blob_in input) infos controls properties))

-- ---- the words that are lent: zeros
-- room for all that an input under 16,384 bytes can have
abbrev pub small_infos : ℕ
small_infos = 2048 * type_info_width

abbrev pub small_controls : ℕ
small_controls = 5461 * control_width

abbrev pub small_properties : ℕ
small_properties = 16384 * property_width

-- for a longer one: 524,284 rows of TypeInfo are as many as 4,194,304 bytes can have
abbrev pub large_infos : ℕ
large_infos = 524284 * type_info_width

abbrev pub large_controls : ℕ
large_controls = 16384 * control_width

abbrev pub large_properties : ℕ
large_properties = 262144 * property_width

unfoldable pub infos_for : List ℕ → List ℕ
infos_for input = cond (ltb (length input) 16384) (zeros small_infos) (zeros large_infos)

unfoldable pub controls_for : List ℕ → List ℕ
controls_for input = cond (ltb (length input) 16384) (zeros small_controls) (zeros large_controls)

unfoldable pub properties_for : List ℕ → List ℕ
properties_for input = cond (ltb (length input) 16384) (zeros small_properties) (zeros large_properties)

unfoldable pub shown_for : List ℕ → List ℕ
shown_for input = shown_in input (infos_for input) (controls_for input) (properties_for input)

-- ---- the whole
-- the longest text that is printed
abbrev pub text_room : ℕ
text_room = 50331648

unfoldable pub fitted : List ℕ → List ℕ
fitted shown = cond (ltb text_room (length shown)) (answer_line (refusal no_room_for_text)) shown

unfoldable pub printed : List ℕ → List ℕ
printed input = fitted (shown_for input)

-- ---- what is asked before
-- so many bytes are read, one more than the longest input has, so that a longer one is told
abbrev pub most_read : ℕ
most_read = longest_input + 1

pub record Ready (input infos controls properties : List ℕ) : Type 0 where
  pub short : length input ≤ most_read
  pub for_infos : infos_for input ≡ infos
  pub for_controls : controls_for input ≡ controls
  pub for_properties : properties_for input ≡ properties

-- what is shown has no room
abbrev pub Refused : List ℕ → Type 0
Refused input = (all : List ℕ) → Began most_read input all → printed all ≡ answer_line (refusal no_room_for_text)
