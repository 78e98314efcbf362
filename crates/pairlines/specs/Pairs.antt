-- The listing of a later Blob whose controls are paired with TypeInfo (wish 2 of document 02): the bytes that `pairlist` prints. A control's name is shown
-- where it found no row.
use Rattle.std.specs.Prelude.{ℕ, ◌+◌, ◌*◌, min, Bool, true, false, cond, ◌&&◌, List, [], ◌∷◌, ◌++◌, ltb, eqb, length, drop}
use Rattle.std.proofs.Math.Option.{Option, none, some}
use Rattle.rules.specs.Lists.{keep, find, text}
use Rattle.rules.specs.Bytes.{u32, part}
use Rattle.rules.specs.Digits.{decimal, hex}
use Rattle.rules.specs.Texts.{label}
use Rattle.rules.specs.Answer.{refusal, too_long_lem}
use Rattle.rules.specs.TypeInfo.{type_info_answer, type_info_rows}
use Rattle.rules.specs.Blob.{Outcome, outcome_later, answer_of, controls_shown}
use Rattle.rules.specs.Pairing.{mark_of, start_of, size_of, control_name_lem, has_name, paired_type}
use Rattle.rules.specs.Listing.{line, or_dash, answer_line, control_line, lines_from}
use Rattle.listing.specs.InfoLine.{is_shown, name_bytes}
use Rattle.listing.specs.Bound.{longest_answer, longest_control, longest_number}

-- ---- names
-- a unit of UTF-16: a letter that stands for itself (the blank to the tilde, but the backslash), or `\u` and four digits
unfoldable pub is_letter : ℕ → ℕ → Bool
is_letter low high = eqb high 0 && is_shown low

unfoldable pub unit_text : ℕ → ℕ → List ℕ
unit_text low high = cond (is_letter low high) (low ∷ []) (text "\\u" ++ (hex 2 high ++ hex 2 low))

unfoldable pub units_text : List ℕ → List ℕ
units_text [] = []
units_text (low ∷ []) = []
units_text (low ∷ high ∷ s) = unit_text low high ++ units_text s

-- Access gives no control a name of more than 255 characters; of a longer one the first 255 are shown
abbrev pub longest_shown : ℕ
longest_shown = 255

-- by the mark of the row: a label; bytes, as those of TypeInfo are shown; UTF-16
unfoldable pub shown_name : List ℕ → List ℕ → List ℕ
shown_name s row =
    cond (eqb (mark_of row) 1) (label (start_of row))
    (cond (eqb (mark_of row) 2) (or_dash (name_bytes (part s (start_of row) (min (size_of row) longest_shown))))
    (or_dash (units_text (part s (start_of row) (min (size_of row) (2 * longest_shown))))))

-- ---- lines, by TypeInfo rows of the stream t
-- the C line with the type as paired: "sets each control's type .. All other words stay."
abbrev pub paired_line : List ℕ → List ℕ → List (List ℕ) → ℕ → List ℕ → List ℕ
paired_line s t infos n row = control_line s n (paired_type s t infos row ∷ drop 1 row)

abbrev pub is_none : Option (List ℕ) → Bool
is_none none = true
is_none (some info) = false

-- no TypeInfo row has the control's name
unfoldable pub is_unpaired : List ℕ → List ℕ → List (List ℕ) → List ℕ → Bool
is_unpaired s t infos row = is_none (find (has_name t (control_name_lem s row)) infos)

-- the U line of a control that found no row: its number and its name
unfoldable pub unpaired_line : List ℕ → List ℕ → List (List ℕ) → ℕ → List ℕ → List ℕ
unpaired_line s t infos n row = cond (is_unpaired s t infos row) (line (text "U" ∷ decimal n ∷ shown_name s row ∷ [])) []

-- at the end, how many these are
unfoldable pub count_line : ℕ → List ℕ
count_line n = line (text "unpaired" ∷ decimal n ∷ [])

-- ---- the whole
abbrev pub paired_lines : List ℕ → List ℕ → List (List ℕ) → List (List ℕ) → List ℕ
paired_lines s t infos rows =
    lines_from (paired_line s t infos) 0 rows
    ++ (lines_from (unpaired_line s t infos) 0 rows ++ count_line (length (keep (is_unpaired s t infos) rows)))

-- the Blob's answer, and on 0 the lines of its controls
unfoldable pub blob_paired : List ℕ → List ℕ → Outcome → List ℕ
blob_paired s t o = answer_line (answer_of o) ++ cond (eqb (answer_of o).number 0) (paired_lines s t (type_info_rows t) (controls_shown o)) []

-- the answer of TypeInfo, and on 0 that of the Blob; by how many rows there is room for. The Blob is one of the later layout, by the layout byte
unfoldable pub pair_printed : ℕ → List ℕ → List ℕ → ℕ → ℕ → ℕ → List ℕ
pair_printed layout t s info_room control_room property_room =
    answer_line (type_info_answer t info_room)
    ++ cond (eqb (type_info_answer t info_room).number 0) (blob_paired s t (outcome_later layout s control_room property_room)) []

-- ---- of an input: the layout byte and the length of TypeInfo, four bytes each; TypeInfo; the Blob
abbrev pub info_in : List ℕ → List ℕ
info_in input = part input 8 (u32 input 4)

abbrev pub blob_in : List ℕ → List ℕ
blob_in input = drop (8 + u32 input 4) input

unfoldable pub pair_listed : List ℕ → ℕ → ℕ → ℕ → List ℕ
pair_listed input info_room control_room property_room = pair_printed (u32 input 0) (info_in input) (blob_in input) info_room control_room property_room

-- room for as many rows as 4,194,304 bytes of TypeInfo can have, for 16,384 controls and 262,144 properties
abbrev pub info_room : ℕ
info_room = 524284

abbrev pub control_room : ℕ
control_room = 16384

abbrev pub property_room : ℕ
property_room = 262144

abbrev pub longest_input : ℕ
longest_input = 8 + 2 * 4194304

unfoldable pub pair_listing : List ℕ → List ℕ
pair_listing input =
    cond (ltb longest_input (length input)) (answer_line (refusal too_long_lem)) (pair_listed input info_room control_room property_room)

-- ---- how long it can be
-- six bytes for each unit of a name
abbrev pub longest_unpaired : ℕ
longest_unpaired = 1 + 1 + (longest_number + 1) + (6 * longest_shown + 1)

abbrev pub pair_most : ℕ → ℕ
pair_most controls = 2 * longest_answer + (controls * longest_control + controls * longest_unpaired) + (8 + 1 + longest_number + 1)
