-- The listing: the bytes that `formlist` prints for an input.
use Rattle.std.specs.Prelude.{ℕ, ◌+◌, cond, List, [], ◌∷◌, ◌++◌, ltb, eqb, length, get_or, drop}
use Rattle.rules.specs.Lists.{text}
use Rattle.rules.specs.Bytes.{u32, part}
use Rattle.rules.specs.Answer.{refusal, too_long_lem, bad_table}
use Rattle.rules.specs.Scalars.{scalars}
use Rattle.rules.specs.Value.{signed}
use Rattle.rules.specs.Tree.{no_parent}
use Rattle.rules.specs.Digits.{decimal, hex, signed_decimal}
use Rattle.rules.specs.Texts.{guid_text_lem}
use Rattle.rules.specs.NameTables.{control_type_names}
use Rattle.rules.specs.Names.{name_in_lem, names_for}
use Rattle.rules.specs.Blob.{Outcome, outcome, answer_of, controls_shown, properties_shown}
use Rattle.rules.specs.declared.Answer.{Answer}

-- ---- lines
-- "One blank parts two fields; LF ends each line."
abbrev pub line : List (List ℕ) → List ℕ
line [] = text "\n"
line (a ∷ []) = a ++ text "\n"
line (a ∷ b ∷ r) = a ++ (text " " ++ line (b ∷ r))

-- a name, "or `-`"
unfoldable pub or_dash : List ℕ → List ℕ
or_dash [] = text "-"
or_dash (b ∷ s) = b ∷ s

-- "`answer`, number and three counts"
unfoldable pub answer_line : Answer → List ℕ
answer_line a = line (text "answer" ∷ decimal a.number ∷ decimal a.first ∷ decimal a.second ∷ decimal a.third ∷ [])

-- ---- controls, by the words of their rows
abbrev pub word : List ℕ → ℕ → ℕ
word row i = get_or row i 0

-- how many characters text has. Wish 5 of document 02: "A character is a Unicode scalar value"
abbrev pub characters : List ℕ → List ℕ
characters bytes = decimal (length (scalars bytes))

-- "characters of the name or `-` if numbered"; wish 5: "Names with mark 2 print the byte length followed by `b`."
unfoldable pub name_column : ℕ → ℕ → List ℕ → List ℕ
name_column mark size bytes =
    cond (eqb mark 1) (text "-")
    (cond (eqb mark 2) (decimal size ++ text "b")
    (characters bytes))

-- wish 1: "`-` for no parent"
unfoldable pub parent_column : ℕ → List ℕ
parent_column up = cond (eqb up no_parent) (text "-") (decimal up)

-- "the C lines (number, type in hex, type name or `-`, characters of the name .., first row, count)"; wish 1: "`formlist` prints both at the end of the
-- C line": the level and the parent
unfoldable pub control_line : List ℕ → ℕ → List ℕ → List ℕ
control_line stream n row =
    line (text "C" ∷ decimal n ∷ hex 4 (word row 0) ∷ or_dash (name_in_lem control_type_names (word row 0))
    ∷ name_column (word row 1) (word row 3) (part stream (word row 2) (word row 3)) ∷ decimal (word row 4) ∷ decimal (word row 5)
    ∷ decimal (word row 6) ∷ parent_column (word row 7) ∷ [])

-- ---- properties, by the words of their rows
-- "Words: bool, notdefault, short, long, double, guid, text, binary, loose (mark 8)."
abbrev pub mark_words : List (List ℕ)
mark_words = text "bool" ∷ text "notdefault" ∷ text "short" ∷ text "long" ∷ text "double" ∷ text "guid" ∷ text "text" ∷ text "binary" ∷ []

unfoldable pub mark_word : ℕ → List ℕ
mark_word mark = get_or mark_words mark (text "loose")

unfoldable pub yes_or_no : ℕ → List ℕ
yes_or_no low = cond (eqb low 0) (text "no") (text "yes")

unfoldable pub number32 : ℕ → List ℕ
number32 low = signed_decimal (signed 0x80000000 low)

-- "Values: yes or no; `-`; decimal twice; 16 hex digits; GUID text; how many characters; bytes; bytes."
unfoldable pub value_column : ℕ → ℕ → ℕ → ℕ → List ℕ → List ℕ
value_column mark low high size bytes =
    get_or
    (yes_or_no low ∷ text "-" ∷ number32 low ∷ number32 low ∷ (hex 8 high ++ hex 8 low) ∷ guid_text_lem bytes ∷ characters bytes ∷ [])
    mark
    (decimal size)

-- "the P lines (row, id in hex, name or `-`, word, value)"
unfoldable pub property_line : List ℕ → ℕ → List ℕ → List ℕ
property_line stream n row =
    line (text "P" ∷ decimal n ∷ hex 4 (word row 0) ∷ or_dash (name_in_lem (names_for (word row 1)) (word row 0))
    ∷ mark_word (word row 1)
    ∷ value_column (word row 1) (word row 2) (word row 3) (word row 5) (part stream (word row 4) (word row 5)) ∷ [])

-- ---- the whole
-- the lines of rows, the first of which is row n
unfoldable pub lines_from : (ℕ → List ℕ → List ℕ) → ℕ → List (List ℕ) → List ℕ
lines_from line_of n [] = []
lines_from line_of n (row ∷ rows) = line_of n row ++ lines_from line_of (n + 1) rows

-- "It prints `answer` ..; on 0 the C lines .., then the P lines"
unfoldable pub printed : List ℕ → Outcome → List ℕ
printed stream o =
    answer_line (answer_of o)
    ++ (lines_from (control_line stream) 0 (controls_shown o)
    ++ lines_from (property_line stream) 0 (properties_shown o))

-- "u32 length of the code table, the code table, a Blob"
abbrev pub table_length : List ℕ → ℕ
table_length input = u32 input 0

abbrev pub table_in : List ℕ → List ℕ
table_in input = part input 4 (table_length input)

abbrev pub blob_in : List ℕ → List ℕ
blob_in input = drop (4 + table_length input) input

-- "one buffer of 32,768 bytes ..: .. More input: `answer 5 0 0 0`; under four bytes, or too little for that length: `answer 8 0 0 0`.
-- Room: 256 controls, 1,024 properties."
unfoldable pub listing : List ℕ → List ℕ
listing input =
    cond (ltb 32768 (length input)) (answer_line (refusal too_long_lem))
    (cond (ltb (length input) 4) (answer_line (refusal bad_table))
    (cond (ltb (length input) (4 + table_length input)) (answer_line (refusal bad_table))
    (printed (blob_in input) (outcome (table_in input) (blob_in input) 256 1024))))
