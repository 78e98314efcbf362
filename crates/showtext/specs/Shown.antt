-- How a text, bytes and a property's value are shown to a person.
use Rattle.std.specs.Prelude.{ℕ, min, Bool, cond, ◌&&◌, ◌||◌, List, [], ◌∷◌, ◌++◌, map, leb, ltb, eqb, get_or}
use Rattle.rules.specs.Lists.{concat, text}
use Rattle.rules.specs.Bytes.{part}
use Rattle.rules.specs.Digits.{decimal, hex}
use Rattle.rules.specs.Scalars.{scalars}
use Rattle.rules.specs.Utf8.{utf8_of}
use Rattle.rules.specs.Texts.{guid_text_lem}
use Rattle.rules.specs.Csv.{hex_text}
use Rattle.rules.specs.Listing.{word, yes_or_no, number32}
use Rattle.csvtext.specs.Units.{unit_by}

-- ---- characters in quotes, spelled as in a JSON string
unfoldable pub within : ℕ → ℕ → ℕ → Bool
within first last c = leb first c && leb c last

-- what could turn a line round on a terminal, or break it
unfoldable pub is_turning : ℕ → Bool
is_turning c = within 0x200E 0x200F c || (within 0x2028 0x202E c || (within 0x2066 0x2069 c || eqb c 0xFEFF))

-- control characters, the mark of Arabic letters and these are never written as they are
unfoldable pub is_hidden : ℕ → Bool
is_hidden c = within 0x00 0x1F c || (within 0x7F 0x9F c || (eqb c 0x061C || is_turning c))

-- `\u` and four digits for what is hidden, all else in UTF-8
unfoldable pub written : ℕ → List ℕ
written c = cond (is_hidden c) (text "\\u" ++ hex 4 c) (utf8_of c)

-- the quote, the backslash, LF, CR and tab have names of their own
unfoldable pub spelled : ℕ → List ℕ
spelled c =
    cond (eqb c 0x22) (text "\\\"")
    (cond (eqb c 0x5C) (text "\\\\")
    (cond (eqb c 0x0A) (text "\\n")
    (cond (eqb c 0x0D) (text "\\r")
    (cond (eqb c 0x09) (text "\\t")
    (written c)))))

-- the characters of UTF-16 text, spelled
unfoldable pub letters : List ℕ → List ℕ
letters bytes = concat (map spelled (scalars bytes))

unfoldable pub quoted : List ℕ → List ℕ
quoted bytes = text "\"" ++ (letters bytes ++ text "\"")

-- what the unit u ends, after the first half `high`, or 0 where none waits
abbrev pub unit_text : ℕ → ℕ → List ℕ
unit_text high u = unit_by spelled high u

-- ---- bytes
-- of more than these the first are shown
abbrev pub most_shown : ℕ
most_shown = 32

unfoldable pub cut_mark : ℕ → List ℕ
cut_mark size = cond (ltb most_shown size) (text " ..") []

unfoldable pub first_bytes : List ℕ → ℕ → ℕ → List ℕ
first_bytes stream start size = cond (eqb size 0) [] (text " " ++ (hex_text (part stream start (min size most_shown)) ++ cut_mark size))

-- how many there are, and the first of them in hex
unfoldable pub bytes_text : List ℕ → ℕ → ℕ → List ℕ
bytes_text stream start size = decimal size ++ (text " bytes" ++ first_bytes stream start size)

-- text that isn't UTF-16
unfoldable pub loose_text : List ℕ → ℕ → ℕ → List ℕ
loose_text stream start size = text "loose " ++ bytes_text stream start size

-- ---- values, by their mark: bool, notdefault, short, long, double, guid, text, binary, loose
abbrev pub shown_values : List ℕ → ℕ → ℕ → ℕ → ℕ → List (List ℕ)
shown_values stream low high start size =
    yes_or_no low
    ∷ text "set"
    ∷ number32 low
    ∷ number32 low
    ∷ (text "double " ++ (hex 8 high ++ hex 8 low))
    ∷ guid_text_lem (part stream start size)
    ∷ quoted (part stream start size)
    ∷ (text "binary " ++ bytes_text stream start size)
    ∷ []

unfoldable pub value_by : List ℕ → ℕ → ℕ → ℕ → ℕ → ℕ → List ℕ
value_by stream mark low high start size = get_or (shown_values stream low high start size) mark (loose_text stream start size)

-- by the words of a property's row
abbrev pub value_text : List ℕ → List ℕ → List ℕ
value_text stream row = value_by stream (word row 1) (word row 2) (word row 3) (word row 4) (word row 5)
