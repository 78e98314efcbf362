-- A text's lines, their words, and the numbers that words say.
use Rattle.std.specs.Prelude.{ℕ, ◌+◌, ◌*◌, ◌-◌, Bool, cond, not, ◌||◌, ◌&&◌, List, [], ◌∷◌, leb, ltb, eqb, length, get_or}
use Rattle.rules.specs.Lists.{text, same}

-- ---- lines
-- b stands at the front of the first line
unfoldable pub onto : ℕ → List (List ℕ) → List (List ℕ)
onto b [] = (b ∷ []) ∷ []
onto b (line ∷ lines) = (b ∷ line) ∷ lines

-- each line ends with a byte 10, which isn't part of it; the last one may end without
unfoldable pub lines_of : List ℕ → List (List ℕ)
lines_of [] = []
lines_of (b ∷ s) = cond (eqb b 10) ([] ∷ lines_of s) (onto b (lines_of s))

-- ---- words
-- what a search stops at: the end of a line, the sign # of a remark, a letter of a word, a blank
abbrev pub line_end : ℕ
line_end = 0

abbrev pub sign : ℕ
sign = 1

abbrev pub letter : ℕ
letter = 2

abbrev pub blank : ℕ
blank = 3

-- a blank, a tab and a carriage return part words
unfoldable pub is_blank : ℕ → Bool
is_blank b = eqb b 32 || (eqb b 9 || eqb b 13)

unfoldable pub stops : ℕ → ℕ → Bool
stops search b =
    cond (eqb search line_end) (eqb b 10)
    (cond (eqb search sign) (eqb b 35)
    (cond (eqb search letter) (not (is_blank b))
    (is_blank b)))

-- the bytes in front of the first one at which the search stops, and those from it on
unfoldable pub before : ℕ → List ℕ → List ℕ
before search [] = []
before search (b ∷ s) = cond (stops search b) [] (b ∷ before search s)

unfoldable pub onward : ℕ → List ℕ → List ℕ
onward search [] = []
onward search (b ∷ s) = cond (stops search b) (b ∷ s) (onward search s)

-- the first word, without a letter where there is none; and what stands after it
unfoldable pub word : List ℕ → List ℕ
word s = before blank (onward letter s)

unfoldable pub after_word : List ℕ → List ℕ
after_word s = onward blank (onward letter s)

-- ---- numbers
-- the number of a hex digit, in capitals or small letters, or 16
unfoldable pub digit_of : ℕ → ℕ
digit_of b =
    cond (leb 48 b && leb b 57) (b - 48)
    (cond (leb 65 b && leb b 70) (b - 55)
    (cond (leb 97 b && leb b 102) (b - 87)
    16))

-- the number of two hex digits, or 256
unfoldable pub byte_of : ℕ → ℕ → ℕ
byte_of a b = cond (ltb (digit_of a) 16 && ltb (digit_of b) 16) (16 * digit_of a + digit_of b) 256

-- the number of a word of two hex digits, or 256
unfoldable pub two_of : List ℕ → ℕ
two_of w = cond (eqb (length w) 2) (byte_of (get_or w 0 0) (get_or w 1 0)) 256

-- the number of two bytes, the high one first, or 65536
unfoldable pub code_of : ℕ → ℕ → ℕ
code_of high low = cond (ltb high 256 && ltb low 256) (256 * high + low) 65536

-- the number of a word of four hex digits, or 65536
unfoldable pub four_of : List ℕ → ℕ
four_of w = cond (eqb (length w) 4) (code_of (byte_of (get_or w 0 0) (get_or w 1 0)) (byte_of (get_or w 2 0) (get_or w 3 0))) 65536

-- the number of the word for a row's kind, or 5
unfoldable pub row_kind_of : List ℕ → ℕ
row_kind_of w =
    cond (same w (text "number")) 0
    (cond (same w (text "text")) 1
    (cond (same w (text "guid")) 2
    (cond (same w (text "double")) 3
    (cond (same w (text "bytes")) 4
    5))))
