-- Why a text is refused: the line, what is wrong and what to write.
use Rattle.std.specs.Prelude.{ℕ, ◌-◌, cond, List, [], ◌∷◌, ◌++◌, ltb, eqb, get_or}
use Rattle.rules.specs.Lists.{text}
use Rattle.rules.specs.Digits.{decimal}

-- lines are counted from 1; 0 says that it is of the text as a whole
unfoldable pub line_place : ℕ → List ℕ
line_place line = cond (eqb line 0) [] (text "line " ++ (decimal line ++ text ": "))

-- of the lines together and of their words, 0 to 8
abbrev pub word_texts : List (List ℕ)
word_texts =
    text "nothing is wrong"
    ∷ text "no layout is named; write one, such as layout 13"
    ∷ text "a layout must come first, such as layout 13"
    ∷ text "the layout is named a second time; keep one"
    ∷ text "begin with layout, header, form, report, entry or a row's id"
    ∷ text "two hex digits must follow, such as layout 13"
    ∷ text "the second word must be four hex digits, as 0064"
    ∷ text "there are too many words; remarks stand after #"
    ∷ []

unfoldable pub words_why : ℕ → List ℕ
words_why error = get_or word_texts error (text "header lines stand before the first scope")

-- of a table's rules, 9 to 16, of the word for a kind, 17, and of the text as a whole, from 18 on
abbrev pub rule_texts : List (List ℕ)
rule_texts =
    text "header codes must ascend; this one doesn't"
    ∷ text "a table has at most 4 header codes"
    ∷ text "form, report, entries by code must ascend"
    ∷ text "a table has at most 64 scopes"
    ∷ text "a row stands below a form, a report or an entry"
    ∷ text "ids must ascend; this one doesn't"
    ∷ text "an id is at most FC"
    ∷ text "a target is at most 7FFF"
    ∷ text "the third word must be number, text, guid, double or bytes"
    ∷ text "the text is longer than 2097152 bytes"
    ∷ []

unfoldable pub rules_why : ℕ → List ℕ
rules_why error = get_or rule_texts (error - 9) (text "there is no room for its table")

unfoldable pub why : ℕ → List ℕ
why error = cond (ltb error 9) (words_why error) (rules_why error)

unfoldable pub why_text : ℕ → ℕ → List ℕ
why_text error line = line_place line ++ (why error ++ text "\n")

-- what stands before the table's bytes
unfoldable pub size_text : ℕ → List ℕ
size_text size = text "table " ++ (decimal size ++ text "\n")
