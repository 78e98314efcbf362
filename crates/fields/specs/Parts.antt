-- Parts of a line.
use Rattle.std.specs.Prelude.{List, [], ◌∷◌, ◌++◌, ℕ}
use Rattle.rules.specs.Lists.{text}
use Rattle.rules.specs.Bytes.{part}
use Rattle.rules.specs.Listing.{word, mark_word, value_column}

-- the first fields of a line, a blank after each
abbrev pub fields : List (List ℕ) → List ℕ
fields [] = []
fields (a ∷ r) = a ++ (text " " ++ fields r)

-- the last two fields of a property's line, by the words of its row
unfoldable pub shown_fields : List ℕ → List ℕ → List ℕ
shown_fields stream row =
    mark_word (word row 1)
    ++ (text " " ++ value_column (word row 1) (word row 2) (word row 3) (word row 5) (part stream (word row 4) (word row 5)))
