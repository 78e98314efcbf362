-- The text of a code table, which people read and write in the place of its bytes:
--
--     layout 13
--     header 0099
--
--     form
--     14 013A number  # DividingLines
--
--     entry 0064  # Label
--     60 0036 number  # Left
--     DC 0014 text  # Name
--
-- A line names the layout byte, a header code, a scope (form, report, or entry and its type), or a row of the scope above it: id, target, kind.
-- Numbers are hex, two digits for a byte and four for two bytes. What stands after # is a name, for the reader alone.
use Rattle.std.specs.Prelude.{ℕ, cond, List, [], ◌∷◌, ◌++◌, ltb, leb, get_or}
use Rattle.rules.specs.Lists.{text}
use Rattle.rules.specs.Digits.{hex}
use Rattle.rules.specs.NameTables.{control_type_names}
use Rattle.rules.specs.Names.{name_in_lem, names_for}
use Rattle.rules.specs.CodeTable.{Tie, Scope, layout, header, scopes}

-- a name after the words of a line, where there is one
unfoldable pub remark : List ℕ → List ℕ
remark [] = []
remark (b ∷ name) = text "  # " ++ (b ∷ name)

-- ---- rows
-- "kind 0 Number, 1 Text, 2 Guid, 3 Double, 4 Bytes"
abbrev pub kind_words : List (List ℕ)
kind_words = text "number" ∷ text "text" ∷ text "guid" ∷ text "double" ∷ []

unfoldable pub kind_word : ℕ → List ℕ
kind_word kind = get_or kind_words kind (text "bytes")

-- the mark whose names a row's target bears: an id up to 0xBC stands before a number (3, Long); above, Text is 6, Guid 5, Double 4,
-- and Number and Bytes are stored as Binary, 7
unfoldable pub kind_mark : ℕ → ℕ → ℕ
kind_mark id kind = cond (leb id 0xBC) 3 (get_or (7 ∷ 6 ∷ 5 ∷ 4 ∷ []) kind 7)

unfoldable pub row_line : Tie → List ℕ
row_line r =
    hex 2 r.id
    ++ (text " " ++ (hex 4 r.target
    ++ (text " " ++ (kind_word r.kind
    ++ (remark (name_in_lem (names_for (kind_mark r.id r.kind)) r.target)
    ++ text "\n")))))

unfoldable pub row_lines : List Tie → List ℕ
row_lines [] = []
row_lines (r ∷ rs) = row_line r ++ row_lines rs

-- ---- scopes
-- "kind (0 form, 1 report, 2 entry), u16 code (0 for kinds 0 and 1)"
unfoldable pub scope_name : ℕ → ℕ → List ℕ
scope_name kind code = get_or (text "form" ∷ text "report" ∷ []) kind (text "entry " ++ hex 4 code)

-- an entry's code is a control type
unfoldable pub type_remark : ℕ → ℕ → List ℕ
type_remark kind code = cond (ltb kind 2) [] (remark (name_in_lem control_type_names code))

-- an empty line parts a scope from what stands above it
unfoldable pub scope_line : ℕ → ℕ → List ℕ
scope_line kind code = text "\n" ++ (scope_name kind code ++ (type_remark kind code ++ text "\n"))

unfoldable pub scope_lines : List Scope → List ℕ
scope_lines [] = []
scope_lines (s ∷ ss) = scope_line s.kind s.code ++ (row_lines s.rows ++ scope_lines ss)

-- ---- the table
unfoldable pub header_line : ℕ → List ℕ
header_line code = text "header " ++ (hex 4 code ++ text "\n")

unfoldable pub header_lines : List ℕ → List ℕ
header_lines [] = []
header_lines (c ∷ cs) = header_line c ++ header_lines cs

unfoldable pub table_text : List ℕ → List ℕ
table_text t = text "layout " ++ (hex 2 (layout t) ++ (text "\n" ++ (header_lines (header t) ++ scope_lines (scopes t))))
