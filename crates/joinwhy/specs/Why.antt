-- Why two code tables can't be joined, for the offices that have to settle it. Each table has a line, the first one's first.
--
-- Answer 16, what their heads are:
--
--     layout 13 header 0099 009A
--     layout 13 header 0099
--
-- Answer 17, the first scope and id that has two different rows, in the order of the first table:
--
--     entry 0064  # Label
--     60 0036 number  # Left
--     60 0037 number  # Top
use Rattle.std.specs.Prelude.{ℕ, ◌≡◌, false, cond, ◌&&◌, List, [], ◌∷◌, ◌++◌, Option, Some, None, eqb}
use Rattle.std.proofs.Math.Option as maybe
use Rattle.std.proofs.Math.Option.{none, some}
use Rattle.rules.specs.Lists.{text}
use Rattle.rules.specs.Answer.{other_head, two_rows}
use Rattle.rules.specs.Digits.{hex}
use Rattle.rules.specs.CodeTable.{Tie, layout, header, scopes, well_formed_lem, Holds}
use Rattle.coderows.specs.declared.Tie as sought
use Rattle.tablebytes.specs.Rows.{tie_of}
use Rattle.succession.specs.Lacks.{Lack, scopes_other}
use Rattle.succession.specs.Found.{as_lack}
use Rattle.succession.specs.declared.Lack as told
use Rattle.tabletext.specs.Text.{row_line, scope_name, type_remark}

-- ---- 16
unfoldable pub code_words : List ℕ → List ℕ
code_words [] = []
code_words (c ∷ cs) = text " " ++ (hex 4 c ++ code_words cs)

unfoldable pub head_line : List ℕ → List ℕ
head_line t = text "layout " ++ (hex 2 (layout t) ++ (text " header" ++ (code_words (header t) ++ text "\n")))

-- ---- 17
-- of two well-formed tables the first row of t for whose scope and id t' has another
unfoldable pub first_clash : List ℕ → List ℕ → maybe.Option Lack
first_clash t t' = cond (well_formed_lem t && well_formed_lem t') (scopes_other false t' (scopes t)) none

-- what is found is that "one scope and id has two different rows"
pub record Clashes (t t' : List ℕ) (c : Lack) : Type 0 where
  pub another : Tie
  pub is-other : c.other ≡ some another
  pub in_one : Holds t c.kind c.code c.row
  pub in_other : Holds t' c.kind c.code another
  pub one-id : c.row.id ≡ another.id
  pub differ : ¬ (c.row ≡ another)

abbrev pub tie : ℕ → ℕ → ℕ → Tie
tie id target kind = record { id = id; target = target; kind = kind }

-- what the other table has for an id: of a clash never none
unfoldable pub other_line : ℕ → Option sought.Tie → List ℕ
other_line id None = text "none\n"
other_line id (Some o) = row_line (tie id o.target o.kind)

-- the scope, the one table's row, the other's
unfoldable pub lack_text : Option told.Lack → List ℕ
lack_text None = []
lack_text (Some l) = scope_name l.kind l.code ++ (type_remark l.kind l.code ++ (text "\n" ++ (row_line (tie_of l.row) ++ other_line l.row.id l.other)))

-- ---- what is said where joining t and t' gives this answer
unfoldable pub why : ℕ → List ℕ → List ℕ → List ℕ
why number t t' =
    cond (eqb number other_head) (head_line t ++ head_line t')
    (cond (eqb number two_rows) (lack_text (as_lack (first_clash t t'))) [])
