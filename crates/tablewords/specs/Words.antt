-- What is said of a table that isn't well formed, in one line: the place, and the rule that it breaks there.
use Rattle.std.specs.Prelude.{ℕ, ◌-◌, cond, List, [], ◌∷◌, ◌++◌, ltb, eqb, get_or}
use Rattle.rules.specs.Lists.{text}
use Rattle.rules.specs.Digits.{decimal, hex}
use Rattle.tabletext.specs.Text.{scope_name}
use Rattle.tablebreak.specs.declared.Break.{Break}

-- ---- the place
-- scopes and rows are counted from 1; 0 says that the rule is of no scope, or of no row
unfoldable pub scope_place : ℕ → List ℕ
scope_place scope = cond (eqb scope 0) [] (text ", scope " ++ decimal scope)

unfoldable pub row_place : ℕ → ℕ → ℕ → List ℕ
row_place row kind code = text ", row " ++ (decimal row ++ (text " of " ++ scope_name kind code))

unfoldable pub within : Break → List ℕ
within b = cond (eqb b.row 0) (scope_place b.scope) (row_place b.row b.kind b.code)

-- ---- the rule
abbrev pub counted : List ℕ → ℕ → List ℕ → List ℕ
counted before n after = before ++ (decimal n ++ after)

abbrev pub coded : List ℕ → ℕ → ℕ → List ℕ → List ℕ
coded before digits n after = before ++ (hex digits n ++ after)

abbrev pub ordered : List ℕ → ℕ → ℕ → ℕ → List ℕ → List ℕ
ordered before digits n other after = before ++ (hex digits n ++ (text " stands after " ++ (hex digits other ++ after)))

unfoldable pub scopes_order : Break → List ℕ
scopes_order b =
    scope_name b.kind b.code
    ++ (text " stands after " ++ (scope_name b.found b.before
    ++ text "; form, report, entries by code must ascend"))

-- the rules of the contents, by their numbers up to 5; the last, 6, is the order of scopes
unfoldable pub contents_words : Break → List (List ℕ)
contents_words b =
    text "nothing is broken"
    ∷ counted (text "there are ") b.found (text " header codes; at most 4")
    ∷ counted (text "there are ") b.found (text " scopes; at most 64")
    ∷ ordered (text "header code ") 4 b.found b.before (text "; they must ascend")
    ∷ counted (text "kind ") b.found (text " is above 2 (entry)")
    ∷ coded (text "code ") 4 b.found (text "; a form or report has 0000")
    ∷ []

unfoldable pub contents_rule : Break → List ℕ
contents_rule b = get_or (contents_words b) b.rule (scopes_order b)

-- the rules of rows and of the length, by their numbers from 7 up to 12; the last, 13, is the greatest length
unfoldable pub body_words : Break → List (List ℕ)
body_words b =
    ordered (text "id ") 2 b.found b.before (text "; ids must ascend")
    ∷ coded (text "id ") 2 b.found (text " is above FC")
    ∷ coded (text "target ") 4 b.found (text " is above 7FFF")
    ∷ counted (text "kind ") b.found (text " is above 4 (bytes)")
    ∷ counted (text "it is too short; bytes missing: ") b.found []
    ∷ counted (text "it is too long; bytes left over: ") b.found []
    ∷ []

unfoldable pub body_rule : Break → List ℕ
body_rule b = get_or (body_words b) (b.rule - 7) (text "it goes on here; a table has at most 65100 bytes")

unfoldable pub rule_text : Break → List ℕ
rule_text b = cond (ltb b.rule 7) (contents_rule b) (body_rule b)

unfoldable pub break_text : Break → List ℕ
break_text b = text "byte " ++ (decimal b.at ++ (within b ++ (text ": " ++ (rule_text b ++ text "\n"))))
