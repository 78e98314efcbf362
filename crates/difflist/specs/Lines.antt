-- The lines after an answer. A difference, ten words of its own and four of its control:
--
--     D 12 3 221 2 109 32989 27 6 120 10 109 0 98 14
--
-- and why the newer table is no successor of the older: the two heads, or the first row of the older that the newer hasn't, with what it has in its place.
--
--     entry 006D  # TextBox
--     DD 001B text  # ControlSource
--     none
use Rattle.std.specs.Prelude.{ℕ, ◌*◌, cond, List, [], ◌∷◌, ◌++◌}
use Rattle.rules.specs.Lists.{text}
use Rattle.rules.specs.Answer.{other_head}
use Rattle.rules.specs.Bytes.{part}
use Rattle.rules.specs.Digits.{decimal}
use Rattle.rules.specs.CodeTable.{scopes}
use Rattle.rules.specs.Join.{same_head_lem}
use Rattle.rules.specs.Rows.{control_width}
use Rattle.rules.specs.Listing.{word}
use Rattle.joinwhy.specs.Why.{lack_text, why}
use Rattle.succession.specs.Lacks.{scopes_lack}
use Rattle.succession.specs.Found.{as_lack}

-- ---- differences
-- words in decimal, each after a blank
unfoldable pub spaced : List ℕ → List ℕ
spaced [] = []
spaced (w ∷ ws) = text " " ++ (decimal w ++ spaced ws)

-- the words of a difference, then those of its control: type, and mark, start and length of its name. The object's own properties have no control, and no such words
unfoldable pub difference_line : List ℕ → ℕ → List ℕ → List ℕ
difference_line controls n row = text "D" ++ (spaced row ++ (spaced (part controls (word row 1 * control_width) 4) ++ text "\n"))

-- ---- why not
unfoldable pub why_not : List ℕ → List ℕ → List ℕ
why_not older newer = cond (same_head_lem older newer) (lack_text (as_lack (scopes_lack newer (scopes older)))) (why other_head older newer)
