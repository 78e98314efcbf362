-- What is counted of a reading, by the places of a record's numbers: answers, types, unmapped and mapped, marks, one after the other.
use Rattle.std.specs.Prelude.{ℕ, ◌+◌, ◌-◌, ◌≤◌, ◌≡◌, Bool, cond, ◌&&◌, List, [], ◌∷◌, ◌++◌, map, ltb, leb, length, get_or, set}
use Rattle.rules.specs.Lists.{concat}
use Rattle.rules.specs.Answer.{longest}
use Rattle.rules.specs.Tree.{Node}
use Rattle.rules.specs.Reading.{Control, Reading, properties}
use Rattle.rules.specs.Blob.{Outcome, refused, read, answer_of}
use Rattle.rules.specs.Totals.{ceiling}
use Rattle.rules.specs.declared.Answer.{Answer}
use Rattle.rules.specs.declared.Property.{Property}
use Rattle.totallaws.proofs.TotalsLaws.{type_place}

-- one more, as far as the ceiling
abbrev pub up : ℕ → ℕ
up n = cond (ltb n ceiling) (n + 1) n

unfoldable pub bump : List ℕ → ℕ → List ℕ
bump words i = set words i (up (get_or words i 0))

unfoldable pub bumps : List ℕ → List ℕ → List ℕ
bumps words [] = words
bumps words (i ∷ is) = bumps (bump words i) is

-- ---- which places
abbrev pub types_at : ℕ
types_at = 6

abbrev pub marks_at : ℕ
marks_at = 39

-- 0, 4, 5, 6, 7, 8
abbrev pub answer_place : ℕ → ℕ
answer_place n = cond (ltb n 4) 0 (n - 3)

abbrev pub property_places : Bool → Property → List ℕ
property_places in2000 p = cond (in2000 && leb 0x8000 p.id) 37 38 ∷ (marks_at + p.value.mark) ∷ []

unfoldable pub properties_places : Bool → List Property → List ℕ
properties_places in2000 ps = concat (map (property_places in2000) ps)

-- a control's properties, then its type
unfoldable pub control_places : Bool → Control → List ℕ
control_places in2000 c = properties_places in2000 c.properties ++ ((types_at + type_place c.type) ∷ [])

unfoldable pub controls_places : Bool → List Control → List ℕ
controls_places in2000 cs = concat (map (control_places in2000) cs)

unfoldable pub reading_places : Bool → Reading → List ℕ
reading_places in2000 r = properties_places in2000 r.own ++ controls_places in2000 r.controls

abbrev pub outcome_places : Bool → Outcome → List ℕ
outcome_places in2000 (refused a) = []
outcome_places in2000 (read r) = reading_places in2000 r

-- ---- what counting leaves
-- of things, of which f makes properties
abbrev pub properties_tally : {X : Type 0} → Bool → (X → Property) → List X → List ℕ → List ℕ
properties_tally in2000 f xs words = bumps words (properties_places in2000 (map f xs))

-- of nodes, of which f makes controls
abbrev pub controls_tally : {P : Type 0} → Bool → (Node P → Control) → List (Node P) → List ℕ → List ℕ
controls_tally in2000 f xs words = bumps words (controls_places in2000 (map f xs))

-- few enough that no number comes to the ceiling
abbrev pub Few : Outcome → Type 0
Few (refused a) = Unit {0}
Few (read r) = length r.controls + length (properties r) ≤ longest

-- a stream: what is answered, and what is counted
pub record Tallied (in2000 : Bool) (o : Outcome) (words : List ℕ) (a : Answer) (words' : List ℕ) : Type 0 where
  pub answer-is : a ≡ answer_of o
  pub words_are : words' ≡ bumps words (outcome_places in2000 o)
  pub few : Few o
