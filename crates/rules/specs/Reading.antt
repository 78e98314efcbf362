-- The reading: the object's properties, and controls in output order. It is one for both layouts; what is counted and written
-- are functions of it alone.
use Rattle.std.specs.Prelude.{ℕ, ◌+◌, List, [], ◌∷◌, ◌++◌, map, length}
use Rattle.rules.specs.Lists.{concat}
use Rattle.rules.specs.Texts.{label}
use Rattle.rules.specs.declared.Property.{Property}
use Rattle.rules.specs.declared.Name.{Name}
use Rattle.rules.specs.declared.Name.TheVariants.{Text, Numbered, Loose}

pub record Control : Type 0 where
  pub type : ℕ
  pub name : Name
  pub properties : List Property
  pub level : ℕ
  pub parent : ℕ

pub record Reading : Type 0 where
  pub own : List Property
  pub controls : List Control

abbrev pub properties_of : Control → List Property
properties_of c = c.properties

-- "The object's rows stand first, then each control's."
unfoldable pub properties : Reading → List Property
properties r = r.own ++ concat (map properties_of r.controls)

-- ---- words
-- "name mark (0 UTF-16 text, 1 numbered, 2 text that isn't UTF-16); name start; name length .. For mark 1, start is the control's number n
-- from 0 in output order and length is that of the label"
abbrev pub name_words : ℕ → Name → List ℕ
name_words n (Text start size) = 0 ∷ start ∷ size ∷ []
name_words n Numbered = 1 ∷ n ∷ length (label n) ∷ []
name_words n (Loose start size) = 2 ∷ start ∷ size ∷ []

-- "Control ..: type code; name mark ..; name start; name length; first property row; property count." Wish 1 of document 02: "eight words: after the present
-- six, the level .. and the row number of the parent"
unfoldable pub control_row : ℕ → ℕ → Control → List ℕ
control_row n first c = c.type ∷ name_words n c.name ++ (first ∷ length c.properties ∷ c.level ∷ c.parent ∷ [])

-- the rows of controls, the first of which has the number n and its first property in row `first`
unfoldable pub control_rows_from : ℕ → ℕ → List Control → List (List ℕ)
control_rows_from n first [] = []
control_rows_from n first (c ∷ cs) = control_row n first c ∷ control_rows_from (n + 1) (first + length c.properties) cs

unfoldable pub control_rows : Reading → List (List ℕ)
control_rows r = control_rows_from 0 (length r.own) r.controls

-- "Property, six words: id; value mark; low; high; start; length."
abbrev pub property_row : Property → List ℕ
property_row p = p.id ∷ p.value.mark ∷ p.value.low ∷ p.value.high ∷ p.start ∷ p.size ∷ []

unfoldable pub property_rows : Reading → List (List ℕ)
property_rows r = map property_row (properties r)
