-- How many bytes the records of a reading take, but for the header.
use Rattle.std.specs.Prelude.{ℕ, ◌+◌, ◌-◌, List, [], ◌∷◌, map, length}
use Rattle.rules.specs.Tree.{Node}
use Rattle.rules.specs.Reading.{Control, Reading, property_row}
use Rattle.rules.specs.declared.Property.{Property}
use Rattle.csvrecord.specs.Parts.{owner_text, tail_text}
use Rattle.csvrecord.specs.declared.Owner.{Owner}

-- records of one owner, whose fields take `owner` bytes of each
unfoldable pub needs : List ℕ → ℕ → List Property → ℕ
needs stream owner [] = 0
needs stream owner (p ∷ ps) = owner + length (tail_text stream (property_row p)) + needs stream owner ps

abbrev pub object_need : ℕ
object_need = length (owner_text Owner.Object)

abbrev pub control_need : ℕ → ℕ → ℕ
control_need n type = length (owner_text (Owner.Control n type))

-- of controls, the first of which has the number n
unfoldable pub controls_need : List ℕ → ℕ → List Control → ℕ
controls_need stream n [] = 0
controls_need stream n (c ∷ cs) = needs stream (control_need n c.type) c.properties + controls_need stream (n + 1) cs

unfoldable pub sheet_need : List ℕ → Reading → ℕ
sheet_need stream r = needs stream object_need r.own + controls_need stream 0 r.controls

-- ---- what is left of a room
-- after the records of things, of which f makes properties
abbrev pub records_left : {X : Type 0} → List ℕ → (X → Property) → ℕ → List X → ℕ → ℕ
records_left stream f owner xs all = all - needs stream owner (map f xs)

-- after those of nodes, of which f makes controls, the first with the number n
abbrev pub controls_left : {P : Type 0} → List ℕ → (Node P → Control) → ℕ → List (Node P) → ℕ → ℕ
controls_left stream f n xs all = all - controls_need stream n (map f xs)

-- what a node takes off, where it has the number n
abbrev pub node_need : {P : Type 0} → List ℕ → (Node P → Control) → ℕ → Node P → ℕ
node_need stream f n x = needs stream (control_need n (f x).type) (f x).properties
