-- Every property row of an Access 2000 reading comes from one spot of the stream, whatever the table; the control rows ask the table for its
-- header codes only.
use Prim.Native.Nat.{ℕ, ◌+◌}
use mathlib.Core.Path.{◌≡◌, refl, sym, ap, ap₂, ◌∙◌}
use mathlib.Core.List.{List, [], ◌∷◌, ◌++◌, map}
use lib.ListN.{length, length-map}
use Rattle.rules.specs.Lists.{concat}
use Rattle.rules.specs.Answer.{answer}
use Rattle.rules.specs.CodeTable.{header}
use Rattle.rules.specs.Tree.{Entries, Node, nodes_of}
use Rattle.rules.specs.Access2000.{Prop}
use Rattle.rules.specs.Reading.{properties, properties_of, control_row, control_rows_from, control_rows}
use Rattle.rules.specs.Read2000.{object_key, entry_key, property_in, control_of, read2000, Spot, spot_in, node_spots, spots_of}
use Rattle.rules.specs.Blob.{counted}
use Rattle.rules.specs.declared.Property.{Property}
use Rattle.rules.proofs.ListLaws.{map-append, map-map}

-- what a table shows for a spot
unfoldable pub shown_at : List ℕ → List ℕ → Spot → Property
shown_at t s x = property_in t s x.scope x.prop

controls-from : (t s : List ℕ) (ns : List (Node Prop)) → concat (map properties_of (map (control_of t s) ns)) ≡ map (shown_at t s) (concat (map node_spots ns))
unfolding control_of shown_at concat
controls-from t s [] = refl
controls-from t s (n ∷ ns) =
    ap₂ (λ (a b : List Property). a ++ b) (sym (map-map (shown_at t s) (spot_in (entry_key n.type)) n.props)) (controls-from t s ns)
    ∙ sym (map-append (shown_at t s) (node_spots n) (concat (map node_spots ns)))

pub properties-from : (t s : List ℕ) (x : List Prop × Entries Prop) → properties (read2000 t s x) ≡ map (shown_at t s) (spots_of s x)
unfolding properties read2000 spots_of shown_at
properties-from t s x =
    ap₂ (λ (a b : List Property). a ++ b) (sym (map-map (shown_at t s) (spot_in (object_key s)) x.0)) (controls-from t s (nodes_of x.1))
    ∙ sym (map-append (shown_at t s) (map (spot_in (object_key s)) x.0) (concat (map node_spots (nodes_of x.1))))

-- ---- what asks nothing of the table's rows
-- the counts are the stream's, whatever the table
pub properties-many : (t s : List ℕ) (x : List Prop × Entries Prop) → length (properties (read2000 t s x)) ≡ length (spots_of s x)
properties-many t s x = ap length (properties-from t s x) ∙ simp length-map

pub controls-many : (t s : List ℕ) (x : List Prop × Entries Prop) → length (read2000 t s x).controls ≡ length (nodes_of x.1)
unfolding read2000
controls-many t s x = simp length-map

pub own-many : (t s : List ℕ) (x : List Prop × Entries Prop) → length (read2000 t s x).own ≡ length x.0
unfolding read2000
own-many t s x = simp length-map

pub counts-from : (number : ℕ) (t s : List ℕ) (x : List Prop × Entries Prop)
    → counted number (read2000 t s x) ≡ answer number (length (nodes_of x.1)) (length (spots_of s x)) (length x.0)
counts-from number t s x = λ i. answer number (controls-many t s x i) (properties-many t s x i) (own-many t s x i)

-- the rows of controls by the header codes alone
module _ (t t' s : List ℕ) (same : header t ≡ header t') where
  row_same : (n first : ℕ) (m : Node Prop) → control_row n first (control_of t s m) ≡ control_row n first (control_of t' s m)
  unfolding control_row control_of
  row_same n first m = simp (same, length-map)

  rows_same : (n first : ℕ) (ns : List (Node Prop)) → control_rows_from n first (map (control_of t s) ns) ≡ control_rows_from n first (map (control_of t' s) ns)
  unfolding control_rows_from control_of
  rows_same n first [] = refl
  rows_same n first (m ∷ ns) = simp length-map (ap₂ ◌∷◌ (row_same n first m) (rows_same (n + 1) (first + length m.props) ns))

  pub control-rows-same : (x : List Prop × Entries Prop) → control_rows (read2000 t s x) ≡ control_rows (read2000 t' s x)
  unfolding control_rows read2000
  control-rows-same x = simp length-map (rows_same 0 (length x.0) (nodes_of x.1))
