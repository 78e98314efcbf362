-- What is left to report from a cursor on: how much it is, and that at the start it is all.
use Prim.Native.Nat.{ℕ, ◌<◌}
use native.Mathlib.Omega.{arith}
use mathlib.Core.Path.{◌≡◌, refl, ap}
use mathlib.Core.List.{List, [], ◌∷◌}
use mathlib.Core.Option.{Option, none, some}
use lib.ListN.{length}
use Rattle.rules.specs.Lists.{◌>>=◌}
use Rattle.rules.specs.Tree.{Entries, Node, levels, levels_at, is_reported, preorder, no_parent, nodes_of}
use Rattle.rows.specs.Acts.{Nodes, top_nodes, Held}
use Rattle.cursor.specs.Walk.{Steps, entry_by, picked, ◌before◌, rest_at, tail_at}
use Rattle.cursor.specs.Stack.{outer}
use Rattle.cursor.specs.Cursors.{cursor, rest_by}
use Rattle.cursor.specs.declared.Cursor.{Cursor}
use Rattle.cursor.proofs.WalkLaws.{picked-reported}

abbrev pub how_many : {P : Type 0} → Nodes P → ℕ
how_many none = 0
how_many (some y) = length y.0

pub fewer : {P : Type 0} (x : Node P) (o : Nodes P) → Held (λ _. Unit) (x ∷ [] before o) → how_many o < how_many (x ∷ [] before o)
fewer x none h = absurd h
fewer x (some y) h = omega arith

pub start-nodes : {P : Type 0} (step : Steps P) (a : List ℕ) (n at : ℕ)
    → rest_by step is_reported 0 a (cursor at 0 n no_parent) ≡ top_nodes (levels_at (entry_by step) levels n at)
unfolding rest_by rest_at tail_at outer nodes_of
start-nodes {P = P} step a n at = go (levels_at (entry_by step) levels n at)
  where
    go : (o : Option (Entries P × ℕ)) → (o >>= λ x. some (preorder 0 no_parent 0 (picked is_reported x.0), x.1)) ≡ top_nodes o
    go none = refl
    go (some x) = ap (λ es. some (preorder 0 no_parent 0 es, x.1)) (picked-reported x.0)

-- what is left to report from a cursor on
abbrev pub left : {P : Type 0} → Steps P → ℕ → List ℕ → Cursor → Nodes P
left step n a c = rest_by step is_reported n a c
