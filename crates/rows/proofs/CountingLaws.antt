-- What is counted of a tree is what its nodes in output order have, and what a reading made of them by `map` has.
use Prim.Native.Nat.{ℕ, suc, ◌+◌}
use native.Mathlib.Omega.{arith}
use mathlib.Core.Path.{◌≡◌, refl, ◌∙◌}
use mathlib.Core.List.{List, [], ◌∷◌, ◌++◌, map}
use lib.ListN.{length, length-append}
use Rattle.rules.specs.Tree.{Entry, plain, parent, Entries, end, more, Node, no_parent, reported, preorder1, preorder, nodes_of}
use Rattle.rules.specs.Reading.{Control}
use Rattle.rows.specs.Counting.{size1, size, props1, props, props_in}
use Rattle.rows.specs.Writing.{theirs}

mutual
  unfolding preorder1 preorder

  nodes1 : {P : Type 0} (level up n : ℕ) (e : Entry P) → length (preorder1 level up n e) ≡ size1 e
  nodes1 level up n (plain t ps) = refl
  nodes1 level up n (parent t ps es) = omega (arith, nodes (suc level) n (suc n) es)

  nodes : {P : Type 0} (level up n : ℕ) (es : Entries P) → length (preorder level up n es) ≡ size es
  nodes level up n end = refl
  nodes level up n (more e es) =
      let these = preorder1 level up n e in
      length-append these _ ∙ omega (arith, nodes1 level up n e, nodes level up (n + length these) es)

pub in_append : {P : Type 0} (a b : List (Node P)) → props_in (a ++ b) ≡ props_in a + props_in b
unfolding props_in
in_append [] b = omega arith
in_append (n ∷ a) b = omega (arith, in_append a b)

mutual
  unfolding preorder1 preorder props_in

  in1 : {P : Type 0} (level up n : ℕ) (e : Entry P) → props_in (preorder1 level up n e) ≡ props1 e
  in1 level up n (plain t ps) = omega arith
  in1 level up n (parent t ps es) = omega (arith, in_all (suc level) n (suc n) es)

  in_all : {P : Type 0} (level up n : ℕ) (es : Entries P) → props_in (preorder level up n es) ≡ props es
  in_all level up n end = refl
  in_all level up n (more e es) =
      let these = preorder1 level up n e in
      in_append these _ ∙ omega (arith, in1 level up n e, in_all level up (n + length these) es)

-- of what is reported
pub nodes_of_lem : {P : Type 0} (es : Entries P) → length (nodes_of es) ≡ size (reported es)
unfolding nodes_of
nodes_of_lem es = nodes 0 no_parent 0 (reported es)

pub props_of_lem : {P : Type 0} (es : Entries P) → props_in (nodes_of es) ≡ props (reported es)
unfolding nodes_of
props_of_lem es = in_all 0 no_parent 0 (reported es)

-- a reading that gives each node a control with as many properties
module _ {P : Type 0} (control_of : Node P → Control) (same : (n : Node P) → length (control_of n).properties ≡ length n.props) where
  pub theirs-many : (ns : List (Node P)) → length (theirs (map control_of ns)) ≡ props_in ns
  unfolding props_in theirs Rattle.rules.specs.Lists.concat
  theirs-many [] = refl
  theirs-many (n ∷ ns) = length-append (control_of n).properties _ ∙ omega (arith, same n, theirs-many ns)
