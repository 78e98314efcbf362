-- How many entries and properties a tree of either layout has, and how many of them are reported.
use Prim.Native.Nat.{ℕ, suc, ◌+◌, ◌≤◌}
use native.Mathlib.Omega.{arith}
use mathlib.Core.Path.{◌≡◌, refl, ◌∙◌}
use mathlib.Core.Bool.{Bool, true, false, cond}
use mathlib.Core.List.{List, [], ◌∷◌, ◌++◌, map}
use lib.ListN.{length, length-append}
use Rattle.rules.specs.Lists.{concat}
use Rattle.rules.specs.Tree.{Entry, plain, parent, Entries, end, more, Node, no_parent, is_reported, reported, preorder1, preorder, nodes_of}

module _ {P : Type 0} where
  -- with all below them
  abbrev mutual
    pub entries_in1 : Entry P → ℕ
    entries_in1 (plain t qs) = 1
    entries_in1 (parent t qs es) = suc (entries_in es)

    pub entries_in : Entries P → ℕ
    entries_in end = 0
    entries_in (more e es) = entries_in1 e + entries_in es

  abbrev mutual
    pub props_in1 : Entry P → ℕ
    props_in1 (plain t qs) = length qs
    props_in1 (parent t qs es) = length qs + props_in es

    pub props_in : Entries P → ℕ
    props_in end = 0
    props_in (more e es) = props_in1 e + props_in es

  -- those of nodes in output order
  abbrev pub props_of : List (Node P) → ℕ
  props_of [] = 0
  props_of (n ∷ ns) = length n.props + props_of ns

  props-append : (a b : List (Node P)) → props_of (a ++ b) ≡ props_of a + props_of b
  props-append [] b = omega arith
  props-append (n ∷ a) b = omega (arith, props-append a b)

  -- in output order they are as many
  abbrev Same : List (Node P) → ℕ → ℕ → Type 0
  Same ns entries props = (length ns ≡ entries) × (props_of ns ≡ props)

  mutual
    unfolding preorder1 preorder

    pub order_many1 : (level up n : ℕ) (e : Entry P) → Same (preorder1 level up n e) (entries_in1 e) (props_in1 e)
    order_many1 level up n (plain t qs) = (refl, omega arith)
    order_many1 level up n (parent t qs es) = let h = order-many (suc level) n (suc n) es in (omega arith, omega arith)

    pub order-many : (level up n : ℕ) (es : Entries P) → Same (preorder level up n es) (entries_in es) (props_in es)
    order-many level up n end = (refl, refl)
    order-many level up n (more e es) =
        let these = preorder1 level up n e in
        let rest = preorder level up (n + length these) es in
        let h = order_many1 level up n e in
        let k = order-many level up (n + length these) es in
        (omega (arith, length-append these rest), omega (arith, props-append these rest))

  -- no more are reported than there are
  abbrev Less : Entries P → Entries P → Type 0
  Less a b = (entries_in a ≤ entries_in b) × (props_in a ≤ props_in b)

  pub reported_less : (es : Entries P) → Less (reported es) es
  unfolding reported
  reported_less end = (omega arith, omega arith)
  reported_less (more e es) = go (is_reported e) (reported_less es)
    where
      go : (b : Bool) → Less (reported es) es → Less (cond b (more e (reported es)) (reported es)) (more e es)
      go true h = (omega arith, omega arith)
      go false h = (omega arith, omega arith)

  pub nodes-many : (es : Entries P) → Same (nodes_of es) (entries_in (reported es)) (props_in (reported es))
  unfolding nodes_of
  nodes-many es = order-many 0 no_parent 0 (reported es)

  -- something for each property of each node
  pub each_long : {A : Type 0} (f : Node P → List A) → ((n : Node P) → length (f n) ≡ length n.props) → (ns : List (Node P)) → length (concat (map f ns)) ≡ props_of ns
  unfolding concat
  each_long f same [] = refl
  each_long f same (n ∷ ns) = length-append (f n) (concat (map f ns)) ∙ omega (arith, same n, each_long f same ns)
