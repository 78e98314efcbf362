-- A walk over entries as they stand in the stream, each before those that it holds: it keeps the lists that are open, the innermost first.
use Rattle.std.specs.Prelude.{ℕ, zero, suc, ◌+◌, Bool, cond, List, [], ◌∷◌, ◌++◌, length}
use Rattle.std.proofs.Math.Option.{Option, none, some}
use Rattle.rules.specs.Lists.{◌>>=◌}
use Rattle.rules.specs.Tree.{Entry, plain, parent, Entries, end, more, Node, node_in, preorder, levels_at}
use Rattle.rows.specs.Acts.{Nodes}

-- an entry without its list, how many entries its list has, where it has one, and the place after
pub record Step (P : Type 0) : Type 0 where
  pub type : ℕ
  pub props : List P
  pub children : Option ℕ
  pub next : ℕ

-- at a level, below the entry of row `up`
abbrev pub node_of : {P : Type 0} → ℕ → ℕ → Step P → Node P
node_of level up x = node_in level up x.type x.props

abbrev pub Steps : Type 0 → Type 0
Steps P = ℕ → Option (Step P)

-- an entry by its step: its list is read by `below`
unfoldable pub close_by : {P : Type 0} → (ℕ → ℕ → Option (Entries P × ℕ)) → Step P → Option (Entry P × ℕ)
close_by below x =
    elim x.children [
      | none ↦ some (plain x.type x.props, x.next)
      | some n ↦ below n x.next >>= λ l. some (parent x.type x.props l.0, l.1)
    ]

unfoldable pub entry_by : {P : Type 0} → Steps P → (ℕ → ℕ → Option (Entries P × ℕ)) → ℕ → Option (Entry P × ℕ)
entry_by step below p = step p >>= close_by below

-- a list that is open: how many of its entries are left, and the row of the entry that holds it
pub record Frame : Type 0 where
  pub left : ℕ
  pub parent : ℕ

abbrev pub frame : ℕ → ℕ → Frame
frame left up = record { left = left; parent = up }

-- of the top list, those that are picked
unfoldable pub picked : {P : Type 0} → (Entry P → Bool) → Entries P → Entries P
picked pick end = end
picked pick (more e es) = cond (pick e) (more e (picked pick es)) (picked pick es)

-- these, and then those
abbrev pub ◌before◌ : {P : Type 0} → List (Node P) → Nodes P → Nodes P
ns before o = o >>= λ y. some (ns ++ y.0, y.1)

infixr 20 ◌before◌
-- ---- what is left to visit. n is the next row; d levels are left in the innermost list
-- the entries that the innermost list has left are read: they come first, then the lists around it. Only of the top list some aren't visited
unfoldable pub tail_at : {P : Type 0} → Steps P → (Entry P → Bool) → ℕ → ℕ → ℕ → List Frame → Entries P × ℕ → Nodes P
tail_at step pick d n up [] x = some (preorder 0 up n (picked pick x.0), x.1)
tail_at step pick d n up (g ∷ fs) x =
    let these = preorder (suc (length fs)) up n x.0 in
    these before (levels_at (entry_by step) (suc d) g.left x.1 >>= tail_at step pick (suc d) (n + length these) g.parent fs)

-- from p on
unfoldable pub rest_at : {P : Type 0} → Steps P → (Entry P → Bool) → ℕ → ℕ → Frame → List Frame → ℕ → Nodes P
rest_at step pick d n f fs p = levels_at (entry_by step) d f.left p >>= tail_at step pick d n f.parent fs

-- after an entry of row n, given how many entries its list has, with d levels left below it: an empty list is as good as none
unfoldable pub behind : {P : Type 0} → Steps P → (Entry P → Bool) → ℕ → ℕ → Frame → List Frame → Option ℕ → ℕ → Nodes P
behind step pick d n f fs none p = rest_at step pick (suc d) (suc n) f fs p
behind step pick d n f fs (some zero) p = rest_at step pick (suc d) (suc n) f fs p
behind step pick d n f fs (some (suc m)) p = rest_at step pick d (suc n) (frame (suc m) n) (f ∷ fs) p
