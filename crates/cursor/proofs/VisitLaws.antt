-- The nodes that a walk visits, whatever the layout and whatever is done: what is left from a cursor on, and then all is done.
use Prim.Native.Nat.{ℕ, suc, ◌+◌, ◌≤◌, ◌<◌}
use native.Mathlib.Omega.{arith}
use mathlib.Core.Path.{◌≡◌, refl, ap, ◌∙◌}
use mathlib.Core.List.{List, ◌∷◌}
use mathlib.Core.Option.{some}
use lib.ListN.{length}
use Rattle.rules.specs.Tree.{Node, levels, levels_at, is_reported, no_parent}
use Rattle.rows.specs.Acts.{Nodes, top_nodes, Held}
use Rattle.cursor.specs.Walk.{Step, node_of, Steps, entry_by}
use Rattle.cursor.specs.Stack.{count_of, Before, Moved, stack_words}
use Rattle.cursor.specs.Cursors.{cursor, Picked, Passed}
use Rattle.cursor.specs.Work.{Ran}
use Rattle.cursor.specs.declared.Cursor.{Cursor}
use Rattle.cursor.proofs.StackLaws.{done}
use Rattle.cursor.proofs.CursorLaws.{left_behind_lem, rest-behind, Stands, stands, rest-done}
use Rattle.cursor.proofs.LeftLaws.{left, how_many, fewer, start-nodes}
use Rattle.cursor.proofs.WorkLaws.{Work, Left, left-start, left_there, left-done, left_asks_fact, left-next}

-- n is the number of the next node
pub record Going {P A : Type 0} (step : Steps P) (wanted : A → ℕ → Type 0) (all : ℕ → List (Node P) → A → A) (Ok : ℕ → List (Node P) → A → Type 0)
    (a : List ℕ) (c : Cursor) (n : ℕ) (now : A) : Type 0 where
  pub long : length a ≡ stack_words
  pub low : c.level ≤ levels
  pub picked : Picked step is_reported c
  pub done : c.left ≡ 0 → c.level ≡ 0
  pub rest : Left wanted (all n) (Ok n) (left step n a c) now

-- what is done to a node by its number
abbrev pub Visit : {P A : Type 0} → (ℕ → Node P → A → A) → (ℕ → List (Node P) → A → A) → (ℕ → List (Node P) → A → Type 0) → Type 0
Visit one all Ok = (n : ℕ) → Work (one n) (all n) (all (n + 1)) (Ok n) (Ok (n + 1))

-- the same, by the node's type and its properties alone
pub record EntryWork {P A : Type 0} (one : ℕ → ℕ → List P → A → A) (all : ℕ → List (Node P) → A → A) (Ok : ℕ → List (Node P) → A → Type 0) : Type 0 where
  pub visit : Visit (λ n x. one n x.type x.props) all Ok

module _ {P A : Type 0} {step : Steps P} {one : ℕ → Node P → A → A} {all : ℕ → List (Node P) → A → A} {Ok : ℕ → List (Node P) → A → Type 0} (W : Visit one all Ok) where
  pub going_start : {o : Nodes P} (st : A) (a : List ℕ) (n at : ℕ) (r : Cursor) → top_nodes (levels_at (entry_by step) levels n at) ≡ o
      → length a ≡ stack_words → Held (λ y. Ok 0 y.0 st) o → Passed step is_reported (cursor at 0 n no_parent) r → Going step (Ran (all 0) o st) all Ok a r 0 st
  going_start {o = o} st a n at r e l h p =
      let q : left step 0 a r ≡ o = p.is 0 a ∙ start-nodes step a n at ∙ e in
      record { long = l; low = omega (arith, p.level-is); picked = p.picked; done = p.done (λ _. refl); rest = rw q (left-start h) }

  module _ {wanted : A → ℕ → Type 0} {a : List ℕ} {c : Cursor} {n : ℕ} {now : A} (g : Going step wanted all Ok a c n now) where
    pub going_done : c.left ≤ 0 → wanted now c.at
    going_done l =
        let z : c.left ≡ 0 = omega arith in
        left-done g.rest ((W n).none_left now) (rest-done step is_reported n a c z (g.done z))

    module _ (l : 0 < c.left) where
      there : Held (λ _. Unit {0}) (left step n a c)
      there = left_there g.rest

      pub at_entry : Stands step is_reported n a c
      at_entry = stands step is_reported n a c l g.low g.picked there

      -- the entry that the cursor stands before
      abbrev pub entry : Step P
      entry = at_entry.entry

      -- and its node
      abbrev pub node : Node P
      node = node_of c.level c.parent entry

      pub entry_read : step c.at ≡ some entry
      entry_read = at_entry.read

      pub going_before : Before a c
      going_before = record { long = g.long; some_left = l; low = at_entry.low }

      abbrev behind_it : Nodes P
      behind_it = left_behind_lem step is_reported n a c entry

      -- what it asks
      pub going_asks : {Q : Type 0} → ((xs : List (Node P)) → Ok n (node ∷ xs) now → Q) → Q
      going_asks f = left_asks_fact g.rest node behind_it at_entry.is f

      -- it is done, and the cursor went on
      module _ {next : A} (w : next ≡ one n node now) (a' : List ℕ) {r r' : Cursor} (m : Moved a c n (count_of entry.children) entry.next a' r) (p : Passed step is_reported r r') where
        onward : left step (n + 1) a' r' ≡ behind_it
        onward =
            let z : n + 1 ≡ suc n = omega arith in
            ap (λ (i : ℕ). left step i a' r') z ∙ p.is (suc n) a' ∙ rest-behind step is_reported n a c entry a' r at_entry.low m

        pub going_less : how_many (left step (n + 1) a' r') < how_many (left step n a c)
        going_less = omega (arith, fewer node behind_it (rw at_entry.is at there), ap how_many onward, ap how_many at_entry.is)

        pub going_next : Going step wanted all Ok a' r' (n + 1) next
        going_next = record {
          long = m.long ∙ g.long;
          low = omega (arith, m.low, p.level-is);
          picked = p.picked;
          done = p.done (done a c n (count_of entry.children) entry.next a' r m);
          rest = rw onward (left-next g.rest node behind_it at_entry.is (W n) w);
        }
