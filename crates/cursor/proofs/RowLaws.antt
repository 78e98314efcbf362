-- The rows of the entries that a walk visits, whatever the layout: what there is to know of writing them.
use Prim.Native.Nat.{ℕ, ◌+◌, ◌≤◌, ◌<◌}
use native.Mathlib.Omega.{arith}
use mathlib.Core.Path.{◌≡◌, refl, sym, ap, subst, ◌∙◌}
use mathlib.Core.List.{List, [], ◌∷◌, map}
use mathlib.Core.Option.{none, some}
use lib.ListN.{length}
use Rattle.rules.specs.Tree.{Node, levels, levels_at, is_reported, no_parent}
use Rattle.rules.specs.Reading.{Control}
use Rattle.rows.specs.Writing.{State, write_controls}
use Rattle.rows.specs.Acts.{Nodes, top_nodes, Held, Fit, act_by, Ready}
use Rattle.rows.proofs.WritingLaws.{write_lengths}
use Rattle.rows.proofs.ActLaws.{at_place}
use Rattle.cursor.specs.Walk.{Step, Steps, entry_by}
use Rattle.cursor.specs.Stack.{count_of, Before, Moved, stack_words}
use Rattle.cursor.specs.Cursors.{cursor, Passed}
use Rattle.cursor.specs.declared.Cursor.{Cursor}
use Rattle.rows.proofs.WritingLaws.{write-append, write-none}
use Rattle.rows.proofs.ActLaws.{fit_both}
use Rattle.cursor.specs.Work.{RanOf, Ran}
use Rattle.cursor.proofs.VisitLaws as laws
use Rattle.cursor.proofs.VisitLaws.{Visit}
use Rattle.cursor.proofs.WorkLaws.{left_fact}
use Rattle.cursor.proofs.LeftLaws.{left, how_many}
pub use Rattle.cursor.proofs.LeftLaws.{left, how_many, fewer, start-nodes}

abbrev pub writing : {P : Type 0} → (Node P → Control) → List (Node P) → State → State
writing f xs st = write_controls (map f xs) st

-- K is what a layout knows beforehand, f makes a control of a node: the next row is n, what is left fits, and the slices are as long as they were
pub record Fits {P : Type 0} (K : Type 0) (f : Node P → Control) (old : State) (n : ℕ) (xs : List (Node P)) (st : State) : Type 0 where
  pub known : K
  pub fit : Fit (map f xs) st
  pub number : st.ci ≡ n
  pub controls-same : length st.cs ≡ length old.cs
  pub properties-same : length st.ps ≡ length old.ps

pub writes : {P : Type 0} (K : Type 0) (f : Node P → Control) (old : State) → Visit (λ _ x st. write_controls (f x ∷ []) st) (λ _. writing f) (Fits K f old)
unfolding write_controls
writes K f old n = record {
  none_left = λ st. write-none st;
  one_more = λ x xs st. write-append (f x ∷ []) (map f xs) st;
  ok-more = λ x xs st h.
      let l = write_lengths (f x ∷ []) st in
      record {
        known = h.known;
        fit = (fit_both (f x ∷ []) (map f xs) st h.fit).1;
        number = omega (arith, h.number);
        controls-same = l.0 ∙ h.controls-same;
        properties-same = l.1 ∙ h.properties-same;
      };
}

pub record Going {P : Type 0} (step : Steps P) (K : Type 0) (f : Node P → Control) (whole : Nodes P) (old : State) (a : List ℕ) (c : Cursor) (now : State) : Type 0 where
  pub goes : laws.Going step (Ran (writing f) whole old) (λ _. writing f) (Fits K f old) a c now.ci now

fits_all : {P : Type 0} {K : Type 0} {f : Node P → Control} (st : State) → st.ci ≡ 0 → (o : Nodes P) → Ready K f o st → Held (λ y. Fits K f st 0 y.0 st) o
fits_all st z none h = h.fits
fits_all st z (some y) h = record { known = h.known; fit = h.fits; number = z; controls-same = refl; properties-same = refl }

module _ {P : Type 0} {step : Steps P} {K : Type 0} {f : Node P → Control} where
  pub going_start : {whole : Nodes P} (st : State) (a : List ℕ) (n at : ℕ) (r : Cursor) → top_nodes (levels_at (entry_by step) levels n at) ≡ whole → st.ci ≡ 0
      → length a ≡ stack_words → Ready K f whole st → Passed step is_reported (cursor at 0 n no_parent) r → Going step K f whole st a r st
  going_start {whole = whole} st a n at r e z l h p = record {
    goes = subst (λ (i : ℕ). laws.Going step (Ran (writing f) whole st) (λ _. writing f) (Fits K f st) a r i st) (sym z) (laws.going_start (writes K f st) st a n at r e l (fits_all st z whole h) p);
  }

  module _ {whole : Nodes P} {old : State} {a : List ℕ} {c : Cursor} {now : State} (g : Going step K f whole old a c now) where
    abbrev W : Visit (λ _ x st. write_controls (f x ∷ []) st) (λ _. writing f) (Fits K f old)
    W = writes K f old

    wrote : (o : Nodes P) (st : State) (e : ℕ) → Held (RanOf (writing f) old st e) o → some (at_place st e) ≡ act_by f o old
    wrote none st e h = absurd h
    wrote (some x) st e h = λ i. some (at_place (h.is i) (h.next-is i))

    pub going_done : c.left ≤ 0 → some (at_place now c.at) ≡ act_by f whole old
    going_done l = wrote whole now c.at (laws.going_done W g.goes l).held

    -- what is known, and how long the slices are
    pub going-known : K
    going-known = left_fact g.goes.rest (λ xs h. h.known)

    pub controls-same : length now.cs ≡ length old.cs
    controls-same = left_fact g.goes.rest (λ xs h. h.controls-same)

    pub properties-same : length now.ps ≡ length old.ps
    properties-same = left_fact g.goes.rest (λ xs h. h.properties-same)

    module _ (l : 0 < c.left) where
      -- the entry that the cursor stands before, and its node
      abbrev pub entry : Step P
      entry = laws.entry W g.goes l

      abbrev pub node : Node P
      node = laws.node W g.goes l

      pub entry_read : step c.at ≡ some entry
      entry_read = laws.entry_read W g.goes l

      pub going_before : Before a c
      going_before = laws.going_before W g.goes l

      pub going-ready : (q : ℕ) → Ready K f (some (node ∷ [], q)) now
      going-ready q = laws.going_asks W g.goes l (λ xs h. record { known = h.known; fits = (fit_both (f node ∷ []) (map f xs) now h.fit).0 })

      -- its row is written, and the cursor went on
      module _ (next : State) (w : next ≡ write_controls (f node ∷ []) now) (a' : List ℕ) (r r' : Cursor)
          (m : Moved a c now.ci (count_of entry.children) entry.next a' r) (k : Passed step is_reported r r') where
        number_is : next.ci ≡ now.ci + 1
        unfolding write_controls
        number_is = ap (λ (st : State). st.ci) w

        pub going_less : how_many (left step next.ci a' r') < how_many (left step now.ci a c)
        going_less = subst (λ (i : ℕ). how_many (left step i a' r') < how_many (left step now.ci a c)) (sym number_is) (laws.going_less W g.goes l w a' m k)

        pub going_next : Going step K f whole old a' r' next
        going_next = record {
          goes = subst (λ (i : ℕ). laws.Going step (Ran (writing f) whole old) (λ _. writing f) (Fits K f old) a' r' i next) (sym number_is) (laws.going_next W g.goes l w a' m k);
        }
