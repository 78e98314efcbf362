-- The rows of the entries of an Access 2000 stream that a walk visits, from what the code answers.
use Prim.Native.Nat.{ℕ, ◌≤◌, ◌<◌}
use native.Mathlib.Omega.{arith}
use mathlib.Core.Path.{◌≡◌, sym, ap, ◌∙◌}
use mathlib.Core.List.{List, [], ◌∷◌}
use mathlib.Core.Option.{some}
use lib.ListN.{length}
use Rattle.rules.specs.Answer.{longest}
use Rattle.rules.specs.Tree.{Node, no_parent, levels, is_reported}
use Rattle.rules.specs.Access2000.{Prop}
use Rattle.rules.specs.Read2000.{control_of}
use Rattle.rows.specs.Writing.{State, write_controls}
use Rattle.rows.specs.Acts.{top_nodes, Stood, state_at, stood_at}
use Rattle.rows.specs.declared.Next.{Next}
use Rattle.rows.specs.declared.Nesting.{Nesting}
use Rattle.rows.proofs.ActLaws.{at_place}
use Rattle.node2000.specs.Nodes.{node_at, act, Given, NodeReady, NodeDone}
use Rattle.cursor.specs.Walk.{Step, node_of}
use Rattle.cursor.specs.Stack.{count_of, Moved}
use Rattle.cursor.specs.Cursors.{cursor, nesting, Passed, PastReady, Past}
use Rattle.cursor.specs.declared.Cursor.{Cursor}
use Rattle.cursor.proofs.RowLaws as laws
use Rattle.cursor.proofs.RowLaws.{left, how_many}
use Rattle.cursor2000.specs.Steps.{step_at, list_at_lem}
use Rattle.cursor2000.proofs.StepLaws.{entries_same}
use Rattle.form2000.specs.Acts.{top_at, TopReady, TopDone}
use Rattle.form2000.proofs.Visits.{Parts, parts}

-- ---- an entry as the code reads it
node-is : (at : Nesting) (s : List ℕ) (p : ℕ) (x : Step Prop) (k : Parts s p x) → node_at at s p ≡ some (node_of at.level at.parent x ∷ [], k.end)
unfolding node_at
node-is at s p x k = rw (k.half, k.run_is)

-- ---- the loop
pub record Going (t scopes s : List ℕ) (n : ℕ) (controls rows : List ℕ) (start : Next) (a : List ℕ) (c : Cursor) (controls' rows' : List ℕ) (next : Next) : Type 0 where
  pub goes : laws.Going (step_at s) (Given t scopes s) (control_of t s) (top_at s n start.at) (state_at controls rows start) a c (state_at controls' rows' next)

pub going_start : {t scopes s : List ℕ} {n : ℕ} {controls rows : List ℕ} {start : Next} (a : List ℕ) {b r : Cursor} → length a ≡ 512
    → TopReady t scopes s n controls rows start → b ≡ cursor start.at 0 n no_parent → Passed (step_at s) is_reported b r
    → Going t scopes s n controls rows start a r controls rows start
going_start {s = s} {n = n} {controls = controls} {rows = rows} {start = start} a {r = r} l h e p = record {
  goes = laws.going_start (state_at controls rows start) a n start.at r (ap top_nodes (sym (entries_same s levels n start.at))) h.first l h.ready (rw e at p);
}

module _ {t scopes s : List ℕ} {n : ℕ} {controls rows : List ℕ} {start : Next} {a : List ℕ} {c : Cursor} {controls' rows' : List ℕ} {next : Next}
    (g : Going t scopes s n controls rows start a c controls' rows' next) where
  abbrev now : State
  now = state_at controls' rows' next

  -- where the next entry is written
  abbrev here : Next
  here = record { at = c.at; control = next.control; property = next.property }

  pub going_done : c.left ≤ 0 → TopDone t s n controls rows start controls' rows' here
  going_done l = laws.going_done g.goes l

  module _ (l : 0 < c.left) where
    abbrev entry : Step Prop
    entry = laws.entry g.goes l

    abbrev node : Node Prop
    node = laws.node g.goes l

    its : Parts s c.at entry
    its = parts s c.at entry (laws.entry_read g.goes l)

    its-node : node_at (nesting c) s c.at ≡ some (node ∷ [], its.end)
    its-node = node-is (nesting c) s c.at entry its

    pub going-ready : NodeReady t scopes s controls' rows' here (nesting c)
    going-ready = record { ready = rw its-node (laws.going-ready g.goes l its.end) }

    pub going-small : next.control ≤ longest
    going-small = omega (arith, (laws.going-ready g.goes l 0).fits.few)

    pub going-low : c.level < 256
    going-low = (laws.going_before g.goes l).low

    -- the entry is written, and its run ends at e
    module _ {controls'' rows'' : List ℕ} {e : Next} (w : NodeDone t s controls' rows' here (nesting c) controls'' rows'' e) where
      wrote : stood_at controls'' rows'' e ≡ at_place (write_controls (control_of t s node ∷ []) now) its.end
      wrote = let z : some (stood_at controls'' rows'' e) ≡ act t s (some (node ∷ [], its.end)) now = rw its-node at w in cc

      list-there : list_at_lem s e.at ≡ some (count_of entry.children, entry.next)
      list-there = ap (λ (y : Stood). list_at_lem s y.next) wrote ∙ its.list-is

      pub going_past : PastReady a c (list_at_lem s e.at)
      going_past = record { before = laws.going_before g.goes l; there = rw list-there tt }

      module _ (a' : List ℕ) {r r' : Cursor} (p : Past a c next.control (list_at_lem s e.at) a' r) (k : Passed (step_at s) is_reported r r') where
        moved : Moved a c next.control (count_of entry.children) entry.next a' r
        moved = rw list-there at p

        pub going_less : how_many (left (step_at s) e.control a' r') < how_many (left (step_at s) next.control a c)
        going_less = laws.going_less g.goes l (state_at controls'' rows'' e) (ap (λ (y : Stood). y.state) wrote) a' r r' moved k

        pub going_next : Going t scopes s n controls rows start a' r' controls'' rows'' e
        going_next = record { goes = laws.going_next g.goes l (state_at controls'' rows'' e) (ap (λ (y : Stood). y.state) wrote) a' r r' moved k }
