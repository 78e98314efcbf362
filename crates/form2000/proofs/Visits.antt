-- For any walk over an Access 2000 stream that keeps a running value: a run gone through a property at a time, an entry's parts, and the entries that a cursor visits.
use Prim.Native.Nat.{ℕ, ◌+◌, ◌≤◌, ◌<◌}
use mathlib.Core.Path.{◌≡◌, refl, sym, ap, ◌∙◌}
use mathlib.Core.Bool.{true, false}
use mathlib.Core.List.{List, ◌∷◌}
use mathlib.Core.Option.{Option, none, some}
use Rattle.std.proofs.Common as code
use lib.ListN.{length}
use Rattle.rules.specs.Lists.{◌>>=◌}
use Rattle.rules.specs.Bytes.{byte, u16, half_at_lem}
use Rattle.rules.specs.Tree.{Node, no_parent, levels, is_reported}
use Rattle.rules.specs.Access2000.{Prop, property_at, goes_on_lem, run_at, head_at_lem}
use Rattle.rules.specs.Told.{told_as}
use Rattle.rules.proofs.ListLaws.{none_some, every_at}
use Rattle.rows.specs.Acts.{top_nodes, Held}
use Rattle.walk2000.specs.Told as told
use Rattle.walk2000.specs.declared.Extent.{Extent}
use Rattle.run2000.specs.Runs.{prop}
use Rattle.run2000.proofs.RunSteps as steps
use Rattle.node2000.proofs.NodeLaws.{half_is}
use Rattle.cursor.specs.Walk.{Step}
use Rattle.cursor.specs.Stack.{count_of, Moved}
use Rattle.cursor.specs.Cursors.{cursor, Passed, PastReady, Past}
use Rattle.cursor.specs.Work.{RanOf, Ran}
use Rattle.cursor.specs.declared.Cursor.{Cursor}
use Rattle.cursor.proofs.RowLaws.{left, how_many, start-nodes}
use Rattle.cursor.proofs.WorkLaws.{Work, Left, left-start, left_fact, left-done, left_asks_fact, left-next, ran_some}
use Rattle.cursor.proofs.VisitLaws as laws
use Rattle.cursor.proofs.VisitLaws.{Visit, EntryWork, Going}
use Rattle.cursor2000.specs.Steps.{step_at, list_at_lem}
use Rattle.cursor2000.proofs.StepLaws.{entries_same, list_some}
use Rattle.form2000.specs.Acts.{top_at}

-- ---- a run: what is left of it from p on
pub record Running {A : Type 0} (wanted : A → ℕ → Type 0) (one : Prop → A → A) (all : List Prop → A → A) (Ok : List Prop → A → Type 0) (s : List ℕ) (p : ℕ) (now : A) : Type 0 where
  pub work : Work one all all Ok Ok
  pub rest : Left wanted all Ok (run_at s p) now

pub run-start : {A : Type 0} {one : Prop → A → A} {all : List Prop → A → A} {Ok : List Prop → A → Type 0} {s : List ℕ} {p : ℕ} {old : A}
    → Work one all all Ok Ok → Held (λ y. Ok y.0 old) (run_at s p) → Running (Ran all (run_at s p) old) one all Ok s p old
run-start W h = record { work = W; rest = left-start h }

module _ {A : Type 0} {one : Prop → A → A} {all : List Prop → A → A} {Ok : List Prop → A → Type 0} {wanted : A → ℕ → Type 0} {s : List ℕ} {p : ℕ} {now : A}
    (k : Running wanted one all Ok s p now) where
  pub run-stop : goes_on_lem s p ≡ false → wanted now p
  run-stop t = left-done k.rest (k.work.none_left now) (steps.run-stop s p t)

  module _ {r : code.Option Extent} (goes : goes_on_lem s p ≡ true) (re : r ≡ told_as told.value (property_at s p)) where
    module _ {v : Extent} (e : r ≡ code.Some v) where
      abbrev this : Prop
      this = prop (byte s p) v.start v.size

      more : run_at s p ≡ steps.with_first this (run_at s (v.start + v.size))
      more = steps.run_more s p r v goes re e

      -- what a property more asks
      pub run_asks : {Q : Type 0} → ((qs : List Prop) → Ok (this ∷ qs) now → Q) → Q
      run_asks f = left_asks_fact k.rest this (run_at s (v.start + v.size)) more f

      pub run_on : {next : A} → next ≡ one this now → Running wanted one all Ok s (v.start + v.size) next
      run_on w = record { work = k.work; rest = left-next k.rest this (run_at s (v.start + v.size)) more k.work w }

-- ---- an entry as the code reads it: its run ends at `end`, and the head of its list stands there
pub record Parts (s : List ℕ) (p : ℕ) (x : Step Prop) : Type 0 where
  pub half : half_at_lem s p ≡ some x.type
  pub inside : p + 1 < length s
  pub type-is : x.type ≡ u16 s p
  pub end : ℕ
  pub run_is : run_at s (p + 2) ≡ some (x.props, end)
  pub list-is : list_at_lem s end ≡ some (count_of x.children, x.next)

pub parts : (s : List ℕ) (p : ℕ) (x : Step Prop) → step_at s p ≡ some x → Parts s p x
unfolding step_at
parts s p x e = go (half_at_lem s p) refl (run_at s (p + 2)) refl e
  where
    step_in : ℕ → List Prop → Option ℕ × ℕ → Option (Step Prop)
    step_in t ps h = some (record { type = t; props = ps; children = h.0; next = h.1 })

    heads : (t : ℕ) → half_at_lem s p ≡ some t → (z : List Prop × ℕ) → run_at s (p + 2) ≡ some z → (h : Option (Option ℕ × ℕ)) → head_at_lem s z.1 ≡ h → (h >>= step_in t z.0) ≡ some x → Parts s p x
    heads t te z ze none k e = absurd (none_some e)
    heads t te z ze (some h) k e =
        let w : record { type = t; props = z.0; children = h.0; next = h.1 } ≡ x = cc in
        let half = every_at (λ n. (n ≡ u16 s p) × (p + 1 < length s)) (half_at_lem s p) t (half_is s p) te in
        record {
          half = te ∙ ap (λ (y : Step Prop). some y.type) w;
          inside = half.1;
          type-is = sym (ap (λ (y : Step Prop). y.type) w) ∙ half.0;
          end = z.1;
          run_is = ze ∙ ap (λ (y : Step Prop). some (y.props, z.1)) w;
          list-is = list_some s z.1 h.0 h.1 k ∙ ap (λ (y : Step Prop). some (count_of y.children, y.next)) w;
        }

    go : (a : Option ℕ) → half_at_lem s p ≡ a → (b : Option (List Prop × ℕ)) → run_at s (p + 2) ≡ b → (a >>= λ t. b >>= λ z. head_at_lem s z.1 >>= step_in t z.0) ≡ some x → Parts s p x
    go none ae b be e = absurd (none_some e)
    go (some t) ae none be e = absurd (none_some e)
    go (some t) ae (some z) be e = heads t ae z be (head_at_lem s z.1) refl e

-- ---- the entries that are reported of the top list
-- what is left of them from a cursor on
pub record Visiting {A : Type 0} (wanted : A → ℕ → Type 0) (one : ℕ → ℕ → List Prop → A → A) (all : ℕ → List (Node Prop) → A → A) (Ok : ℕ → List (Node Prop) → A → Type 0)
    (s a : List ℕ) (c : Cursor) (i : ℕ) (now : A) : Type 0 where
  pub work : EntryWork one all Ok
  pub goes : Going (step_at s) wanted all Ok a c i now

-- all of them, from the first cursor on
pub top-all : (s : List ℕ) (n at : ℕ) (a : List ℕ) {b r : Cursor} → b ≡ cursor at 0 n no_parent → Passed (step_at s) is_reported b r → left (step_at s) 0 a r ≡ top_at s n at
top-all s n at a {r = r} e k =
    let p : Passed (step_at s) is_reported (cursor at 0 n no_parent) r = rw e at k in
    p.is 0 a ∙ start-nodes (step_at s) a n at ∙ ap top_nodes (sym (entries_same s levels n at))

module _ {A : Type 0} {one : ℕ → ℕ → List Prop → A → A} {all : ℕ → List (Node Prop) → A → A} {Ok : ℕ → List (Node Prop) → A → Type 0} where
  pub top_start : {s : List ℕ} {n at : ℕ} (st : A) (a : List ℕ) {b r : Cursor} → EntryWork one all Ok → length a ≡ 512 → Held (λ y. Ok 0 y.0 st) (top_at s n at)
      → b ≡ cursor at 0 n no_parent → Passed (step_at s) is_reported b r → Visiting (Ran (all 0) (top_at s n at) st) one all Ok s a r 0 st
  top_start {s = s} {n = n} {at = at} st a {r = r} W l h e p =
      record { work = W; goes = laws.going_start W.visit st a n at r (ap top_nodes (sym (entries_same s levels n at))) l h (rw e at p) }

  module _ {wanted : A → ℕ → Type 0} {s a : List ℕ} {c : Cursor} {i : ℕ} {now : A} (g : Visiting wanted one all Ok s a c i now) where
    abbrev W : Visit (λ n x. one n x.type x.props) all Ok
    W = g.work.visit

    pub top-stop : c.left ≤ 0 → wanted now c.at
    top-stop l = laws.going_done W g.goes l

    -- what is asked whatever is left
    pub top_fact : {Q : Type 0} → ((xs : List (Node Prop)) → Ok i xs now → Q) → Q
    top_fact f = left_fact g.goes.rest f

    module _ (l : 0 < c.left) where
      abbrev pub entry : Step Prop
      entry = laws.entry W g.goes l

      pub its : Parts s c.at entry
      its = parts s c.at entry (laws.entry_read W g.goes l)

      pub entry-there : Held (λ _. Unit {0}) (run_at s (c.at + 2))
      entry-there = rw its.run_is tt

      -- what the entry asks
      pub top_asks : {Q : Type 0} → ((xs : List (Node Prop)) → Ok i (laws.node W g.goes l ∷ xs) now → Q) → Q
      top_asks f = laws.going_asks W g.goes l f

      -- it is done, and its run ends at e
      module _ {next : A} {e : ℕ} (d : Ran (one i (u16 s c.at)) (run_at s (c.at + 2)) now next e) where
        made : RanOf (one i (u16 s c.at)) now next e (entry.props, its.end)
        made = ran_some its.run_is d

        list-there : list_at_lem s e ≡ some (count_of entry.children, entry.next)
        list-there = ap (list_at_lem s) made.next-is ∙ its.list-is

        did : next ≡ one i entry.type entry.props now
        did = made.is ∙ ap (λ (k : ℕ). one i k entry.props now) (sym its.type-is)

        pub top_past : PastReady a c (list_at_lem s e)
        top_past = record { before = laws.going_before W g.goes l; there = rw list-there tt }

        module _ (a' : List ℕ) {r r' : Cursor} (p : Past a c i (list_at_lem s e) a' r) (q : Passed (step_at s) is_reported r r') where
          moved : Moved a c i (count_of entry.children) entry.next a' r
          moved = rw list-there at p

          pub top_less : how_many (left (step_at s) (i + 1) a' r') < how_many (left (step_at s) i a c)
          top_less = laws.going_less W g.goes l did a' moved q

          pub top-next : Visiting wanted one all Ok s a' r' (i + 1) next
          top-next = record { work = g.work; goes = laws.going_next W g.goes l did a' moved q }
