-- For any walk over a whole Access 2000 stream: its parts, what stands after the object's run, and that its counts are those of the reading.
use Prim.Native.Nat.{ℕ, ◌+◌, ◌≤◌}
use native.Mathlib.Omega.{arith}
use mathlib.Core.Path.{◌≡◌, refl, ap, ◌∙◌}
use mathlib.Core.List.{List}
use mathlib.Core.Option.{Option, none, some}
use Rattle.std.proofs.Common as code
use lib.Dec.{eqb}
use lib.ListN.{length, length-map}
use borrow.Author.Tests.{eqb-true}
use Rattle.rules.specs.Answer.{longest}
use Rattle.rules.specs.Tree.{Entries, reported, nodes_of, levels}
use Rattle.rules.specs.Access2000.{Prop, run_at, head_at_lem, entries_at, stream_of}
use Rattle.rules.specs.Read2000.{object_key, property_in, control_of, read2000}
use Rattle.rules.specs.Told.{told_as}
use Rattle.rules.proofs.ToldLaws.{told_as_some, told_as_none}
use Rattle.rules.proofs.ListLaws.{Every, every_if, every_when, every_at}
use Rattle.rows.specs.Counting.{size, props}
use Rattle.rows.specs.Acts.{top_nodes, Held}
use Rattle.rows.proofs.LevelLaws.{EntriesGrow, fewer}
use Rattle.rows.proofs.CountingLaws.{nodes_of_lem, props_of_lem}
use Rattle.rows.specs.Judge.{Counts, Answerable}
use Rattle.rows.proofs.JudgeLaws.{made-counts}
use Rattle.walk2000.specs.Told as walked
use Rattle.count2000.specs.Told as told
use Rattle.walk2000.specs.declared.Opens.{Opens}
use Rattle.count2000.specs.declared.StreamTally.{StreamTally}
use Rattle.walk2000.proofs.Grows.{run_grows, head_grows, entries_grow}
use Rattle.form2000.specs.Acts.{top_at}

-- ---- the parts of a stream
pub record StreamParts (s : List ℕ) (x : List Prop × Entries Prop) : Type 0 where
  pub place : ℕ
  pub many : ℕ
  pub first : ℕ
  pub run : run_at s 10 ≡ some (x.0, place)
  pub head : head_at_lem s place ≡ some (some many, first)
  pub list : entries_at levels s many first ≡ some (x.1, length s)

pub stream_parts : (s : List ℕ) → Every (StreamParts s) (stream_of s)
unfolding stream_of
stream_parts s =
    every_when (StreamParts s) (run_at s 10) _ λ a ae.
    every_when (StreamParts s) (head_at_lem s a.1) _ λ h he.
    every_when (StreamParts s) h.0 _ λ n ne.
    every_when (StreamParts s) (entries_at levels s n h.1) _ λ l le.
    every_if (StreamParts s) (eqb l.1 (length s)) _ _
    (λ t. let e : l.1 ≡ length s = eqb-true _ _ t in record {
      place = a.1;
      many = n;
      first = h.1;
      run = ae;
      head = he ∙ (λ i. some (ne i, h.1));
      list = le ∙ (λ i. some (l.0, e i));
    }) λ _. tt

-- ---- counts
pub same-properties : (t s : List ℕ) (n : _) → length (control_of t s n).properties ≡ length n.props
unfolding control_of
same-properties t s n = simp length-map

module _ (t s : List ℕ) (x : List Prop × Entries Prop) where
  pub counts : Counts (read2000 t s x) (size (reported x.1)) (length x.0 + props (reported x.1)) (length x.0)
  unfolding read2000
  counts =
      let k = made-counts (property_in t s (object_key s)) (control_of t s) (same-properties t s) x.0 (nodes_of x.1) in
      rw (nodes_of_lem x.1, props_of_lem x.1) at k

  -- a stream is longer than all that is counted of it
  pub few : stream_of s ≡ some x → length x.0 + (size (reported x.1) + props (reported x.1)) ≤ length s
  few e =
      let p = every_at (StreamParts s) (stream_of s) x (stream_parts s) e in
      let a = every_at _ (run_at s 10) (x.0, p.place) (run_grows s 10) p.run in
      let b = every_at _ (head_at_lem s p.place) (some p.many, p.first) (head_grows s p.place) p.head in
      let c = every_at (EntriesGrow p.first) (entries_at levels s p.many p.first) (x.1, length s) (entries_grow levels s p.many p.first) p.list in
      omega (arith, a, b, c, fewer x.1)

-- ---- a stream of which P holds
pub record Known (s : List ℕ) (P : List Prop × Entries Prop → Type 0) : Type 0 where
  pub tree : List Prop × Entries Prop
  pub reads : stream_of s ≡ some tree
  pub holds : P tree

pub known : {s : List ℕ} (P : List Prop × Entries Prop → Type 0) → Held P (stream_of s) → Known s P
known {s = s} P h = go (stream_of s) refl h
  where
    go : (o : Option (List Prop × Entries Prop)) → stream_of s ≡ o → Held P o → Known s P
    go none e k = absurd k
    go (some x) e k = record { tree = x; reads = e; holds = k }

module _ {s : List ℕ} {P : List Prop × Entries Prop → Type 0} (is : Known s P) where
  pub parts : StreamParts s is.tree
  parts = every_at (StreamParts s) (stream_of s) is.tree (stream_parts s) is.reads

  -- what stands after the object's run
  module _ {end : ℕ} (ee : end ≡ parts.place) {o : code.Option Opens} (oe : o ≡ told_as walked.head (head_at_lem s end)) where
    head-is : head_at_lem s end ≡ some (some parts.many, parts.first)
    head-is = ap (head_at_lem s) ee ∙ parts.head

    pub opens-is : o ≡ code.Some (Opens.Listed parts.many parts.first)
    opens-is = oe ∙ ap (told_as walked.head) head-is

    pub never-plain : {e : ℕ} → o ≡ code.Some (Opens.Plain e) → ⊥
    never-plain k = let z = opens-is in cc

    pub never_bad : o ≡ code.None → ⊥
    never_bad k = let z = opens-is in cc

    -- the top list
    module _ {n next : ℕ} (k : o ≡ code.Some (Opens.Listed n next)) where
      pub list-is : entries_at levels s n next ≡ some (is.tree.1, length s)
      list-is =
          let z = opens-is in
          let b : n ≡ parts.many = cc in
          let c : next ≡ parts.first = cc in
          let d : entries_at levels s n next ≡ entries_at levels s parts.many parts.first = λ i. entries_at levels s (b i) (c i) in
          d ∙ parts.list

      pub top-is : top_at s n next ≡ some (nodes_of is.tree.1, length s)
      top-is = ap top_nodes list-is

-- ---- what is known of a stream that was counted
pub record Facts (t s : List ℕ) (all theirs own : ℕ) : Type 0 where
  pub tree : List Prop × Entries Prop
  pub reads : stream_of s ≡ some tree
  pub has : Counts (read2000 t s tree) all theirs own
  pub few-all : all + theirs ≤ length s
  pub few-own : own ≤ theirs

module _ (t s : List ℕ) {r : code.Option StreamTally} (re : r ≡ told_as told.stream_tally (stream_of s)) where
  pub none_of : r ≡ code.None → stream_of s ≡ none
  none_of k = told_as_none told.stream_tally (stream_of s) r re k

  module _ {y : StreamTally} (k : r ≡ code.Some y) where
    pub facts : Facts t s y.controls y.props y.own
    facts =
        let w = told_as_some told.stream_tally (stream_of s) r re k in
        let x = w.0 in
        let a : size (reported x.1) ≡ y.controls = ap (λ z. z.controls) w.2 in
        let b : length x.0 + props (reported x.1) ≡ y.props = ap (λ z. z.props) w.2 in
        let c : length x.0 ≡ y.own = ap (λ z. z.own) w.2 in
        let f = few t s x w.1 in
        let n = counts t s x in
        record {
          tree = x;
          reads = w.1;
          has = record { controls-are = n.controls-are ∙ a; properties-are = n.properties-are ∙ b; own-are = n.own-are ∙ c };
          few-all = omega (arith, f, a, b, c);
          few-own = omega (arith, b, c);
        }

    pub counts-small : length s ≤ longest → Answerable y.controls y.props y.own
    counts-small small = record { few = omega (arith, facts.few-all, small); among = facts.few-own }
