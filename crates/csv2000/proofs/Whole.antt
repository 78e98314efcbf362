-- The whole stream: the object's records, then those of the top list.
use Prim.Native.Nat.{ℕ, ◌-◌, ◌≤◌}
use native.Mathlib.Omega.{arith}
use mathlib.Core.Path.{◌≡◌, ap, ◌∙◌}
use mathlib.Core.List.{List, map}
use mathlib.Core.Option.{some}
use lib.ListN.{length}
use Rattle.std.proofs.Common.{Option, Some}
use Rattle.rules.specs.Answer.{longest}
use Rattle.rules.specs.Tree.{nodes_of}
use Rattle.rules.specs.Access2000.{head_at_lem}
use Rattle.rules.specs.Read2000.{object_key, property_in, control_of, read2000}
use Rattle.rules.specs.Told.{told_as}
use Rattle.rows.proofs.CountingLaws.{nodes_of_lem}
use Rattle.coderows.specs.Look.{Finds, body_rows}
use Rattle.coderows.specs.declared.Body.{Body}
use Rattle.walk2000.specs.Told as walked
use Rattle.walk2000.specs.declared.Opens.{Opens}
use Rattle.run2000.specs.Runs.{shown_in}
use Rattle.run2000.proofs.Written.{shown-same}
use Rattle.cursor.specs.Work.{RanOf}
use Rattle.cursor.proofs.WorkLaws.{ran_some}
use Rattle.form2000.specs.Acts.{top_at}
use Rattle.form2000.proofs.Whole.{Known, known, parts, top-is, few}
use Rattle.csvwalk.specs.Needs.{needs, object_need, controls_need, records_left}
use Rattle.csvwalk.proofs.NeedLaws.{whole_need}
use Rattle.csv2000.specs.Room.{RunReady, RunDone, TopReady, TopDone, StreamReady, StreamDone}
use Rattle.csv2000.specs.declared.Left.{Left}

module _ {t s index letters : List ℕ} (h : StreamReady t s index letters) where
  pub is : Known s (λ _. Unit {0})
  is = known (λ _. Unit {0}) h.there

  -- the object's scope, and the rows of it
  module _ {kind : ℕ} (ke : kind ≡ (object_key s).kind) {body : Body} (be : Finds t kind 0 body) where
    pub own-ready : RunReady t body s 10 index letters
    own-ready = record { small = h.small; sorted = be.sorted h.formed; there = rw (parts is).run tt; lent = h.lent }

    module _ (all : ℕ) {owner : ℕ} (we : owner ≡ object_need) {own : Left} (d : RunDone t body s 10 owner all own) where
      own-ran : RanOf (records_left s (shown_in (body_rows t body) s) owner) all own.left own.at (is.tree.0, (parts is).place)
      own-ran = ran_some (parts is).run d

      pub own-end : own.at ≡ (parts is).place
      own-end = own-ran.next-is

      own-left : own.left ≡ all - needs s object_need (read2000 t s is.tree).own
      unfolding read2000 object_key
      own-left =
          let f : shown_in (body_rows t body) s ≡ property_in t s (object_key s) = shown-same t s kind 0 body h.formed be ∙ ap (λ k. property_in t s (record { kind = k; code = 0 })) ke in
          own-ran.is ∙ (λ i. all - needs s (we i) (map (f i) is.tree.0))

      -- the top list stands after it
      module _ {o : Option Opens} (oe : o ≡ told_as walked.head (head_at_lem s own.at)) {n next : ℕ} (k : o ≡ Some (Opens.Listed n next)) where
        there : top_at s n next ≡ some (nodes_of is.tree.1, length s)
        there = top-is is own-end oe k

        pub top_ready : TopReady t s n next index letters
        top_ready =
            let x = is.tree in
            let m : length (nodes_of x.1) ≤ longest = omega (arith, few t s x is.reads, h.small, nodes_of_lem x.1) in
            record {
              known = record { formed = h.formed; small = h.small };
              few = rw there m;
              lent = h.lent;
            }

        pub whole-done : {r : ℕ} → TopDone t s n next own.left r → StreamDone t s all r
        unfolding read2000
        whole-done {r = r} w =
            let x = is.tree in
            let z : r ≡ own.left - controls_need s 0 (map (control_of t s) (nodes_of x.1)) = (ran_some there w.is).is in
            record { is = rw is.reads (omega (arith, z, own-left, whole_need s (read2000 t s x))) }
