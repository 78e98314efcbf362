-- The rows of a whole stream are written in two goes, and the answer is that of the reading.
use Prim.Native.Nat.{ℕ, ◌+◌, ◌≤◌}
use native.Mathlib.Omega.{arith}
use mathlib.Core.Path.{◌≡◌, refl, ap, ◌∙◌}
use mathlib.Core.List.{List, map}
use mathlib.Core.Option.{some}
use Rattle.std.proofs.Common as code
use lib.ListN.{length}
use Rattle.rules.specs.Lists.{concat}
use Rattle.rules.specs.Answer.{refusal, longest, no_reading}
use Rattle.rules.specs.Tree.{nodes_of, levels}
use Rattle.rules.specs.Access2000.{head_at_lem, entries_at, stream_of}
use Rattle.rules.specs.Rows.{control_width, property_width, room}
use Rattle.rules.specs.Read2000.{object_key, property_in, control_of, read2000}
use Rattle.rules.specs.Told.{told_as}
use Rattle.rules.specs.declared.Answer.{Answer}
use Rattle.rows.specs.Counting.{props_in}
use Rattle.rows.specs.Writing.{state, write_properties}
use Rattle.rows.specs.Acts.{top_nodes, state_at}
use Rattle.rows.specs.declared.Next.{Next}
use Rattle.rows.proofs.CountingLaws.{nodes_of_lem, props_of_lem}
use Rattle.rows.proofs.WritingLaws.{properties-length}
use Rattle.rows.specs.Judge.{Judged, Roomy}
use Rattle.rows.proofs.JudgeLaws.{exits_refused, roomy, exits_read, made-fit, made-written}
use Rattle.coderows.specs.Look.{Listed, Finds, body_rows}
use Rattle.coderows.specs.declared.Body.{Body}
use Rattle.walk2000.specs.Told as walked
use Rattle.count2000.specs.Told as told
use Rattle.walk2000.specs.declared.Opens.{Opens}
use Rattle.count2000.specs.declared.StreamTally.{StreamTally}
use Rattle.run2000.specs.Runs.{shown_in, RunReady, RunDone}
use Rattle.run2000.specs.declared.RunRows.{RunRows}
use Rattle.node2000.specs.Nodes.{act}
use Rattle.form2000.specs.Acts.{TopReady, TopDone, StreamReady, StreamDone, ReadReady, Reads}
use Rattle.run2000.proofs.Written.{RunOf, run-written, shown-same}
use Rattle.form2000.proofs.Whole.{Known, known, Facts, parts, list-is, same-properties, counts, few, none_of, facts}

-- ---- writing
module _ {t s controls rows : List ℕ} (h : StreamReady t s controls rows) where
  pub is : Known s (λ x. Roomy controls rows (read2000 t s x))
  is = known (λ x. Roomy controls rows (read2000 t s x)) h.fits

  -- the object's scope, and the rows of it
  module _ {kind : ℕ} (ke : kind ≡ (object_key s).kind) {body : Body} (be : Finds t kind 0 body) where
    pub own-ready : RunReady t body s 10 rows 0 0xFF
    own-ready = record {
      small = h.small;
      sorted = be.sorted h.formed;
      fits = rw (parts is).run (omega (arith, is.holds.properties, (counts t s is.tree).properties-are));
      above = omega arith;
    }

    module _ {rows' : List ℕ} {own : RunRows} (done : RunDone t body s 10 rows 0 0xFF rows' own) where
      own-run : RunOf (shown_in (body_rows t body) s) (is.tree.0, (parts is).place) rows 0 rows' own.row own.at
      own-run = run-written (parts is).run done.rows_are

      pub own-end : own.at ≡ (parts is).place
      own-end = own-run.next-is

      own-rows : rows' ≡ write_properties (read2000 t s is.tree).own rows 0
      unfolding read2000 object_key
      own-rows =
          let f : shown_in (body_rows t body) s ≡ property_in t s (object_key s) = shown-same t s kind 0 body h.formed be ∙ ap (λ k. property_in t s (record { kind = k; code = 0 })) ke in
          own-run.rows ∙ ap (λ g. write_properties (map g is.tree.0) rows 0) f

      -- the top list stands after it
      module _ {o : code.Option Opens} (oe : o ≡ told_as walked.head (head_at_lem s own.at)) {n next : ℕ} (k : o ≡ code.Some (Opens.Listed n next)) where
        there : entries_at levels s n next ≡ some (is.tree.1, length s)
        there = list-is is own-end oe k

        -- where the top list is written from
        abbrev pub start : Next
        start = record { at = next; control = 0; property = own.row }

        pub top_ready : {scopes : List ℕ} → Listed t scopes → TopReady t scopes s n controls rows' start
        unfolding read2000
        top_ready listed =
            let x = is.tree in
            let l : length rows' ≡ length rows = ap length own-rows ∙ properties-length (read2000 t s x).own rows 0 in
            let q : own.row ≡ length x.0 = own-run.row_is ∙ omega arith in
            let m : length x.0 + length (nodes_of x.1) + props_in (nodes_of x.1) ≤ longest = omega (arith, few t s x is.reads, h.small, nodes_of_lem x.1, props_of_lem x.1) in
            record {
              ready = record {
                known = record { formed = h.formed; listed = listed; small = h.small };
                fits = rw (there, q) (made-fit (property_in t s (object_key s)) (control_of t s) (same-properties t s) x.0 (nodes_of x.1) controls rows rows' is.holds l m);
              };
              first = refl;
            }

        pub top-done : {controls' rows'' : List ℕ} {r : Next} → TopDone t s n controls rows' start controls' rows'' r → StreamDone t s controls rows controls' rows''
        unfolding read2000
        top-done {controls' = controls'} {rows'' = rows''} {r = r} w =
            let x = is.tree in
            let q : own.row ≡ length x.0 = own-run.row_is ∙ omega arith in
            let z = w ∙ ap (λ o. act t s (top_nodes o) (state_at controls rows' start)) there ∙ (λ i. act t s (some (nodes_of x.1, length s)) (state controls 0 (own-rows i) (q i))) in
            rw is.reads (made-written (property_in t s (object_key s)) (control_of t s) (same-properties t s) x.0 (nodes_of x.1) controls rows controls' rows'' r.control r.property r.at (length s) z)

-- ---- the answer
module _ (t s controls rows : List ℕ) {r : code.Option StreamTally} (re : r ≡ told_as told.stream_tally (stream_of s)) where
  pub read_bad : r ≡ code.None → {a : Answer} → a ≡ refusal no_reading → Reads t s controls rows a controls rows
  unfolding concat
  read_bad k e = rw (none_of t s re k, e)

  module _ {y : StreamTally} (k : r ≡ code.Some y) where
    now : Facts t s y.controls y.props y.own
    now = facts t s re k

    module _ {a : Answer} (j : Judged y.controls y.props y.own (room control_width controls) (room property_width rows) a) where
      pub read-refused : (a.number ≡ 0 → ⊥) → Reads t s controls rows a controls rows
      read-refused h = rw now.reads (exits_refused controls rows (read2000 t s now.tree) a (j _ now.has) h)

      module _ (z : a.number ≡ 0) where
        pub read-ready : ReadReady t s → StreamReady t s controls rows
        read-ready h = record { formed = h.formed; small = h.small; fits = rw now.reads (roomy controls rows (read2000 t s now.tree) a (j _ now.has) z) }

        pub read_done : {controls' rows' : List ℕ} → StreamDone t s controls rows controls' rows' → Reads t s controls rows a controls' rows'
        read_done {controls' = controls'} {rows' = rows'} d = rw now.reads (exits_read controls rows (read2000 t s now.tree) a (j _ now.has) z controls' rows' (rw now.reads at d))
