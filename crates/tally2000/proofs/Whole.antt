-- The whole stream: the object's run and the top list are counted in two goes, and the answer is the reading's.
use Prim.Native.Nat.{ℕ, ◌*◌, ◌/◌, ◌≤◌}
use native.Mathlib.Omega.{arith}
use mathlib.Core.Path.{◌≡◌, refl, sym, ap, ◌∙◌}
use mathlib.Core.Bool.{true}
use mathlib.Core.List.{List, map}
use mathlib.Core.Option.{some}
use lib.ListN.{length}
use Rattle.std.proofs.Common.{Option, Some, None}
use Rattle.rules.specs.Answer.{refusal, longest, no_reading}
use Rattle.rules.specs.Tree.{nodes_of}
use Rattle.rules.specs.Access2000.{head_at_lem, stream_of}
use Rattle.rules.specs.Rows.{control_width, property_width}
use Rattle.rules.specs.Read2000.{object_key, property_in, read2000}
use Rattle.rules.specs.Blob.{fit, answer_of}
use Rattle.rules.specs.declared.Answer.{Answer}
use Rattle.rules.specs.Told.{told_as}
use Rattle.rows.specs.Judge.{Judged}
use Rattle.rows.proofs.CountingLaws.{nodes_of_lem}
use Rattle.coderows.specs.Look.{Finds, body_rows}
use Rattle.coderows.specs.declared.Body.{Body}
use Rattle.walk2000.specs.Told as walked
use Rattle.walk2000.specs.declared.Opens.{Opens}
use Rattle.count2000.specs.Told as told
use Rattle.count2000.specs.declared.StreamTally.{StreamTally}
use Rattle.run2000.specs.Runs.{shown_in}
use Rattle.run2000.proofs.Written.{shown-same}
use Rattle.cursor.specs.Work.{RanOf}
use Rattle.cursor.proofs.WorkLaws.{ran_some}
use Rattle.form2000.specs.Acts.{top_at, ReadReady}
use Rattle.form2000.proofs.Whole.{Known, known, parts, top-is, few, Facts, none_of, facts}
use Rattle.tally.specs.Places.{bumps, properties_places, reading_places}
use Rattle.tally.proofs.BumpLaws.{bumps-append, tallied_refused, tallied_read, room-again}
use Rattle.tally2000.specs.Counting.{run_tally, RunReady, RunDone, top_tally, TopReady, TopDone, StreamReady, StreamDone, Counted}

module _ {t s : List ℕ} (h : StreamReady t s) where
  pub is : Known s (λ _. Unit {0})
  is = known (λ _. Unit {0}) h.there

  -- the object's scope, and the rows of it
  module _ {kind : ℕ} (ke : kind ≡ (object_key s).kind) {body : Body} (be : Finds t kind 0 body) where
    pub own-ready : RunReady t body s 10
    own-ready = record { small = h.small; sorted = be.sorted h.formed; there = rw (parts is).run tt }

    module _ {words now : List ℕ} {end : ℕ} (done : RunDone t body s 10 words now end) where
      own-run : RanOf (run_tally t body s) words now end (is.tree.0, (parts is).place)
      own-run = ran_some (parts is).run done

      pub own-end : end ≡ (parts is).place
      own-end = own-run.next-is

      own-words : now ≡ bumps words (properties_places true (read2000 t s is.tree).own)
      unfolding read2000 object_key
      own-words =
          let f : shown_in (body_rows t body) s ≡ property_in t s (object_key s) = shown-same t s kind 0 body h.formed be ∙ ap (λ k. property_in t s (record { kind = k; code = 0 })) ke in
          own-run.is ∙ ap (λ g. bumps words (properties_places true (map g is.tree.0))) f

      -- the top list stands after it
      module _ {o : Option Opens} (oe : o ≡ told_as walked.head (head_at_lem s end)) {n next : ℕ} (k : o ≡ Some (Opens.Listed n next)) where
        there : top_at s n next ≡ some (nodes_of is.tree.1, length s)
        there = top-is is own-end oe k

        pub top_ready : TopReady t s n next
        top_ready =
            let x = is.tree in
            record {
              known = record { formed = h.formed; small = h.small };
              few = rw there (omega (arith, few t s x is.reads, h.small, nodes_of_lem x.1));
            }

        pub top-done : {words' : List ℕ} → TopDone t s n next now words' → StreamDone t s words words'
        unfolding read2000 reading_places
        top-done {words' = words'} w =
            let x = is.tree in
            let v : words' ≡ top_tally t s (nodes_of x.1) now = (ran_some there w.is).is in
            record { is = rw is.reads (v ∙ ap (top_tally t s (nodes_of x.1)) own-words ∙ sym (bumps-append words _ _)) }

-- ---- the answer
module _ (t s : List ℕ) {r : Option StreamTally} (re : r ≡ told_as told.stream_tally (stream_of s)) where
  pub tally_bad : (cr pr : ℕ) (words : List ℕ) → r ≡ None → {a : Answer} → a ≡ refusal no_reading → Counted t s cr pr words a words
  unfolding bumps
  tally_bad cr pr words k e = rw (none_of t s re k) (record { answer-is = e; words_are = refl; few = tt })

  module _ {y : StreamTally} (k : r ≡ Some y) where
    now : Facts t s y.controls y.props y.own
    now = facts t s re k

    pub tally-there : ReadReady t s → StreamReady t s
    tally-there h = record { formed = h.formed; small = h.small; there = rw now.reads tt }

    module _ (cr pr : ℕ) {a : Answer} (j : Judged y.controls y.props y.own (cr * control_width / control_width) (pr * property_width / property_width) a) where
      answered : a ≡ answer_of (fit cr pr (some (read2000 t s now.tree)))
      answered = room-again cr pr (read2000 t s now.tree) (j _ now.has)

      pub tally-refused : (words : List ℕ) → (a.number ≡ 0 → ⊥) → Counted t s cr pr words a words
      tally-refused words h = rw now.reads (tallied_refused true cr pr (read2000 t s now.tree) words answered h)

      pub tally-done : (words : List ℕ) → length s ≤ longest → a.number ≡ 0 → {words' : List ℕ} → StreamDone t s words words' → Counted t s cr pr words a words'
      tally-done words small z {words' = words'} d =
          let n = now.has in
          rw now.reads (tallied_read true cr pr (read2000 t s now.tree) words answered z (omega (arith, n.controls-are, n.properties-are, now.few-all, small)) (rw now.reads at d.is))
