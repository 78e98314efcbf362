-- Records of a run, an entry and the top list, taken off a room: what a walk needs to know of it.
use Prim.Native.Nat.{ℕ, ◌+◌, ◌-◌, ◌≤◌}
use native.Mathlib.Omega.{arith}
use mathlib.Core.Path.{◌≡◌, ap, ◌∙◌}
use mathlib.Core.Bool.{Bool}
use mathlib.Core.List.{List, map}
use lib.ListN.{length}
use Rattle.rules.specs.Bytes.{u16}
use Rattle.rules.specs.Answer.{longest}
use Rattle.rules.specs.CodeTable.{header}
use Rattle.rules.specs.Tree.{Node, no_parent, is_reported}
use Rattle.rules.specs.Access2000.{Prop, run_at}
use Rattle.rules.specs.Reading.{property_row}
use Rattle.rules.specs.Read2000.{property_in, type_code, is_report, control_of}
use Rattle.coderows.specs.Look.{Finds, body_rows}
use Rattle.coderows.specs.declared.Body.{Body}
use Rattle.run2000.specs.Runs.{shown_in}
use Rattle.run2000.proofs.Written.{shown-same}
use Rattle.cursor.specs.Cursors.{cursor, Passed}
use Rattle.cursor.specs.Work.{Ran}
use Rattle.cursor.specs.declared.Cursor.{Cursor}
use Rattle.cursor.proofs.WorkLaws.{held_as, ran_as}
use Rattle.cursor.proofs.VisitLaws.{EntryWork}
use Rattle.cursor2000.specs.Steps.{step_at}
use Rattle.form2000.specs.Acts.{top_at}
use Rattle.form2000.proofs.Visits.{Running, run-start, Visiting, top_start}
use Rattle.csvrecord.specs.Parts.{tail_text}
use Rattle.csvwalk.specs.Needs.{needs, control_need, records_left, controls_left}
use Rattle.csvwalk.proofs.Walk.{Nothing, FewLeft, records_work, controls_work}
use Rattle.csv2000.specs.Room.{RunReady, RunDone, NodeReady, node_left, NodeDone, TopReady}
use Rattle.csv2000.specs.declared.Left.{Left}

-- ---- a run: what the loop keeps
abbrev pub Taking : List ℕ → Body → List ℕ → ℕ → ℕ → ℕ → ℕ → ℕ → Type 0
Taking t body s at owner all p left =
    Running (Ran (records_left s (shown_in (body_rows t body) s) owner) (run_at s at) all) (λ q l. l - (owner + length (tail_text s (property_row (shown_in (body_rows t body) s q)))))
    (records_left s (shown_in (body_rows t body) s) owner) Nothing s p left

pub taking_start : {t : List ℕ} {body : Body} {s : List ℕ} {at : ℕ} (owner : ℕ) {all : ℕ} {index letters : List ℕ} → RunReady t body s at index letters → Taking t body s at owner all at all
taking_start {t = t} {body = body} {s = s} owner h = run-start (records_work s (shown_in (body_rows t body) s) owner) h.there

-- ---- an entry
module _ {t s : List ℕ} {at : ℕ} {index letters : List ℕ} (h : NodeReady t s at index letters) (n all : ℕ) {type : ℕ} (te : type ≡ u16 s at)
    {body : Body} (be : Finds t 2 type body) {report : Bool} (re : report ≡ is_report s) {code : ℕ} (ce : code ≡ type_code (header t) report type)
    {owner : ℕ} (oe : owner ≡ control_need n code) where
  shown : shown_in (body_rows t body) s ≡ property_in t s (record { kind = 2; code = u16 s at })
  shown = shown-same t s 2 type body h.known.formed be ∙ ap (λ k. property_in t s (record { kind = 2; code = k })) te

  owned : owner ≡ control_need n (type_code (header t) (is_report s) (u16 s at))
  owned = oe ∙ ap (control_need n) (ce ∙ (λ i. type_code (header t) (re i) (te i)))

  pub node_done : {r : Left} → RunDone t body s (at + 2) owner all r → NodeDone t s at n all r
  unfolding control_of
  node_done d = ran_as d (λ ps e. e ∙ (λ i. all - needs s (owned i) (map (shown i) ps)))

-- ---- the entries that are reported of the top list
top_work : (t s : List ℕ) → EntryWork (node_left t s) (controls_left s (control_of t s)) FewLeft
unfolding control_of
top_work t s = record { visit = controls_work s (control_of t s) }

-- what the loop keeps
abbrev pub Going : List ℕ → List ℕ → ℕ → ℕ → ℕ → List ℕ → Cursor → ℕ → ℕ → Type 0
Going t s n at all a c i left = Visiting (Ran (controls_left s (control_of t s) 0) (top_at s n at) all) (node_left t s) (controls_left s (control_of t s)) FewLeft s a c i left

pub going_start : {t s : List ℕ} {n at all : ℕ} {index letters : List ℕ} (a : List ℕ) {b r : Cursor} → length a ≡ 512 → TopReady t s n at index letters
    → b ≡ cursor at 0 n no_parent → Passed (step_at s) is_reported b r → Going t s n at all a r 0 all
going_start {t = t} {s = s} {n = n} {at = at} {all = all} a l h e p =
    top_start all a (top_work t s) l (held_as (λ x. length x.0 ≤ longest) (λ (y : List (Node Prop) × ℕ). FewLeft 0 y.0 all) (top_at s n at) h.few (λ x f. omega (arith, f))) e p
