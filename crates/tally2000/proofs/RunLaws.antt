-- A run and an entry, counted: what a walk needs to know of it.
use Prim.Native.Nat.{ℕ, ◌+◌, ◌≤◌}
use native.Mathlib.Omega.{arith}
use mathlib.Core.Path.{◌≡◌, refl, sym, ap, ap₂, subst, ◌∙◌}
use mathlib.Core.Bool.{Bool, true}
use mathlib.Core.List.{List, [], ◌∷◌, ◌++◌, map}
use lib.ListN.{length}
use Rattle.rules.specs.Bytes.{u16}
use Rattle.rules.specs.CodeTable.{header}
use Rattle.rules.specs.Tree.{Node, no_parent, is_reported}
use Rattle.rules.specs.Answer.{longest}
use Rattle.rules.specs.Access2000.{Prop, run_at}
use Rattle.rules.specs.Read2000.{is_report, type_code, property_in, control_of}
use Rattle.rules.specs.declared.Property.{Property}
use Rattle.totallaws.proofs.TotalsLaws.{type_place}
use Rattle.coderows.specs.Look.{Finds, body_rows}
use Rattle.coderows.specs.declared.Body.{Body}
use Rattle.run2000.specs.Runs.{shown_in}
use Rattle.run2000.proofs.Written.{shown-same}
use Rattle.cursor.proofs.WorkLaws.{held_as, ran_as}
use Rattle.cursor.proofs.VisitLaws.{Visit, EntryWork}
use Rattle.form2000.proofs.Visits.{Running, run-start, Visiting, top_start}
use Rattle.tally.specs.Places.{bump, bumps, types_at, property_places, properties_places, control_places}
use Rattle.tally.proofs.BumpLaws.{bumps-append}
use Rattle.tally.proofs.Walk.{Same, FewLeft, properties_work, controls_work}
use Rattle.form2000.specs.Acts.{top_at}
use Rattle.cursor.specs.Work.{Ran}
use Rattle.cursor.specs.Cursors.{cursor, Passed}
use Rattle.cursor.specs.declared.Cursor.{Cursor}
use Rattle.cursor2000.specs.Steps.{step_at}
use Rattle.tally2000.specs.Counting.{run_tally, NodeReady, RunReady, RunDone, node_places, node_tally, NodeDone, top_tally, TopReady}

-- ---- a run
abbrev pub one_tally : List ℕ → Body → List ℕ → Prop → List ℕ → List ℕ
one_tally t body s q words = bumps words (property_places true (shown_in (body_rows t body) s q))

-- what the loop keeps
abbrev pub Counting : List ℕ → Body → List ℕ → ℕ → List ℕ → ℕ → List ℕ → Type 0
Counting t body s at old p words = Running (Ran (run_tally t body s) (run_at s at) old) (one_tally t body s) (run_tally t body s) (Same old) s p words

pub counting-start : {t : List ℕ} {body : Body} {s : List ℕ} {at : ℕ} {words : List ℕ} → RunReady t body s at → Counting t body s at words at words
counting-start {t = t} {body = body} {s = s} {at = at} {words = words} h =
    run-start (properties_work true (shown_in (body_rows t body) s) words) (held_as (λ _. Unit {0}) (λ (y : List Prop × ℕ). Same words y.0 words) (run_at s at) h.there (λ _ _. refl))

-- ---- an entry
-- what is counted of an entry doesn't depend on where it stands in the tree
places_same : (t s : List ℕ) (x : Node Prop) → control_places true (control_of t s x) ≡ node_places t s x.type x.props
unfolding node_places control_places control_of
places_same t s x = refl

places-are : (t s : List ℕ) (type : ℕ) (props : List Prop)
    → node_places t s type props ≡ properties_places true (map (property_in t s (record { kind = 2; code = type })) props) ++ ((types_at + type_place (type_code (header t) (is_report s) type)) ∷ [])
unfolding node_places control_places control_of
places-are t s type props = refl

module _ {t s : List ℕ} {at : ℕ} (h : NodeReady t s at) {type : ℕ} (te : type ≡ u16 s at) {body : Body} (be : Finds t 2 type body) where
  pub node-run : RunReady t body s (at + 2)
  node-run = record { small = h.known.small; sorted = be.sorted h.known.formed; there = h.there }

  module _ {words now next : List ℕ} {end : ℕ} (d : RunDone t body s (at + 2) words now end) {report : Bool} {code : ℕ} (re : report ≡ is_report s) (ce : code ≡ type_code (header t) report type)
      (ne : next ≡ bump now (types_at + type_place code)) where
    abbrev shows : Prop → Property
    shows = property_in t s (record { kind = 2; code = u16 s at })

    shown : shown_in (body_rows t body) s ≡ shows
    shown = shown-same t s 2 type body h.known.formed be ∙ ap (λ (k : ℕ). property_in t s (record { kind = 2; code = k })) te

    coded : code ≡ type_code (header t) (is_report s) (u16 s at)
    coded = ce ∙ ap₂ (λ (b : Bool) (k : ℕ). type_code (header t) b k) re te

    one : (w : List ℕ) (i : ℕ) → bump w i ≡ bumps w (i ∷ [])
    unfolding bumps
    one w i = refl

    pub node_done : NodeDone t s at words next end
    node_done = ran_as d λ ps w.
        ne ∙ one now (types_at + type_place code)
        ∙ ap₂ (λ (v : List ℕ) (k : ℕ). bumps v ((types_at + type_place k) ∷ [])) (w ∙ ap (λ f. bumps words (properties_places true (map f ps))) shown) coded
        ∙ sym (bumps-append words (properties_places true (map shows ps)) ((types_at + type_place (type_code (header t) (is_report s) (u16 s at))) ∷ []))
        ∙ ap (bumps words) (sym (places-are t s (u16 s at) ps))

-- ---- the entries that are reported of the top list
pub top_work : (t s old : List ℕ) → EntryWork (λ _. node_tally t s) (λ _. top_tally t s) (FewLeft old)
top_work t s old =
    let same : ◌≡◌ {A = ℕ → Node Prop → List ℕ → List ℕ} (λ _ x words. bumps words (control_places true (control_of t s x))) (λ _ x. node_tally t s x.type x.props) = λ i _ x words. bumps words (places_same t s x i) in
    record { visit = subst (λ one. Visit one (λ _. top_tally t s) (FewLeft old)) same (controls_work true (control_of t s) old) }

-- what the loop keeps
abbrev pub Going : (t s : List ℕ) → ℕ → ℕ → (old a : List ℕ) → Cursor → ℕ → List ℕ → Type 0
Going t s n at old a c i words = Visiting (Ran (top_tally t s) (top_at s n at) old) (λ _. node_tally t s) (λ _. top_tally t s) (FewLeft old) s a c i words

pub going_start : {t s : List ℕ} {n at : ℕ} {words : List ℕ} (a : List ℕ) {b r : Cursor} → length a ≡ 512 → TopReady t s n at → b ≡ cursor at 0 n no_parent → Passed (step_at s) is_reported b r → Going t s n at words a r 0 words
going_start {t = t} {s = s} {n = n} {at = at} {words = words} a l h e p =
    top_start words a (top_work t s words) l (held_as (λ x. length x.0 ≤ longest) (λ (y : List (Node Prop) × ℕ). FewLeft words 0 y.0 words) (top_at s n at) h.few (λ x f. record { few = omega (arith, f); same = refl })) e p
