-- A group, a node and what the scan finds, counted: what a walk needs to know of it.
use Prim.Native.Nat.{ℕ, ◌+◌, ◌≤◌}
use native.Mathlib.Omega.{arith}
use mathlib.Core.Path.{◌≡◌, refl, sym, ap, ap₂, subst, ◌∙◌}
use mathlib.Core.Bool.{false}
use mathlib.Core.List.{List, [], ◌∷◌, map}
use mathlib.Core.Option.{some}
use lib.ListN.{length}
use Rattle.rules.specs.Answer.{longest}
use Rattle.rules.specs.Tree.{Node, no_parent, is_reported}
use Rattle.rules.specs.Later.{Prop, scan_from}
use Rattle.rules.specs.ReadLater.{property_of, control_of, name_of, scanned_name}
use Rattle.rules.specs.declared.Name.{Name}
use Rattle.totallaws.proofs.TotalsLaws.{type_place}
use Rattle.matchlater.proofs.MatchLaws.{scanned_node}
use Rattle.cursor.specs.Cursors.{cursor, Passed}
use Rattle.cursor.specs.Work.{Ran}
use Rattle.cursor.specs.declared.Cursor.{Cursor}
use Rattle.cursor.proofs.WorkLaws.{held_as}
use Rattle.cursor.proofs.VisitLaws.{Visit, EntryWork}
use Rattle.cursorlater.specs.Steps.{step_at}
use Rattle.std.specs.Prelude as code
use Rattle.later.specs.Write.{props_at, tree_control, scanned_control}
use Rattle.later.proofs.Visits.{Grouping, grouping_start, Visiting, top_start, Sweeping}
use Rattle.tally.specs.Places.{bump, bumps, types_at, property_places, properties_places, control_places}
use Rattle.tally.proofs.BumpLaws.{bumps-append}
use Rattle.tally.proofs.Walk.{Same, FewLeft, properties_work, controls_work}
use Rattle.tallylater.specs.Counting.{group_tally, GroupDone, node_places, node_tally, top_at, tree_tally, SectionsReady, scan_tally}
use Rattle.countlater.specs.declared.Group.{Group}

-- ---- a group: what the loop keeps
abbrev pub Counting : List ℕ → ℕ → ℕ → List ℕ → Group → List ℕ → Type 0
Counting s limit at old g words = Grouping (λ q w. bumps w (property_places false (property_of s q))) (group_tally s) (Same old) s limit at old g.count g.stop g.trailer words

pub counting-start : {s : List ℕ} {limit at : ℕ} {old : List ℕ} → Counting s limit at old (record { count = 0; stop = at; trailer = code.None }) old
counting-start {s = s} {old = old} = grouping_start (properties_work false (property_of s) old) refl

-- ---- a node: its group, then its type
places_same : (s : List ℕ) (name : Node Prop → Name) (x : Node Prop) → control_places false (control_of s name x) ≡ node_places s x.type x.props
unfolding control_places control_of node_places
places_same s name x = refl

module _ {s : List ℕ} {limit at : ℕ} {words now : List ℕ} {g : Group} (d : GroupDone s limit at words now g) where
  pub node-counted : {type k : ℕ} → type ≡ k → {next : List ℕ} → next ≡ bump now (types_at + type_place type) → next ≡ node_tally s k (props_at s limit at) words
  unfolding node_places
  node-counted {type = type} {k = k} te ne =
      let one : (w : List ℕ) (i : ℕ) → bump w i ≡ bumps w (i ∷ []) = λ w i. (unfold bumps in refl) in
      ne ∙ one now (types_at + type_place type)
      ∙ ap₂ (λ (w : List ℕ) (t : ℕ). bumps w ((types_at + type_place t) ∷ [])) d.is te
      ∙ sym (bumps-append words (properties_places false (map (property_of s) (props_at s limit at))) ((types_at + type_place k) ∷ []))

  pub scanned-counted : {next : List ℕ} → next ≡ bump now (types_at + type_place 0) → next ≡ bumps words (control_places false (scanned_control s (scanned_node (props_at s limit at))))
  scanned-counted ne = node-counted refl ne ∙ ap (bumps words) (sym (places_same s (scanned_name s) (scanned_node (props_at s limit at))))

-- ---- the nodes that are reported of the top list
top_work : (s old : List ℕ) → EntryWork (λ _. node_tally s) (λ _. tree_tally s) (FewLeft old)
top_work s old =
    let same : ◌≡◌ {A = ℕ → Node Prop → List ℕ → List ℕ} (λ _ x words. bumps words (control_places false (tree_control s x))) (λ _ x. node_tally s x.type x.props) = λ i _ x words. bumps words (places_same s (name_of s) x i) in
    record { visit = subst (λ one. Visit one (λ _. tree_tally s) (FewLeft old)) same (controls_work false (tree_control s) old) }

-- what the loop keeps
abbrev pub Going : List ℕ → ℕ → ℕ → (old a : List ℕ) → Cursor → ℕ → List ℕ → Type 0
Going s n at old a c i words = Visiting (Ran (tree_tally s) (top_at s n at) old) (λ _. node_tally s) (λ _. tree_tally s) (FewLeft old) s a c i words

pub going_start : {s : List ℕ} {n at : ℕ} {words : List ℕ} (a : List ℕ) {b r : Cursor} → length a ≡ 512 → SectionsReady s n at → b ≡ cursor at 0 n no_parent → Passed (step_at s) is_reported b r → Going s n at words a r 0 words
going_start {s = s} {n = n} {at = at} {words = words} a l h e p =
    top_start words a (top_work s words) l (held_as (λ x. length x.0 ≤ longest) (λ (y : List (Node Prop) × ℕ). FewLeft words 0 y.0 words) (top_at s n at) h.few (λ x f. record { few = omega (arith, f); same = refl })) e p

-- ---- the scan: what the loop keeps
abbrev pub Scanning : List ℕ → ℕ → List ℕ → ℕ → List ℕ → Type 0
Scanning s from old a words = Sweeping (Ran (scan_tally s) (some (scan_from s from, 0)) old) (scan_tally s) (Same old) s a words
