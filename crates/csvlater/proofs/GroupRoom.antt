-- Records of a group, a node and what the scan finds, taken off a room: what a walk needs to know of it.
use Prim.Native.Nat.{ℕ, ◌+◌, ◌-◌, ◌≤◌}
use native.Mathlib.Omega.{arith}
use mathlib.Core.Path.{◌≡◌, ap, ◌∙◌}
use mathlib.Core.List.{List, map}
use mathlib.Core.Option.{some}
use lib.ListN.{length}
use Rattle.rules.specs.Answer.{longest}
use Rattle.rules.specs.Tree.{Node, no_parent, levels, is_reported}
use Rattle.rules.specs.Reading.{property_row}
use Rattle.rules.specs.Later.{Prop, nodes_at, scan_from}
use Rattle.rules.specs.ReadLater.{property_of, control_of}
use Rattle.rows.specs.Acts.{top_nodes}
use Rattle.matchlater.proofs.MatchLaws.{scanned_node}
use Rattle.cursor.specs.Cursors.{cursor, Passed}
use Rattle.cursor.specs.Work.{Ran}
use Rattle.cursor.specs.declared.Cursor.{Cursor}
use Rattle.cursor.proofs.WorkLaws.{held_as}
use Rattle.cursor.proofs.VisitLaws.{EntryWork}
use Rattle.cursorlater.specs.Steps.{step_at}
use Rattle.std.specs.Prelude as code
use Rattle.countlater.specs.declared.Group.{Group}
use Rattle.later.specs.Write.{props_at, tree_control, scanned_control}
use Rattle.later.proofs.Visits.{Grouping, grouping_start, Visiting, top_start, Sweeping}
use Rattle.csvrecord.specs.Parts.{tail_text}
use Rattle.csvwalk.specs.Needs.{needs, control_need, records_left, controls_left, node_need}
use Rattle.csvwalk.proofs.Walk.{Nothing, FewLeft, records_work, controls_work}
use Rattle.csvlater.specs.Room.{GroupDone, node_left, SectionsReady}
use Rattle.csvlater.specs.declared.GroupLeft.{GroupLeft}

-- ---- a group: what the loop keeps
abbrev pub Taking : List ℕ → ℕ → ℕ → ℕ → ℕ → Group → ℕ → Type 0
Taking s limit at owner all g left = Grouping (λ q l. l - (owner + length (tail_text s (property_row (property_of s q))))) (records_left s (property_of s) owner) Nothing s limit at all g.count g.stop g.trailer left

pub taking_start : {s : List ℕ} {limit at : ℕ} (owner : ℕ) {all : ℕ} → Taking s limit at owner all (record { count = 0; stop = at; trailer = code.None }) all
taking_start {s = s} owner = grouping_start (records_work s (property_of s) owner) tt

-- ---- a node by its group
module _ {s : List ℕ} {limit at owner all : ℕ} {w : GroupLeft} (d : GroupDone s limit at owner all w) (n : ℕ) where
  pub node-taken : {type k : ℕ} → type ≡ k → owner ≡ control_need n type → w.left ≡ node_left s n k (props_at s limit at) all
  unfolding control_of
  node-taken te oe = d.is ∙ ap (λ (o : ℕ). all - needs s o (map (property_of s) (props_at s limit at))) (oe ∙ ap (control_need n) te)

  pub scanned-taken : owner ≡ control_need n 0 → w.left ≡ all - node_need s (scanned_control s) n (scanned_node (props_at s limit at))
  unfolding control_of
  scanned-taken oe = d.is ∙ ap (λ (o : ℕ). all - needs s o (map (property_of s) (props_at s limit at))) oe

-- ---- the nodes that are reported of the top list
top_work : (s : List ℕ) → EntryWork (node_left s) (controls_left s (tree_control s)) FewLeft
unfolding control_of
top_work s = record { visit = controls_work s (tree_control s) }

-- what the loop keeps
abbrev pub Going : List ℕ → ℕ → ℕ → ℕ → List ℕ → Cursor → ℕ → ℕ → Type 0
Going s n at all a c i left = Visiting (Ran (controls_left s (tree_control s) 0) (top_nodes (nodes_at levels s n at)) all) (node_left s) (controls_left s (tree_control s)) FewLeft s a c i left

pub going_start : {s : List ℕ} {n at all : ℕ} {index letters : List ℕ} (a : List ℕ) {b r : Cursor} → length a ≡ 512 → SectionsReady s n at index letters
    → b ≡ cursor at 0 n no_parent → Passed (step_at s) is_reported b r → Going s n at all a r 0 all
going_start {s = s} {n = n} {at = at} {all = all} a l h e p =
    top_start all a (top_work s) l (held_as (λ x. length x.0 ≤ longest) (λ (y : List (Node Prop) × ℕ). FewLeft 0 y.0 all) (top_nodes (nodes_at levels s n at)) h.few (λ x f. omega (arith, f))) e p

-- ---- the scan: what the loop keeps
abbrev pub Scanning : List ℕ → ℕ → ℕ → ℕ → ℕ → ℕ → Type 0
Scanning s from all a i left = Sweeping (Ran (controls_left s (scanned_control s) 0) (some (scan_from s from, 0)) all) (controls_left s (scanned_control s) i) (FewLeft i) s a left
