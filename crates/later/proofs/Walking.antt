-- The rows of the nodes of a later stream that a walk visits, from what the code answers.
use Prim.Native.Nat.{ℕ, zero, suc, ◌+◌, ◌*◌, ◌≤◌, ◌<◌}
use native.Mathlib.Omega.{arith}
use mathlib.Core.Path.{◌≡◌, refl, sym, ap, ◌∙◌}
use mathlib.Core.Bool.{Bool, true, false}
use mathlib.Core.List.{List, [], ◌∷◌, ◌++◌, map}
use mathlib.Core.Option.{Option, none, some}
use lib.Dec.{ltb}
use lib.ListN.{length}
use borrow.Author.Tests.{ltb-true, ltb-false}
use Rattle.rules.specs.Lists.{◌>>=◌}
use Rattle.rules.specs.Bytes.{u16}
use Rattle.rules.specs.Answer.{longest}
use Rattle.rules.specs.Rows.{control_width}
use Rattle.rules.specs.Reading.{name_words}
use Rattle.rules.specs.Tree.{Node, levels, no_parent, is_reported}
use Rattle.rules.specs.Later.{Prop, children_at, nodes_at}
use Rattle.rules.specs.ReadLater.{property_of, control_of}
use Rattle.rules.specs.declared.Name.{Name}
use Rattle.rules.proofs.ListLaws.{none_some}
use Rattle.rows.specs.Put.{put, control_words}
use Rattle.rows.specs.Writing.{State, state, write_controls}
use Rattle.rows.specs.Acts.{Nodes, top_nodes}
use Rattle.rows.specs.declared.ControlRow.{ControlRow}
use Rattle.countlater.specs.Count.{behind, group_in, children_of}
use Rattle.countlater.proofs.NodeLaws.{behind-in, head_past}
use Rattle.cursor.specs.Walk.{Step}
use Rattle.cursor.specs.Stack.{count_of, Moved}
use Rattle.cursor.specs.Cursors.{cursor, Passed, PastReady, Past}
use Rattle.cursor.specs.declared.Cursor.{Cursor}
use Rattle.cursor.proofs.RowLaws as laws
use Rattle.cursor.proofs.RowLaws.{left, how_many}
use Rattle.cursorlater.specs.Steps.{list_of, step_at}
use Rattle.cursorlater.proofs.StepLaws.{nodes-same}
use Rattle.later.specs.Write.{name_among, GroupReady, GroupDone, next, tree_control, NodesReady, NodesDone}
use Rattle.countlater.specs.declared.Group.{Group}
use Rattle.later.proofs.WriteGroupLaws.{rows_show}
use Rattle.later.proofs.NameLaws.{name_from, node-named}
use Rattle.later.proofs.WriteNodeLaws.{Due, group-ready, row-ready, words-ready, control-done}

-- ---- a node as the code reads it
pub record Parts (s : List ℕ) (p : ℕ) (x : Step Prop) : Type 0 where
  pub type-is : x.type ≡ u16 s p
  pub props-are : x.props ≡ (group_in s p).props
  pub kids : children_of s p ≡ some (count_of x.children, x.next)

pub parts : (s : List ℕ) (p : ℕ) (x : Step Prop) → step_at s p ≡ some x → Parts s p x
unfolding step_at children_of
parts s p x e = go (group_in s p).trailer refl e
  where
    step_in : ℕ × ℕ → Option (Step Prop)
    step_in y = some (record { type = u16 s p; props = (group_in s p).props; children = list_of y.0; next = y.1 })

    counts : (n : ℕ) → count_of (list_of n) ≡ n
    counts zero = refl
    counts (suc n) = refl

    kids_of : (t : ℕ) → (group_in s p).trailer ≡ some t → (o : Option (ℕ × ℕ)) → children_at s t (group_in s p).stop ≡ o → (o >>= step_in) ≡ some x → Parts s p x
    kids_of t f none k e = absurd (none_some e)
    kids_of t f (some y) k e =
        let z : record { type = u16 s p; props = (group_in s p).props; children = list_of y.0; next = y.1 } ≡ x = cc in
        let n : ◌≡◌ {A = ℕ × ℕ} y (count_of x.children, x.next) = ap (λ (m : ℕ). (m, y.1)) (sym (counts y.0)) ∙ ap (λ (w : Step Prop). (count_of w.children, w.next)) z in
        record { type-is = sym (ap (λ (w : Step Prop). w.type) z); props-are = sym (ap (λ (w : Step Prop). w.props) z); kids = rw f (k ∙ ap some n) }

    go : (t : Option ℕ) → (group_in s p).trailer ≡ t → (t >>= λ trailer. children_at s trailer (group_in s p).stop >>= step_in) ≡ some x → Parts s p x
    go none f e = absurd (none_some e)
    go (some t) f e = kids_of t f (children_at s t (group_in s p).stop) refl e

-- ---- the loop
pub record Going (s : List ℕ) (whole : Nodes Prop) (old : State) (a : List ℕ) (c : Cursor) (now : State) : Type 0 where
  pub walk : laws.Going (step_at s) (length s ≤ longest) (tree_control s) whole old a c now

pub going_start : {s a : List ℕ} {n at : ℕ} {b r : Cursor} {cs ps : List ℕ} {pi : ℕ} → length a ≡ 512 → NodesReady s (top_nodes (nodes_at levels s n at)) (state cs 0 ps pi)
    → b ≡ cursor at 0 n no_parent → Passed (step_at s) is_reported b r → Going s (top_nodes (nodes_at levels s n at)) (state cs 0 ps pi) a r (state cs 0 ps pi)
going_start {s} {a} {n} {at} {b} {r} {cs} {ps} {pi} l h e p =
    record { walk = laws.going_start (state cs 0 ps pi) a n at r (ap top_nodes (sym (nodes-same s levels n at))) refl l h (rw e at p) }

module _ {s : List ℕ} {whole : Nodes Prop} {old : State} {a : List ℕ} {c : Cursor} {cs : List ℕ} {ci : ℕ} {ps : List ℕ} {pi : ℕ} (g : Going s whole old a c (state cs ci ps pi)) where
  pub going-small : length s ≤ longest
  going-small = laws.going-known g.walk

  pub going_done : c.left ≤ 0 → NodesDone s whole old cs ps (next c.at ci pi)
  going_done l = laws.going_done g.walk l

  module _ (l : 0 < c.left) where
    abbrev entry : Step Prop
    entry = laws.entry g.walk l

    abbrev node : Node Prop
    node = laws.node g.walk l

    pub going-low : c.level < 256
    going-low = (laws.going_before g.walk l).low

    its : Parts s c.at entry
    its = parts s c.at entry (laws.entry_read g.walk l)

    pub going-inside : c.at ≤ length s
    going-inside = go (ltb (length s) c.at) refl
      where
        go : (b : Bool) → ltb (length s) c.at ≡ b → c.at ≤ length s
        go true e = absurd (none_some (sym (head_past s c.at (ltb-true (length s) c.at e)) ∙ its.kids))
        go false e = ltb-false (length s) c.at e

    -- the control of this node is next
    due : Due s (length s) (c.at + 6) (tree_control s node) (state cs ci ps pi)
    unfolding control_of
    due = record { inside = omega arith; small = going-small; own = ap (map (property_of s)) its.props-are; fits = (laws.going-ready g.walk l 0).fits }

    pub going-group : GroupReady s (length s) (c.at + 6) (length ps) pi
    going-group = group-ready due

    pub going-row : ci * control_width + control_width ≤ length cs
    going-row = row-ready due

    -- its group is written
    module _ {w : Group} {ps' : List ℕ} (d : GroupDone s (length s) (c.at + 6) ps pi ps' w) where
      pub going-adds : ci + pi + (1 + w.count) ≤ longest
      going-adds = words-ready due d

      kids_at : behind s w ≡ some (count_of entry.children, entry.next)
      kids_at = behind-in s c.at d.is ∙ its.kids

      pub going_past : PastReady a c (behind s w)
      going_past = record { before = laws.going_before g.walk l; there = rw kids_at tt }

      -- its row is written, by the type and the name that the code has found
      module _ {type : ℕ} (et : type ≡ u16 s c.at) {name : Name} (en : name ≡ name_from ps' (pi + w.count) pi) {row : ControlRow}
          (er : control_words row ≡ type ∷ name_words ci name ++ (pi ∷ w.count ∷ c.level ∷ c.parent ∷ [])) {cs' : List ℕ} (ec : cs' ≡ put control_width cs ci (control_words row ∷ [])) where
        next-is : state cs' (ci + 1) ps' (pi + w.count) ≡ write_controls (tree_control s node ∷ []) (state cs ci ps pi)
        unfolding control_of
        next-is =
            let name-is = en ∙ ap name_among (rows_show going-group d ∙ ap (map (property_of s)) (sym its.props-are)) ∙ node-named s node in
            control-done due d name-is (er ∙ ap (λ t. t ∷ name_words ci name ++ (pi ∷ w.count ∷ c.level ∷ c.parent ∷ [])) (et ∙ sym its.type-is)) ec

        module _ (a' : List ℕ) (r r' : Cursor) (p : Past a c ci (behind s w) a' r) (k : Passed (step_at s) is_reported r r') where
          moved : Moved a c ci (count_of entry.children) entry.next a' r
          moved = rw kids_at at p

          pub going_less : how_many (left (step_at s) (ci + 1) a' r') < how_many (left (step_at s) ci a c)
          going_less = laws.going_less g.walk l _ next-is a' r r' moved k

          pub going_next : Going s whole old a' r' (state cs' (ci + 1) ps' (pi + w.count))
          going_next = record { walk = laws.going_next g.walk l _ next-is a' r r' moved k }
