-- For any walk over a later stream that keeps a running value: a group gone through a property at a time, the nodes that a cursor visits, and what the scan finds.
-- Last, a group that is written.
use Prim.Native.Nat.{ℕ, ◌+◌, ◌*◌, ◌≤◌, ◌<◌}
use native.Mathlib.Omega.{arith}
use mathlib.Core.Path.{◌≡◌, refl, sym, ap, ap₂, subst, ◌∙◌}
use mathlib.Core.Bool.{Bool, true, false, cond}
use mathlib.Core.List.{List, [], ◌∷◌, ◌++◌, map}
use mathlib.Core.Option.{Option, some}
use lib.Dec.{ltb}
use lib.ListN.{length}
use borrow.Author.Tests.{ltb-true, ltb-false}
use Rattle.std.specs.Prelude as code
use Rattle.rules.specs.Bytes.{u16}
use Rattle.rules.specs.Rows.{property_width}
use Rattle.rules.specs.Reading.{property_row}
use Rattle.rules.specs.ReadLater.{property_of}
use Rattle.rules.specs.Tree.{Node, no_parent, levels, is_reported}
use Rattle.rules.specs.Later.{Prop, is_inside, length_at, end_at, trailer_at, property_at, ends_group, group_at, nodes_at, match_at, scan_from}
use Rattle.rules.proofs.ListLaws.{none_some}
use Rattle.rules.proofs.LaterLaws.{inside_true, group-none, group-last, group-more}
use Rattle.rows.specs.Acts.{top_nodes, Held}
use Rattle.rows.specs.Put.{put}
use Rattle.rows.specs.Writing.{write_properties}
use Rattle.rows.proofs.PutLaws.{put-length}
use Rattle.rows.proofs.WritingLaws.{properties-more, properties-none}
use Rattle.matchlater.specs.Match.{NextMatch}
use Rattle.matchlater.proofs.MatchLaws.{scanned_node, shown, scan-same, scan_step, scan-end}
use Rattle.countlater.specs.Count.{extent_record, extent, group, behind, group_in}
use Rattle.countlater.specs.declared.Group.{Group}
use Rattle.countlater.proofs.PassedLaws.{props_some, Passed, passed_start, passed_none, passed_last, passed_more}
use Rattle.countlater.proofs.NodeLaws.{behind-in, head_past}
use Rattle.countlater.proofs.ScanLaws.{shown_some, shown-none}
use Rattle.cursor.specs.Walk.{Step}
use Rattle.cursor.specs.Stack.{count_of, Moved}
use Rattle.cursor.specs.Cursors as cursors
use Rattle.cursor.specs.Cursors.{cursor, PastReady, Past}
use Rattle.cursor.specs.Work.{Ran}
use Rattle.cursor.specs.declared.Cursor.{Cursor}
use Rattle.cursor.proofs.RowLaws.{left, how_many}
use Rattle.cursor.proofs.WorkLaws.{Work, Left, left-start, left_fact, left-done, left-next}
use Rattle.cursor.proofs.VisitLaws as laws
use Rattle.cursor.proofs.VisitLaws.{Visit, EntryWork, Going}
use Rattle.cursorlater.specs.Steps.{step_at}
use Rattle.cursorlater.proofs.StepLaws.{nodes-same}
use Rattle.later.specs.Write.{props_at, next_record, next_of, GroupReady, GroupDone}
use Rattle.later.specs.declared.NextProperty.{NextProperty}
use Rattle.later.specs.Groups.{Grouped}
use Rattle.later.proofs.Walking.{Parts, parts}

-- ---- a group
-- what it has from p on
abbrev from_at : List ℕ → ℕ → ℕ → Option (List Prop × ℕ)
from_at s limit p = some (props_at s limit p, (group_at s limit p).stop)

-- what is left of it after n properties: from p on, or nothing where a trailer ended it
abbrev left_at : List ℕ → ℕ → ℕ → code.Option ℕ → Option (List Prop × ℕ)
left_at s limit p code.None = from_at s limit p
left_at s limit p (code.Some t) = some ([], p)

abbrev Gone : List ℕ → ℕ → ℕ → ℕ → ℕ → code.Option ℕ → Type 0
Gone s limit at n p code.None = Passed s limit at n p
Gone s limit at n p (code.Some t) = record { count = n; stop = p; trailer = code.Some t } ≡ group (group_at s limit at)

pub record Grouping {A : Type 0} (one : Prop → A → A) (all : List Prop → A → A) (Ok : List Prop → A → Type 0) (s : List ℕ) (limit at : ℕ) (old : A) (n p : ℕ) (o : code.Option ℕ) (now : A) : Type 0 where
  pub work : Work one all all Ok Ok
  pub rest : Left (Ran all (from_at s limit at) old) all Ok (left_at s limit p o) now
  pub gone : Gone s limit at n p o
  pub few : n ≤ p

pub grouping_start : {A : Type 0} {one : Prop → A → A} {all : List Prop → A → A} {Ok : List Prop → A → Type 0} {s : List ℕ} {limit at : ℕ} {old : A}
    → Work one all all Ok Ok → Ok (props_at s limit at) old → Grouping one all Ok s limit at old 0 at code.None old
grouping_start W h = record { work = W; rest = left-start h; gone = passed_start; few = omega arith }

-- what the next one's answer says
pub record NextIs (s : List ℕ) (limit n p : ℕ) (o : code.Option ℕ) (x : NextProperty) : Type 0 where
  pub open_yet : o ≡ code.None
  pub test : is_inside s limit p ≡ true
  pub is : x ≡ next_record s n p
  pub property-is : x.property ≡ property_of s (property_at s p)
  pub behind : p < x.group.stop
  pub within : x.group.stop ≤ limit

pub next_is : {s : List ℕ} {limit n p : ℕ} (o : code.Option ℕ) {x : NextProperty} → code.Some x ≡ next_of s limit n p o → NextIs s limit n p o x
next_is (code.Some t) e = cc
next_is {s} {limit} {n} {p} code.None {x} e = go (is_inside s limit p) refl e
  where
    go : (b : Bool) → is_inside s limit p ≡ b → code.Some x ≡ cond b (code.Some (next_record s n p)) code.None → NextIs s limit n p code.None x
    go false w h = cc
    go true w h =
        let k : x ≡ next_record s n p = cc in
        let st : x.group.stop ≡ end_at s p = ap (λ y. y.group.stop) k in
        record { open_yet = refl; test = w; is = k; property-is = ap (λ y. y.property) k; behind = omega arith; within = omega (arith, inside_true s limit p w) }

next_none : (s : List ℕ) (limit n p : ℕ) → code.None ≡ next_of s limit n p code.None → is_inside s limit p ≡ false
next_none s limit n p e = go (is_inside s limit p) e
  where
    go : (b : Bool) → code.None ≡ cond b (code.Some (next_record s n p)) code.None → b ≡ false
    go true h = cc
    go false h = refl

out : (s : List ℕ) (limit p : ℕ) → is_inside s limit p ≡ false → code.None ≡ extent s limit p
out s limit p f = rw f refl

here : (s : List ℕ) (limit p : ℕ) → is_inside s limit p ≡ true → code.Some (extent_record (length_at s p) (end_at s p) (trailer_at s p)) ≡ extent s limit p
here s limit p t = rw t refl

module _ {A : Type 0} {one : Prop → A → A} {all : List Prop → A → A} {Ok : List Prop → A → Type 0} {s : List ℕ} {limit at : ℕ} {old : A} {n p : ℕ} {now : A} (h : limit ≤ length s) where
  pub grouping_done : (o : code.Option ℕ) → Grouping one all Ok s limit at old n p o now → code.None ≡ next_of s limit n p o → Grouped all s limit at old now (record { count = n; stop = p; trailer = o })
  grouping_done (code.Some t) w e = record { is = (left-done w.rest (w.work.none_left now) refl).held.is; group-is = w.gone }
  grouping_done code.None w e =
      let f = next_none s limit n p e in
      let o : from_at s limit p ≡ some ([], p) = ap (λ g. some (g.props, g.stop)) (group-none s limit p h f) in
      record { is = (left-done w.rest (w.work.none_left now) o).held.is; group-is = passed_none h w.gone (out s limit p f) }

  -- the next property is done
  pub grouping_more : (o : code.Option ℕ) → Grouping one all Ok s limit at old n p o now → {x : NextProperty} → code.Some x ≡ next_of s limit n p o → {next : A} → next ≡ one (property_at s p) now
      → Grouping one all Ok s limit at old x.group.count x.group.stop x.group.trailer next
  grouping_more (code.Some t) w e we = cc
  grouping_more code.None w {x} e {next} we =
      let i = next_is code.None e in
      subst (λ y. Grouping one all Ok s limit at old y.group.count y.group.stop y.group.trailer next) (sym i.is) (go (ends_group (trailer_at s p)) refl i.test)
    where
      go : (b : Bool) → ends_group (trailer_at s p) ≡ b → is_inside s limit p ≡ true → Grouping one all Ok s limit at old (n + 1) (end_at s p) (cond b (code.Some (trailer_at s p)) code.None) next
      go true b t =
          let o : from_at s limit p ≡ some (property_at s p ∷ [], end_at s p) = ap (λ g. some (g.props, g.stop)) (group-last s limit p h t b) in
          record { work = w.work; rest = left-next w.rest (property_at s p) (some ([], end_at s p)) o w.work we; gone = passed_last h w.gone (here s limit p t) (sym b); few = omega (arith, w.few) }
      go false b t =
          let o : from_at s limit p ≡ some (property_at s p ∷ props_at s limit (end_at s p), (group_at s limit (end_at s p)).stop) = ap (λ g. some (g.props, g.stop)) (group-more s limit p h t b) in
          record { work = w.work; rest = left-next w.rest (property_at s p) (from_at s limit (end_at s p)) o w.work we; gone = passed_more h w.gone (here s limit p t) (sym b); few = omega (arith, w.few) }

-- of no property nothing comes
pub grouped_none : {A : Type 0} {all : List Prop → A → A} {s : List ℕ} {limit at : ℕ} {old now : A} {r : Group} → Grouped all s limit at old now r → all [] old ≡ old → r.count ≤ 0 → now ≡ old
grouped_none {all = all} {s = s} {limit = limit} {at = at} {old = old} {now = now} d z l = go (props_at s limit at) refl
  where
    go : (qs : List Prop) → props_at s limit at ≡ qs → now ≡ old
    go [] q = d.is ∙ ap (λ (qs : List Prop). all qs old) q ∙ z
    go (x ∷ qs) q = absurd (omega (arith, l, ap (λ g. g.count) d.group-is, ap length q))

-- ---- the nodes that are reported of the top list
-- what is left of them from a cursor on
pub record Visiting {A : Type 0} (wanted : A → ℕ → Type 0) (one : ℕ → ℕ → List Prop → A → A) (all : ℕ → List (Node Prop) → A → A) (Ok : ℕ → List (Node Prop) → A → Type 0)
    (s a : List ℕ) (c : Cursor) (i : ℕ) (now : A) : Type 0 where
  pub work : EntryWork one all Ok
  pub goes : Going (step_at s) wanted all Ok a c i now

module _ {A : Type 0} {one : ℕ → ℕ → List Prop → A → A} {all : ℕ → List (Node Prop) → A → A} {Ok : ℕ → List (Node Prop) → A → Type 0} where
  pub top_start : {s : List ℕ} {n at : ℕ} (st : A) (a : List ℕ) {b r : Cursor} → EntryWork one all Ok → length a ≡ 512 → Held (λ y. Ok 0 y.0 st) (top_nodes (nodes_at levels s n at))
      → b ≡ cursor at 0 n no_parent → cursors.Passed (step_at s) is_reported b r → Visiting (Ran (all 0) (top_nodes (nodes_at levels s n at)) st) one all Ok s a r 0 st
  top_start {s = s} {n = n} {at = at} st a {r = r} W l h e p =
      record { work = W; goes = laws.going_start W.visit st a n at r (ap top_nodes (sym (nodes-same s levels n at))) l h (rw e at p) }

  module _ {wanted : A → ℕ → Type 0} {s a : List ℕ} {c : Cursor} {i : ℕ} {now : A} (g : Visiting wanted one all Ok s a c i now) where
    abbrev W : Visit (λ n x. one n x.type x.props) all Ok
    W = g.work.visit

    pub top-stop : c.left ≤ 0 → wanted now c.at
    top-stop l = laws.going_done W g.goes l

    -- what is asked whatever is left
    pub top_fact : {Q : Type 0} → ((xs : List (Node Prop)) → Ok i xs now → Q) → Q
    top_fact f = left_fact g.goes.rest f

    module _ (l : 0 < c.left) where
      abbrev pub entry : Step Prop
      entry = laws.entry W g.goes l

      its : Parts s c.at entry
      its = parts s c.at entry (laws.entry_read W g.goes l)

      pub node-inside : c.at ≤ length s
      node-inside = go (ltb (length s) c.at) refl
        where
          go : (b : Bool) → ltb (length s) c.at ≡ b → c.at ≤ length s
          go true e = absurd (none_some (sym (head_past s c.at (ltb-true (length s) c.at e)) ∙ its.kids))
          go false e = ltb-false (length s) c.at e

      -- what the node asks
      pub top_asks : {Q : Type 0} → ((xs : List (Node Prop)) → Ok i (laws.node W g.goes l ∷ xs) now → Q) → Q
      top_asks f = laws.going_asks W g.goes l f

      -- its group is gone through
      module _ {g' : Group} (ge : g' ≡ group (group_in s c.at)) where
        kids_at : behind s g' ≡ some (count_of entry.children, entry.next)
        kids_at = behind-in s c.at ge ∙ its.kids

        pub top_past : PastReady a c (behind s g')
        top_past = record { before = laws.going_before W g.goes l; there = rw kids_at tt }

        -- it is done
        module _ {next : A} (w : next ≡ one i (u16 s c.at) (group_in s c.at).props now) (a' : List ℕ) {r r' : Cursor} (p : Past a c i (behind s g') a' r) (o : cursors.Passed (step_at s) is_reported r r') where
          did : next ≡ one i entry.type entry.props now
          did = w ∙ ap₂ (λ (k : ℕ) (qs : List Prop). one i k qs now) (sym its.type-is) (sym its.props-are)

          moved : Moved a c i (count_of entry.children) entry.next a' r
          moved = rw kids_at at p

          pub top_less : how_many (left (step_at s) (i + 1) a' r') < how_many (left (step_at s) i a c)
          top_less = laws.going_less W g.goes l did a' moved o

          pub top-next : Visiting wanted one all Ok s a' r' (i + 1) next
          top-next = record { work = g.work; goes = laws.going_next W g.goes l did a' moved o }

-- ---- the scan
-- what is left for it from the match at a on
pub record Sweeping {A : Type 0} (wanted : A → ℕ → Type 0) (all : List (Node Prop) → A → A) (Ok : List (Node Prop) → A → Type 0) (s : List ℕ) (a : ℕ) (now : A) : Type 0 where
  pub within : a ≤ length s
  pub here : a < length s → match_at s a ≡ true
  pub rest : Left wanted all Ok (some (scan_from s a, 0)) now

module _ {A : Type 0} {all : List (Node Prop) → A → A} {Ok : List (Node Prop) → A → Type 0} where
  pub sweep_start : {s : List ℕ} {from : ℕ} {old : A} {a : ℕ} → Ok (scan_from s from) old → NextMatch s from a → Sweeping (Ran all (some (scan_from s from, 0)) old) all Ok s a old
  sweep_start {s = s} {from = from} {a = a} h n = record { within = n.within; here = n.here; rest = rw (sym (scan-same s from a n)) (left-start h) }

  module _ {wanted : A → ℕ → Type 0} {s : List ℕ} {a : ℕ} {now : A} (k : Sweeping wanted all Ok s a now) where
    pub sweep_stop : all [] now ≡ now → length s ≤ a → wanted now 0
    sweep_stop z h = left-done k.rest z (ap (λ (ns : List (Node Prop)). some (ns, 0)) (scan-end s a h))

    module _ (l : a < length s) {b : ℕ} (n : NextMatch s (a + 6) b) where
      -- the match's group, if it has a property, and what is found after it
      found : (ns : List (Node Prop)) → shown (props_at s b a) ≡ ns → scan_from s a ≡ ns ++ scan_from s b
      found ns e = scan_step s a b (k.here l) n ∙ ap (λ (ns : List (Node Prop)). ns ++ scan_from s b) e

      -- a group without a property
      pub sweep_over : length (props_at s b a) ≤ 0 → {mid : A} → mid ≡ now → Sweeping wanted all Ok s b mid
      sweep_over e m = rw m (record { within = n.within; here = n.here; rest = rw (sym (found [] (shown-none (props_at s b a) e))) k.rest })

      module _ (t : 0 < length (props_at s b a)) where
        here-first : ◌≡◌ {A = Option (List (Node Prop) × ℕ)} (some (scan_from s a, 0)) (some (scanned_node (props_at s b a) ∷ scan_from s b, 0))
        here-first = ap (λ (ns : List (Node Prop)). some (ns, 0)) (found (scanned_node (props_at s b a) ∷ []) (shown_some (props_at s b a) t))

        pub sweep_on : {one : Node Prop → A → A} {all' : List (Node Prop) → A → A} {Ok' : List (Node Prop) → A → Type 0} → Work one all all' Ok Ok' → {next : A} → next ≡ one (scanned_node (props_at s b a)) now
            → Sweeping wanted all' Ok' s b next
        sweep_on W w = record { within = n.within; here = n.here; rest = left-next k.rest (scanned_node (props_at s b a)) (some (scan_from s b, 0)) here-first W w }

-- ---- a group written: the running value is the rows, with the place of the next one
record Filled : Type 0 where
  rows : List ℕ
  next : ℕ

abbrev filled : List ℕ → ℕ → Filled
filled rows next = record { rows = rows; next = next }

abbrev put_one : List ℕ → Prop → Filled → Filled
put_one s q f = filled (put property_width f.rows f.next (property_row (property_of s q) ∷ [])) (f.next + 1)

abbrev put_all : List ℕ → List Prop → Filled → Filled
put_all s qs f = filled (write_properties (map (property_of s) qs) f.rows f.next) (f.next + length qs)

record Room (qs : List Prop) (f : Filled) : Type 0 where
  fits : (f.next + length qs) * property_width ≤ length f.rows

putting : (s : List ℕ) → Work (put_one s) (put_all s) (put_all s) Room Room
putting s = record {
  none_left = λ f. let n : f.next + 0 ≡ f.next = omega arith in λ i. filled (properties-none f.rows f.next i) (n i);
  one_more = λ q qs f. let n : f.next + length (q ∷ qs) ≡ f.next + 1 + length qs = omega arith in λ i. filled (properties-more (property_of s q) (map (property_of s) qs) f.rows f.next i) (n i);
  ok-more = λ q qs f r. let l = put-length property_width f.rows f.next (property_row (property_of s q) ∷ []) in record { fits = omega (arith, r.fits, l) };
}

-- what the loop keeps
pub record Writing (s : List ℕ) (limit at : ℕ) (old : List ℕ) (first : ℕ) (new : List ℕ) (n p : ℕ) (o : code.Option ℕ) : Type 0 where
  pub few : n ≤ p
  group : Grouping (put_one s) (put_all s) Room s limit at (filled old first) n p o (filled new (first + n))

pub writing_start : {s : List ℕ} {limit at : ℕ} {old : List ℕ} {first : ℕ} → GroupReady s limit at (length old) first → Writing s limit at old first old 0 at code.None
writing_start {s = s} {limit = limit} {at = at} {old = old} {first = first} g =
    let z : first ≡ first + 0 = omega arith in
    record { few = omega arith; group = subst (λ n. Grouping (put_one s) (put_all s) Room s limit at (filled old first) 0 at code.None (filled old n)) z (grouping_start (putting s) (record { fits = g.fits })) }

module _ {s : List ℕ} {limit at : ℕ} {old : List ℕ} {first : ℕ} {new : List ℕ} {n p : ℕ} (h : limit ≤ length s) where
  pub writing_done : (o : code.Option ℕ) → Writing s limit at old first new n p o → code.None ≡ next_of s limit n p o → GroupDone s limit at old first new (record { count = n; stop = p; trailer = o })
  writing_done o w e = let d = grouping_done h o w.group e in record { rows = ap (λ f. f.rows) d.is; is = d.group-is }

  pub writing_room : (o : code.Option ℕ) → Writing s limit at old first new n p o → {x : NextProperty} → code.Some x ≡ next_of s limit n p o → (first + n) * property_width + property_width ≤ length new
  writing_room (code.Some t) w e = cc
  writing_room code.None w e = omega (arith, props_some s limit p h (next_is code.None e).test, w.group.rest.ok.fits)

  pub writing_more : (o : code.Option ℕ) → Writing s limit at old first new n p o → {x : NextProperty} → code.Some x ≡ next_of s limit n p o
      → {new' : List ℕ} → new' ≡ put property_width new (first + n) (property_row x.property ∷ []) → Writing s limit at old first new' x.group.count x.group.stop x.group.trailer
  writing_more o w {x} e {new'} en =
      let i = next_is o e in
      let a = en ∙ ap (λ q. put property_width new (first + n) (property_row q ∷ [])) i.property-is in
      let m : first + n + 1 ≡ first + (n + 1) = omega arith in
      let z : first + n + 1 ≡ first + x.group.count = m ∙ ap (λ y. first + y.group.count) (sym i.is) in
      let g = grouping_more h o w.group e (λ j. filled (a j) (first + n + 1)) in
      record {
        few = g.few;
        group = subst (λ k. Grouping (put_one s) (put_all s) Room s limit at (filled old first) x.group.count x.group.stop x.group.trailer (filled new' k)) z g;
      }
