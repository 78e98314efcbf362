-- Levels and parents are as wish 1 has them.
use Prim.Native.Nat.{ℕ, zero, suc, ◌+◌, ◌-◌, ◌≤◌, ◌<◌}
use native.Mathlib.Omega.{arith}
use mathlib.Core.Path.{◌≡◌, refl, sym, ap, ap₂, subst, ◌∙◌}
use mathlib.Core.Bool.{Bool, true, false, not, cond}
use mathlib.Core.List.{List, [], ◌∷◌, ◌++◌, map}
use mathlib.Core.Option.{Option, none, some}
use lib.Dec.{ltb, eqb}
use lib.ListN.{length, get_or, length-map}
use borrow.Author.Tests.{eq-eqb, ne_eqb, eqb-true, eqb-false, le-ltb}
use Rattle.rules.specs.Lists.{keep}
use Rattle.rules.specs.Bytes.{Bytes}
use Rattle.rules.specs.Answer.{longest}
use Rattle.rules.specs.Tree.{Entry, plain, parent, Entries, end, more, Node, no_parent, node_in, reported, nodes_of}
use Rattle.rules.specs.Rows.{control_width, property_width, room}
use Rattle.rules.specs.Access2000 as old
use Rattle.rules.specs.Later as later
use Rattle.rules.specs.Reading.{Control, Reading, properties}
use Rattle.rules.specs.Read2000 as read2000
use Rattle.rules.specs.ReadLater as read_later_lem
use Rattle.rules.specs.ReadLater.{read_later_lem}
use Rattle.rules.specs.Blob.{Exit, read, is2000, read_by, reading_of, exit_by_lem, exit, outcome_later, exit2000, exit_later}
use Rattle.rules.specs.declared.Answer.{Answer}
use Rattle.rules.proofs.ListLaws.{every_at, none_some, get_d_map}
use Rattle.claims.specs.Contents as contents
use Rattle.claims.specs.LaterContents as laterContents
use Rattle.claims.specs.Shown as shown
use Rattle.claims.specs.LaterShown as laterShown
use Rattle.claims.specs.LaterShown.{nodes_in1, nodes_in}
use Rattle.claims.specs.LaterTree.{Spelled}
use Rattle.claims.specs.RowChecks.{level, parent_row}
use Rattle.claims.specs.Readers.{Answer2000, AnswerLater}
use Rattle.claims.specs.Nesting.{last_before, parent_by, ParentOf, Nested, Lists, Lists2000, ListsLater, Nesting}
use Rattle.claims.proofs.Amounts.{entries_in1, entries_in, nodes-many}
use Rattle.claims.proofs.Each.{Each, each_of, each_at}
use Rattle.claims.proofs.RowsSeen.{no-control, control_of, Rows, rows_seen, level-is, parent_is, zero-read}
use Rattle.claims.proofs.Nests.{sizes1, sizes, sizes-many, told-all, level_of, parent_of, itself, stands, Row, Span, spans}
use Rattle.claims.proofs.Shallow.{Shallow, Low, nodes-low, old_shallow, tree_shallow}
use Rattle.claims.proofs.Demand2.{items-many}
use Rattle.claims.proofs.Stored.{list-shown}
use Rattle.claims.proofs.LaterTree.{top-shown, no-tree, later-tree}
use Rattle.claims.proofs.Readers.{wish8}

-- only asked for where there is one
abbrev no_node : {P : Type 0} → Node P
no_node = node_in 0 no_parent 0 []

abbrev Top : {P : Type 0} → Node P → Type 0
Top n = (n.level ≡ 0) × (n.parent ≡ no_parent)

-- ---- the last row with a level
last-is : (f : ℕ → ℕ) (l p n : ℕ) → p < n → f p ≡ l → ((j : ℕ) → p < j → j < n → ¬ (f j ≡ l)) → last_before f l n ≡ p
unfolding last_before
last-is f l p zero b e h = absurd (omega arith)
last-is f l p (suc n) b e h = go (eqb p n) refl λ a. last-is f l p n a e λ j a c. h j a (omega arith)
  where
    go : (x : Bool) → eqb p n ≡ x → (p < n → last_before f l n ≡ p) → cond (eqb (f n) l) n (last_before f l n) ≡ p
    go true q rest = let same : p ≡ n = eqb-true _ _ q in let t : f n ≡ l = ap f (sym same) ∙ e in rw (eq-eqb (f n) l t) (sym same)
    go false q rest =
        let other : ¬ (p ≡ n) = eqb-false _ _ q in
        let a : p < n = omega arith in
        rw (ne_eqb (f n) l (h n a (omega arith))) (rest a)

module _ (seen : Exit) where
  abbrev N : ℕ
  N = seen.answer.first

  -- the rows have the levels and parents of nodes
  record RowsOf {P : Type 0} (ns : List (Node P)) : Type 0 where
    many : N ≡ length ns
    levels : (i : ℕ) → i < length ns → level seen i ≡ (get_or ns i no_node).level
    parents : (i : ℕ) → i < length ns → parent_row seen i ≡ (get_or ns i no_node).parent

  -- ---- parents by the levels follow from the others
  by-levels : (i : ℕ) → (level seen i ≡ 0 → parent_row seen i ≡ no_parent) → (0 < level seen i → ParentOf seen i (parent_row seen i)) → parent_row seen i ≡ parent_by (level seen) i
  by-levels i without with = go (eqb (level seen i) 0) refl
    where
      go : (b : Bool) → eqb (level seen i) 0 ≡ b → parent_row seen i ≡ cond b no_parent (last_before (level seen) (level seen i - 1) i)
      go true q = without (eqb-true _ _ q)
      go false q =
          let other : ¬ (level seen i ≡ 0) = eqb-false _ _ q in
          let p = with (omega arith) in
          sym (last-is (level seen) (level seen i - 1) (parent_row seen i) i p.before (omega (arith, p.one_less)) λ j a b e. p.last j (omega arith) b (omega arith))

  -- ---- rows at level 0
  abbrev Flat : Type 0
  Flat = (i : ℕ) → i < N → (level seen i ≡ 0) × (parent_row seen i ≡ no_parent)

  rows_flat : {P : Type 0} (ns : List (Node P)) → RowsOf ns → Each Top ns → Flat
  rows_flat ns rows top i l =
      let b : i < length ns = omega (arith, rows.many) in
      let n = each_at Top ns no_node i b top in
      (rows.levels i b ∙ n.0, rows.parents i b ∙ n.1)

  flat_nested : Flat → Nested seen
  flat_nested flat =
      let with : (i : ℕ) → i < N → 0 < level seen i → ParentOf seen i (parent_row seen i) = λ i l b. absurd (omega (arith, (flat i l).0)) in
      record {
        first-row = λ l. (flat 0 l).0;
        one_deeper = λ i l. omega (arith, (flat (i + 1) l).0);
        deepest = λ i l. omega (arith, (flat i l).0);
        no-parent = λ i l _. (flat i l).1;
        a_parent = with;
        by-levels = λ i l. by-levels i (λ _. (flat i l).1) (with i l);
      }

  -- ---- rows of a tree
  module _ {P : Type 0} (es : Entries P) (rows : RowsOf (nodes_of es)) where
    abbrev below : ℕ → ℕ
    below i = get_or (sizes (reported es)) i 0

    entries : N ≡ entries_in (reported es)
    entries = rows.many ∙ (nodes-many es).0

    span : Span (level seen) (parent_row seen) below N 0 0 (0 + entries_in (reported es))
    unfolding nodes_of
    span =
        let levels = told-all (level seen) level_of (nodes_of es) no_node rows.levels in
        let parents = told-all (parent_row seen) parent_of (nodes_of es) no_node rows.parents in
        let lists = told-all below itself (sizes (reported es)) 0 λ k l. refl in
        let stand = stands (level seen) (parent_row seen) below 0 no_parent 0 (reported es) levels parents lists in
        spans (level seen) (parent_row seen) below N 0 no_parent 0 (reported es) stand
        (record { none = λ _. refl; before = λ l. absurd (omega arith); one_less = λ l. absurd (omega arith); between = λ l. absurd (omega arith) })
        (record { first = λ _. refl; one_deeper = λ j e. absurd (omega arith) })
        (omega (arith, entries)) λ l. absurd (omega (arith, entries))

    row : (i : ℕ) → i < N → Row (level seen) (parent_row seen) below N i
    row i l = span.each i (omega arith) (omega (arith, entries))

    low : Shallow 0 es → (i : ℕ) → i < N → level seen i ≤ 255
    low h i l = let b : i < length (nodes_of es) = omega (arith, rows.many) in rw (rows.levels i b) (each_at Low (nodes_of es) no_node i b (nodes-low es h))

    parent_of_lem : (i : ℕ) → i < N → 0 < level seen i → ParentOf seen i (parent_row seen i)
    parent_of_lem i l b =
        let u = (row i l).up in
        record { before = u.before b; one_less = u.one_less b; last = λ j a c e. omega (arith, u.between b j (omega arith) (omega arith)) }

    tree-nested : Shallow 0 es → Nested seen
    tree-nested h = record {
      first-row = λ l. (row 0 l).next.first refl;
      one_deeper = λ i l. (row (i + 1) l).next.one_deeper i refl;
      deepest = low h;
      no-parent = λ i l. (row i l).up.none;
      a_parent = parent_of_lem;
      by-levels = λ i l. by-levels i (row i l).up.none (parent_of_lem i l);
    }

    tree_lists : Lists (sizes (reported es)) seen
    tree_lists = record {
      a_row-each = sizes-many (reported es) ∙ sym entries;
      lists = λ i l. let r = row i l in record { inside = r.inside; higher = r.higher; over = λ a. omega (arith, r.over a) };
    }

-- ---- a reading's rows are those of the nodes that it is made of
module _ {P : Type 0} (control : Node P → Control) (same : (n : Node P) → ((control n).level ≡ n.level) × ((control n).parent ≡ n.parent))
    (ns : List (Node P)) (r : Reading) (controls-are : r.controls ≡ map control ns) (cs ps : List ℕ) (rows : Rows r (exit_by_lem (read r) cs ps)) where
  there : (i : ℕ) → i < length ns → i < length r.controls
  there i l = rw controls-are (simp length-map l)

  control-is : (i : ℕ) → i < length ns → control_of r i ≡ control (get_or ns i no_node)
  control-is i l = ap (λ cs. get_or cs i no-control) controls-are ∙ get_d_map control ns i no_node no-control l

  rows_of : RowsOf (exit_by_lem (read r) cs ps) ns
  rows_of = record {
    many = ap length controls-are ∙ simp length-map;
    levels = λ i l. level-is rows i (there i l) ∙ ap (λ c. c.level) (control-is i l) ∙ (same (get_or ns i no_node)).0;
    parents = λ i l. parent_is rows i (there i l) ∙ ap (λ c. c.parent) (control-is i l) ∙ (same (get_or ns i no_node)).1;
  }

-- ---- how many rows lists take, by what is spelled
module _ (s : List ℕ) where
  mutual
    items_sizes1 : (e : Entry old.Prop) → sizes1 e ≡ shown.list_rows1 (contents.item s e)
    items_sizes1 (plain t qs) = refl
    items_sizes1 (parent t qs es) = ap₂ ◌∷◌ (items-many s es) (items-sizes es)

    items-sizes : (es : Entries old.Prop) → sizes es ≡ shown.list_rows (contents.items s es)
    items-sizes end = refl
    items-sizes (more e es) = ap₂ ◌++◌ (items_sizes1 e) (items-sizes es)

  mutual
    nodes-many_in1 : (e : Entry later.Prop) → entries_in1 e ≡ nodes_in1 (laterContents.node s e)
    nodes-many_in1 (plain t qs) = refl
    nodes-many_in1 (parent t qs es) = omega (arith, nodes-many_in es)

    nodes-many_in : (es : Entries later.Prop) → entries_in es ≡ nodes_in (laterContents.nodes s es)
    nodes-many_in end = refl
    nodes-many_in (more e es) = ap₂ ◌+◌ (nodes-many_in1 e) (nodes-many_in es)

  mutual
    nodes_sizes1 : (e : Entry later.Prop) → sizes1 e ≡ laterShown.list_rows1 (laterContents.node s e)
    nodes_sizes1 (plain t qs) = refl
    nodes_sizes1 (parent t qs es) = ap₂ ◌∷◌ (nodes-many_in es) (nodes-sizes es)

    nodes-sizes : (es : Entries later.Prop) → sizes es ≡ laterShown.list_rows (laterContents.nodes s es)
    nodes-sizes end = refl
    nodes-sizes (more e es) = ap₂ ◌++◌ (nodes_sizes1 e) (nodes-sizes es)

-- ---- Access 2000
module _ (t s : List ℕ) (x : List old.Prop × Entries old.Prop) (read_as : old.stream_of s ≡ some x) (cs ps : List ℕ) (rows : Rows (read2000.read2000 t s x) (exit_by_lem (read (read2000.read2000 t s x)) cs ps)) where
  abbrev r : Reading
  r = read2000.read2000 t s x

  abbrev seen : Exit
  seen = exit_by_lem (read r) cs ps

  same_2000 : (n : Node old.Prop) → ((read2000.control_of t s n).level ≡ n.level) × ((read2000.control_of t s n).parent ≡ n.parent)
  unfolding read2000.control_of
  same_2000 n = (refl, refl)

  rows_2000 : RowsOf seen (nodes_of x.1)
  unfolding read2000.read2000
  rows_2000 = rows_of (read2000.control_of t s) same_2000 (nodes_of x.1) r refl cs ps rows

  nested_2000 : Nested seen
  nested_2000 = tree-nested seen x.1 rows_2000 (every_at (λ y. Shallow 0 y.1) (old.stream_of s) x (old_shallow s) read_as)

  lists_2000 : Lists2000 s seen
  lists_2000 u h = rw (← (items-sizes s (reported x.1) ∙ ap shown.list_rows (list-shown s u h x read_as))) (tree_lists seen x.1 rows_2000)

-- ---- the later layout
module _ (s cs ps : List ℕ) (rows : Rows (read_later_lem s) (exit_by_lem (read (read_later_lem s)) cs ps)) where
  abbrev seen-later : Exit
  seen-later = exit_by_lem (read (read_later_lem s)) cs ps

  abbrev control-later : Node later.Prop → Control
  control-later = read_later_lem.control_of s (read_later_lem.name_in_lem s (later.tree_of s))

  same-later : (n : Node later.Prop) → ((control-later n).level ≡ n.level) × ((control-later n).parent ≡ n.parent)
  unfolding read_later_lem.control_of
  same-later n = (refl, refl)

  rows-later : (ns : List (Node later.Prop)) → (later.later_of_lem s).1 ≡ ns → RowsOf seen-later ns
  unfolding read_later_lem
  rows-later ns e = rows_of control-later same-later ns (read_later_lem s) (ap (map control-later) e) cs ps rows

  -- what is reported: nothing, what is scanned, or the tree
  found : (b : Bool) (o : Option (Entries later.Prop)) → ltb (length s) 14 ≡ b → later.tree_of s ≡ o → (later.later_of_lem s).1 ≡ cond b [] (later.nodes_by s o)
  unfolding later.later_of_lem
  found true o q e = rw q
  found false o q e = rw (q, e)

  none_flat : (later.later_of_lem s).1 ≡ [] → Flat seen-later
  none_flat e = rows_flat seen-later [] (rows-later [] e) tt

  scan-top : (p : ℕ) → Each Top (later.scan_from s p)
  unfolding later.scan_from
  scan-top p = each_of (Top {P = later.Prop}) (node_in 0 no_parent 0) (keep (λ qs. not (later.is_empty qs)) (later.groups_of s (later.matches_from s p))) λ qs. (refl, refl)

  scan_flat : (p : ℕ) → (later.later_of_lem s).1 ≡ later.scan_from s p → Flat seen-later
  scan_flat p e = rows_flat seen-later (later.scan_from s p) (rows-later (later.scan_from s p) e) (scan-top p)

  nested-later : Nested seen-later
  nested-later = go (ltb (length s) 14) (later.tree_of s) refl refl
    where
      go : (b : Bool) (o : Option (Entries later.Prop)) → ltb (length s) 14 ≡ b → later.tree_of s ≡ o → Nested seen-later
      go true o q e = flat_nested seen-later (none_flat (found true o q e))
      go false none q e = flat_nested seen-later (scan_flat _ (found false none q e))
      go false (some es) q e = tree-nested seen-later es (rows-later (nodes_of es) (found false (some es) q e)) (every_at (λ y. Shallow 0 y) (later.tree_of s) es (tree_shallow s) e)

  lists-later : Bytes s → ListsLater s seen-later
  lists-later small = record {
    tree = λ t h.
        let b = later-tree.by-tree s t h in
        let es = b.tree in
        rw (← (nodes-sizes s (reported es) ∙ ap laterShown.list_rows (top-shown s t h es b.is_read))) (tree_lists seen-later es (rows-later (nodes_of es) (ap (λ y. y.1) b.is-reported)));
    scan = λ n. go (ltb (length s) 14) n refl;
  }
    where
      go : (b : Bool) → ¬ Spelled s → ltb (length s) 14 ≡ b → Flat seen-later
      go true n q = none_flat (found true (later.tree_of s) q refl)
      go false n q = scan_flat _ (found false none q (no-tree s small n))

-- ---- on answer 0
module _ (t s cs ps : List ℕ) where
  abbrev Of2000 : Exit → Type 0
  Of2000 seen = Nested seen × Lists2000 s seen

  by_2000 : (q : Reading) (o : Option (List old.Prop × Entries old.Prop)) → old.stream_of s ≡ o → read_by t s o ≡ some q → Rows q (exit_by_lem (read q) cs ps) → Of2000 (exit_by_lem (read q) cs ps)
  by_2000 q none e i = absurd (none_some i)
  by_2000 q (some x) e i =
      let same : read2000.read2000 t s x ≡ q = cc in
      subst (λ r. Rows r (exit_by_lem (read r) cs ps) → Of2000 (exit_by_lem (read r) cs ps)) same λ rows. (nested_2000 t s x e cs ps rows, lists_2000 t s x e cs ps rows)

  of_2000 : is2000 t s ≡ true → (exit t s cs ps).answer.number ≡ 0 → Of2000 (exit t s cs ps)
  unfolding reading_of
  of_2000 o e = let z = zero-read t s cs ps e in rw z.is_seen (by_2000 z.reading (old.stream_of s) refl (rw o at z.is_read) z.rows)

  of_later : is2000 t s ≡ false → (exit t s cs ps).answer.number ≡ 0 → Nested (exit t s cs ps) × (Bytes s → ListsLater s (exit t s cs ps))
  unfolding reading_of
  of_later o e =
      let z = zero-read t s cs ps e in
      let i : some (read_later_lem s) ≡ some z.reading = rw o at z.is_read in
      let same : read_later_lem s ≡ z.reading = cc in
      rw z.is_seen (subst (λ r. Rows r (exit_by_lem (read r) cs ps) → Nested (exit_by_lem (read r) cs ps) × (Bytes s → ListsLater s (exit_by_lem (read r) cs ps))) same
      (λ rows. (nested-later s cs ps rows, lists-later s cs ps rows)) z.rows)

  nested : (exit t s cs ps).answer.number ≡ 0 → Nested (exit t s cs ps)
  nested e = go (is2000 t s) refl
    where
      go : (b : Bool) → is2000 t s ≡ b → Nested (exit t s cs ps)
      go true o = (of_2000 o e).0
      go false o = (of_later o e).0

  -- the reader of Access 2000 streams answers 0 only where the first byte speaks for it
  speaks : (a : Answer) → Answer2000 t s cs ps a → a.number ≡ 0 → is2000 t s ≡ true
  speaks _ (Answer2000.five h) e = absurd (omega arith)
  speaks _ (Answer2000.eight h k) e = absurd (omega arith)
  speaks _ (Answer2000.fifteen j o) e = absurd (omega arith)
  speaks a (Answer2000.chosen j o b) e = o

  reader_2000 : (exit2000 t s cs ps).answer.number ≡ 0 → Of2000 (exit2000 t s cs ps)
  reader_2000 e =
      let o = speaks (exit2000 t s cs ps).answer (((wish8.reads_2000 t s cs ps).exactly (exit2000 t s cs ps).answer).1 refl) e in
      let same = (wish8.agree t s cs ps).for_2000 o in
      subst Of2000 same (of_2000 o (rw (← same) at e))

module _ (l : ℕ) (s cs ps : List ℕ) where
  abbrev OfLater : Exit → Type 0
  OfLater seen = Nested seen × ListsLater s seen

  by-later : Bytes s → (a : Answer) → AnswerLater l s cs ps a → a.number ≡ 0 → OfLater (exit_later l s cs ps)
  unfolding exit_later outcome_later
  by-later small _ (AnswerLater.five h) e = absurd (omega arith)
  by-later small _ (AnswerLater.fifteen h o) e = absurd (omega arith)
  by-later small _ (AnswerLater.six h o k) e = absurd (omega arith)
  by-later small _ (AnswerLater.seven h o k m) e = absurd (omega arith)
  by-later small _ (AnswerLater.zero h o k m) e =
      let q = read_later_lem s in
      let rows = rows_seen cs ps q k m in
      rw (le-ltb longest (length s) h, o, le-ltb (room control_width cs) (length q.controls) k, le-ltb (room property_width ps) (length (properties q)) m)
      (nested-later s cs ps rows, lists-later s cs ps rows small)

  reader_later : Bytes s → (exit_later l s cs ps).answer.number ≡ 0 → OfLater (exit_later l s cs ps)
  reader_later small e = by-later small (exit_later l s cs ps).answer (((wish8.reads-later l s cs ps).exactly (exit_later l s cs ps).answer).1 refl) e

pub nesting : Nesting
nesting = record {
  nested = nested;
  lists_2000 = λ t s cs ps o e. (of_2000 t s cs ps o e).1;
  lists-later = λ t s cs ps small o e. (of_later t s cs ps o e).1 small;
  reader_2000 = reader_2000;
  reader_later = reader_later;
}
