-- Every control that a scan reports has a Text name first.
use Prim.Native.Nat.{ℕ, ◌≤◌, ◌<◌}
use native.Mathlib.Omega.{arith}
use mathlib.Core.Path.{◌≡◌, refl, sym, ap, ◌∙◌}
use mathlib.Core.Bool.{Bool, true, false, cond}
use mathlib.Core.List.{List, [], map}
use mathlib.Core.Logic.{◌⊎◌, inl, inr}
use mathlib.Core.Option.{Option, none, some}
use lib.Dec.{ltb, eqb}
use lib.ListN.{length, get_or}
use borrow.Author.Tests.{le-ltb, eq-eqb}
use Rattle.rules.specs.Lists.{find}
use Rattle.rules.specs.Rows.{property_width, row_at}
use Rattle.rules.specs.Tree.{Entries, Node}
use Rattle.rules.specs.Later.{Prop, property_at, tree_of, nodes_by, later_of_lem, object_group, scan_from}
use Rattle.rules.specs.Reading.{Control, Reading}
use Rattle.rules.specs.ReadLater.{property_of, text_name_lem, name_by_lem, name_of, scanned_name, name_in_lem, control_of, read_later_lem}
use Rattle.rules.specs.Blob.{Exit}
use Rattle.rules.specs.declared.Property.{Property}
use Rattle.rules.specs.declared.Name.{Name}
use Rattle.rules.specs.declared.Name.TheVariants.{Text, Numbered, Loose}
use Rattle.claims.specs.RowChecks.{first_row, property_count}
use Rattle.claims.specs.LaterScan as laterScan
use Rattle.claims.specs.LaterScan.{words_at, Within, ControlAt}
use Rattle.claims.specs.ScanNames.{read_alike, TextFirst, TextNamed, Wish10}
use Rattle.claims.proofs.Each.{each_at, each_map, each_same}
use Rattle.claims.proofs.Scan.{match_numbers, Node-from, scan-nodes}
use Rattle.claims.proofs.LaterScan.{first-is, named}
use Rattle.claims.proofs.LaterTree.{later-tree}

-- ---- of the reading
no_number : {n : Name} {start size : ℕ} → n ≡ Text start size → ¬ (n ≡ Numbered)
no_number e f = let z : ◌≡◌ {A = ℕ} 0 1 = cc in omega arith

no-number-loose : {n : Name} {start size : ℕ} → n ≡ Loose start size → ¬ (n ≡ Numbered)
no-number-loose e f = let z : ◌≡◌ {A = ℕ} 0 1 = cc in omega arith

module _ (s : List ℕ) where
  -- a node that a match started is a control with a Text name first
  first-text : (p : ℕ) (n : Node Prop) → Node-from s p n → TextFirst s (control_of s (scanned_name s) n)
  unfolding control_of property_at
  first-text p n m =
      let a = m.0 in
      let x = m.1 in
      let k = match_numbers s a x.match in
      let t = named s p a n x in
      record {
        first = property_at s a;
        rest = x.rest;
        are = ap (map (property_of s)) x.first;
        id = k.1;
        type = k.2;
        named = t;
        not_numbered = elim t [ inl e ↦ no_number e.1 | inr e ↦ no-number-loose e.1 ];
      }

  scanned-controls : 14 ≤ length s → tree_of s ≡ none → (read_later_lem s).controls ≡ map (control_of s (scanned_name s)) (scan_from s (object_group s).stop)
  unfolding read_later_lem later_of_lem
  scanned-controls l e = rw (le-ltb (length s) 14 l, e)

  text-first : 14 ≤ length s → tree_of s ≡ none → (i : ℕ) (nothing : Control) → i < length (read_later_lem s).controls → TextFirst s (get_or (read_later_lem s).controls i nothing)
  text-first l e i nothing h =
      let stop = (object_group s).stop in
      each_at (TextFirst s) (read_later_lem s).controls nothing i h (rw (scanned-controls l e) (each_map (Node-from s stop) (TextFirst s) (control_of s (scanned_name s)) (scan_from s stop) (first-text stop) (scan-nodes s stop)))

  -- by the old clause it has the same name: its first property is the first 0x0014, and Text
  same_name : (p : ℕ) (n : Node Prop) → Node-from s p n → scanned_name s n ≡ name_of s n
  unfolding scanned_name name_of find property_of
  same_name p n m =
      let a = m.0 in
      let x = m.1 in
      let f = first-is s a x.match in
      let k : eqb (property_at s a).id 0x0014 ≡ true = eq-eqb _ _ f.id in
      rw (x.first, k) (by-mark (property_of s (property_at s a)) f.text)
    where
      by-mark : (p : Property) → (p.value.mark ≡ 6) ⊎ (p.value.mark ≡ 8) → text_name_lem p ≡ name_by_lem p
      by-mark p (inl e) = rw e
      by-mark p (inr e) = rw e

  same-controls : (o : Option (Entries Prop)) → map (control_of s (name_in_lem s o)) (nodes_by s o) ≡ map (control_of s (name_of s)) (nodes_by s o)
  unfolding control_of
  same-controls none =
      let p = (object_group s).stop in
      each_same (Node-from s p) _ _ (scan_from s p) (λ n m. ap (λ name. record { type = n.type; name = name; properties = map (property_of s) n.props; level = n.level; parent = n.parent }) (same_name p n m)) (scan-nodes s p)
  same-controls (some es) = refl

  same-reading : read_later_lem s ≡ read_alike s
  unfolding read_later_lem read_alike later_of_lem
  same-reading = go (ltb (length s) 14)
    where
      found : Bool → List Prop × List (Node Prop)
      found b = cond b ([], []) ((object_group s).props, nodes_by s (tree_of s))

      read_by : (Node Prop → Name) → Bool → Reading
      read_by name b = record { own = map (property_of s) (found b).0; controls = map (control_of s name) (found b).1 }

      go : (b : Bool) → read_by (name_in_lem s (tree_of s)) b ≡ read_by (name_of s) b
      go true = refl
      go false = ap (λ cs. record { own = map (property_of s) (object_group s).props; controls = cs }) (same-controls (tree_of s))

-- ---- of the rows
module _ (s : List ℕ) (seen : Exit) where
  -- the row of a group's first property shows the bytes at the match
  first-row : (Inside : ℕ → Type 0) (j n q : ℕ) → 0 < n → laterScan.Group s seen Inside j n q → row_at property_width j seen.properties ≡ words_at s q
  first-row Inside j _ q l (laterScan.Group.unread f) = absurd (omega arith)
  first-row Inside j _ q l (laterScan.Group.ended e x t) = e
  first-row Inside j _ q l (laterScan.Group.onward e x t g) = e

  row_named : (i p : ℕ) → ControlAt s seen i p → TextNamed seen i
  row_named i p c =
      let e = first-row (Within s p) (first_row seen i) (property_count seen i) p c.has-rows c.its-rows in
      record {
        has_first = c.has-rows;
        id = c.first-id;
        named = c.first-text;
        not_numbered = λ one. elim c.first-text [ inl e ↦ omega (arith, e.1) | inr e ↦ omega (arith, e.1) ];
        start = c.name-start ∙ sym (ap (λ w. get_or w 4 0) e);
        size = c.name-length ∙ sym (ap (λ w. get_or w 5 0) e);
      }

pub wish10 : Wish10
wish10 = record {
  text-first = λ s l. text-first s (omega arith);
  same-reading = same-reading;
  text-named = λ table s controls rows small g l n zero i h.
      let seen = (later-tree.judges table s controls rows small g).scan n l zero in
      let c = seen.each-control i h in
      row_named s _ i c.0 c.2;
}
