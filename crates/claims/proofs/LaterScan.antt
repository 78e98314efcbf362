-- The rows of a scanned stream are what a reader can check of them.
use Prim.Native.Nat.{ℕ, suc, ◌+◌, ◌≤◌, ◌<◌}
use native.Mathlib.Omega.{arith}
use native.Mathlib.Numerals.{add-one}
use mathlib.Core.Path.{◌≡◌, refl, sym, ap, subst, ◌∙◌}
use mathlib.Core.Bool.{Bool, true, false, cond}
use mathlib.Core.List.{List, [], ◌∷◌, map}
use mathlib.Core.Logic.{◌⊎◌, inl, inr}
use mathlib.Core.Option.{none}
use lib.ListN.{length, get_or, get_or-append, length-append, length-map}
use Rattle.rules.specs.Lists.{concat}
use Rattle.rules.specs.Bytes.{part}
use Rattle.rules.specs.Utf16.{is_utf16_lem}
use Rattle.rules.specs.Value.{value, entry_value_lem}
use Rattle.rules.specs.Tree.{Node}
use Rattle.rules.specs.Rows.{property_width, row_at}
use Rattle.rules.specs.Later.{Prop, length_at, end_at, property_at, tree_of, object_group, scan_from, later_of_lem}
use Rattle.rules.specs.Reading.{Control, Reading, properties, properties_of, control_row, property_row}
use Rattle.rules.specs.ReadLater.{property_of, text_name_lem, scanned_name, control_of, read_later_lem}
use Rattle.rules.specs.Blob.{Exit, counted}
use Rattle.rules.specs.declared.Value.{Value}
use Rattle.rules.specs.declared.Property.{Property}
use Rattle.rules.specs.declared.Name.{Name}
use Rattle.rules.specs.declared.Name.TheVariants.{Text, Loose}
use Rattle.rules.proofs.ListLaws.{get_d_map}
use Rattle.claims.specs.RowChecks.{first_row, property_count}
use Rattle.claims.specs.LaterScan.{words_at, Group, behind_rows, scan_start, Within, Starts, ControlAt, Scanned}
use Rattle.claims.proofs.Each.{each_at}
use Rattle.claims.proofs.RowsSeen as rowsSeen
use Rattle.claims.proofs.RowsSeen.{no-property, first_of, Rows}
use Rattle.claims.proofs.Scan.{match_numbers, match_is, At, Reach, FromMatch, Node-from, no_node, scan-nodes, scan-node, behind, group-stop, Read, unread, ended, onward, group-read}

-- ---- the name of a scanned control
-- a Text property, and the name that is its value
abbrev TextNamed : Value → ℕ → ℕ → Name → Type 0
TextNamed v start size m = ((v.mark ≡ 6) × (m ≡ Text start size)) ⊎ ((v.mark ≡ 8) × (m ≡ Loose start size))

module _ (s : List ℕ) where
  text-mark : (b : List ℕ) → ((entry_value_lem 0x0A b).mark ≡ 6) ⊎ ((entry_value_lem 0x0A b).mark ≡ 8)
  unfolding entry_value_lem
  text-mark b = go (is_utf16_lem b)
    where
      go : (t : Bool) → ((cond t (value 6 0 0) (value 8 0 0)).mark ≡ 6) ⊎ ((cond t (value 6 0 0) (value 8 0 0)).mark ≡ 8)
      go true = inl refl
      go false = inr refl

  -- the first property of a match is a Text of id 0x0014
  pub record First (a : ℕ) (p : Property) : Type 0 where
    pub id : p.id ≡ 0x14
    pub text : (p.value.mark ≡ 6) ⊎ (p.value.mark ≡ 8)
    pub start : p.start ≡ a + 14
    pub size : p.size ≡ length_at s a

  pub first-is : (a : ℕ) → At s a → First a (property_of s (property_at s a))
  unfolding property_of property_at
  first-is a m =
      let n = match_numbers s a m in
      record { id = n.1; text = rw n.2 (text-mark (part s (a + 14) (length_at s a))); start = refl; size = refl }

  name_by : (a : ℕ) (p : Property) → First a p → TextNamed p.value (a + 14) (length_at s a) (text_name_lem p)
  name_by a p f = go f.text
    where
      go : (p.value.mark ≡ 6) ⊎ (p.value.mark ≡ 8) → TextNamed p.value (a + 14) (length_at s a) (text_name_lem p)
      go (inl e) = inl (e, rw (e, f.start, f.size))
      go (inr e) = inr (e, rw (e, f.start, f.size))

  pub named : (p a : ℕ) (n : Node Prop) → FromMatch s p a n → TextNamed (property_of s (property_at s a)).value (a + 14) (length_at s a) (scanned_name s n)
  unfolding scanned_name
  named p a n x = rw x.first (name_by a (property_of s (property_at s a)) (first-is a x.match))

-- only asked for where there is one
abbrev no-prop : Prop
no-prop = record { id = 0; type = 0; start = 0; size = 0 }

-- ---- words of a control's row
row_type : (n first : ℕ) (c : Control) → get_or (control_row n first c) 0 0 ≡ c.type
unfolding control_row
row_type n first c = refl

record NameWords (v : Value) (row : List ℕ) (start size : ℕ) : Type 0 where
  mark : ((v.mark ≡ 6) × (get_or row 1 0 ≡ 0)) ⊎ ((v.mark ≡ 8) × (get_or row 1 0 ≡ 2))
  its-start : get_or row 2 0 ≡ start
  its-size : get_or row 3 0 ≡ size

name-words : (v : Value) (n first start size : ℕ) (c : Control) → TextNamed v start size c.name → NameWords v (control_row n first c) start size
unfolding control_row
name-words v n first start size c (inl e) = rw e.1 (record { mark = inl (e.0, refl); its-start = refl; its-size = refl })
name-words v n first start size c (inr e) = rw e.1 (record { mark = inr (e.0, refl); its-start = refl; its-size = refl })

-- a control of the scan
abbrev control_in : List ℕ → Node Prop → Control
control_in s n = control_of s (scanned_name s) n

module _ (s : List ℕ) (seen : Exit) (rows : Rows (read_later_lem s) seen) (answer : seen.answer ≡ counted 0 (read_later_lem s))
    (no-tree : tree_of s ≡ none) (scanned : later_of_lem s ≡ ((object_group s).props, scan_from s (object_group s).stop)) where
  abbrev r : Reading
  r = read_later_lem s

  abbrev stop : ℕ
  stop = (object_group s).stop

  -- ---- the controls are those of the nodes
  controls-are : r.controls ≡ map (control_in s) (scan_from s stop)
  unfolding read_later_lem
  controls-are = rw (no-tree, scanned)

  many : seen.answer.first ≡ length (scan_from s stop)
  many = ap (λ a. a.first) answer ∙ ap length controls-are ∙ simp length-map

  control-is : (i : ℕ) → i < length (scan_from s stop) → rowsSeen.control_of r i ≡ control_in s (get_or (scan_from s stop) i no_node)
  control-is i l = ap (λ cs. get_or cs i rowsSeen.no-control) controls-are ∙ get_d_map (control_in s) (scan_from s stop) i no_node rowsSeen.no-control l

  -- a place within the group, by the six bytes
  within-is : (a e : ℕ) → Reach s a e → Within s a e
  within-is a e x = record { to_end = x.to_end; to-next = λ q l m. omega (arith, x.to-next q l ((match_is s q).1 m)) }

  reach_is : (a e : ℕ) → Within s a e → Reach s a e
  reach_is a e x = record { to_end = x.to_end; to-next = λ q l m. omega (arith, x.to-next q l ((match_is s q).0 m)) }

  -- ---- a group's rows
  abbrev Shown : List Prop → ℕ → Type 0
  Shown qs j = (k : ℕ) → k < length qs → row_at property_width (j + k) seen.properties ≡ property_row (property_of s (get_or qs k no-prop))

  shown-first : (q j : ℕ) (qs : List Prop) → Shown (property_at s q ∷ qs) j → row_at property_width j seen.properties ≡ words_at s q
  unfolding property_of property_at
  shown-first q j qs h = let e : j + 0 ≡ j = omega arith in rw e at (h 0 (omega arith))

  shown_rest : (x : Prop) (qs : List Prop) (j : ℕ) → Shown (x ∷ qs) j → Shown qs (j + 1)
  shown_rest x qs j h k l = let e : j + suc k ≡ j + 1 + k = omega arith in rw e at (h (suc k) (omega arith))

  read-rows : (P Q : ℕ → Type 0) → ((e : ℕ) → (P e → Q e) × (Q e → P e)) → (qs : List Prop) (q : ℕ) → Read s P qs q → (j : ℕ) → Shown qs j → Group s seen Q j (length qs) q
  read-rows P Q same _ q (unread f) j h = Group.unread λ x. f ((same (end_at s q)).1 x)
  read-rows P Q same _ q (ended x t) j h = Group.ended (shown-first q j [] h) ((same (end_at s q)).0 x) t
  read-rows P Q same _ q (onward {qs = qs} x t g) j h =
      rw (← add-one (length qs)) (Group.onward (shown-first q j qs h) ((same (end_at s q)).0 x) t (read-rows P Q same qs (end_at s q) g (j + 1) (shown_rest (property_at s q) qs j h)))

  -- ---- a control's words
  module _ (i a : ℕ) (l : i < length (scan_from s stop)) (x : FromMatch s stop a (get_or (scan_from s stop) i no_node)) where
    abbrev n : Node Prop
    n = get_or (scan_from s stop) i no_node

    there : i < length r.controls
    there = rw controls-are (simp length-map l)

    props-are : (rowsSeen.control_of r i).properties ≡ map (property_of s) n.props
    props-are = ap (λ c. c.properties) (control-is i l) ∙ (unfold control_of in refl)

    count-is : property_count seen i ≡ length n.props
    count-is = rowsSeen.count-is rows i there ∙ ap length props-are ∙ simp length-map

    property-at : (k : ℕ) → k < length n.props → row_at property_width (first_of r i + k) seen.properties ≡ property_row (property_of s (get_or n.props k no-prop))
    property-at k h =
        rowsSeen.own_row rows i k there (rw props-are (simp length-map h))
        ∙ ap property_row (ap (λ ps. get_or ps k no-property) props-are ∙ get_d_map (property_of s) n.props k no-prop no-property h)

    has-props : 0 < length n.props
    has-props = rw x.first (omega arith)

    first-row : row_at property_width (first_row seen i) seen.properties ≡ property_row (property_of s (property_at s a))
    first-row =
        let e : first_row seen i ≡ first_of r i + 0 = rowsSeen.first-is rows i there ∙ omega arith in
        ap (λ j. row_at property_width j seen.properties) e ∙ property-at 0 has-props ∙ ap (λ qs. property_row (property_of s (get_or qs 0 no-prop))) x.first

    control-at : ControlAt s seen i a
    control-at =
        let c = rows.control-row i there ∙ ap (control_row i (first_of r i)) (control-is i l) in
        let f = first-is s a x.match in
        let m = name-words (property_of s (property_at s a)).value i (first_of r i) (a + 14) (length_at s a) (control_in s n) (unfold control_of in named s stop a n x) in
        record {
          its-type = ap (λ w. get_or w 0 0) c ∙ row_type i (first_of r i) (control_in s n) ∙ (unfold control_of in x.type);
          its-rows = rw (count-is, rowsSeen.first-is rows i there) (read-rows (Reach s a) (Within s a) (λ e. (within-is a e, reach_is a e)) n.props a x.read (first_of r i) property-at);
          has-rows = omega (arith, count-is, has-props);
          first-id = ap (λ w. get_or w 0 0) first-row ∙ f.id;
          first-text = rw (first-row, c) m.mark;
          name-start = ap (λ w. get_or w 2 0) c ∙ m.its-start;
          name-length = ap (λ w. get_or w 3 0) c ∙ m.its-size;
        }

  -- ---- where the scan starts
  own-are : r.own ≡ map (property_of s) (object_group s).props
  unfolding read_later_lem
  own-are = ap (λ x. map (property_of s) x.0) scanned

  own-many : seen.answer.third ≡ length (object_group s).props
  own-many = ap (λ a. a.third) answer ∙ ap length own-are ∙ simp length-map

  own_row : (j : ℕ) → j < length (object_group s).props → row_at property_width j seen.properties ≡ property_row (property_of s (get_or (object_group s).props j no-prop))
  unfolding properties
  own_row j l =
      let qs = (object_group s).props in
      let h : j < length r.own = rw own-are (simp length-map l) in
      rows.property-row j (omega (arith, length-append r.own (concat (map properties_of r.controls))))
      ∙ ap property_row (get_or-append r.own (concat (map properties_of r.controls)) no-property j h ∙ ap (λ ps. get_or ps j no-property) own-are ∙ get_d_map (property_of s) qs j no-prop no-property l)

  own-rows : Shown (object_group s).props 0
  own-rows k l = let e : 0 + k ≡ k = omega arith in rw e (own_row k l)

  own-group : Group s seen (λ e. e ≤ length s) 0 (length (object_group s).props) 14
  own-group =
      let In : ℕ → Type 0 = λ e. e ≤ length s in
      read-rows In In (λ e. (λ h. h, λ h. h)) (object_group s).props 14 (group-read s In (length s) 14 (omega arith) λ e. (λ h. h, λ h. h)) 0 own-rows

  behind-last : (p : ℕ) (q : Prop) (qs : List Prop) → behind p (q ∷ qs) ≡ (get_or (q ∷ qs) (length qs) no-prop).start + (get_or (q ∷ qs) (length qs) no-prop).size + 4
  behind-last p q [] = refl
  behind-last p q (x ∷ qs) = behind-last (q.start + q.size + 4) x qs

  rows_behind : (qs : List Prop) → ((j : ℕ) → j < length qs → row_at property_width j seen.properties ≡ property_row (property_of s (get_or qs j no-prop)))
      → behind_rows seen (length qs) ≡ behind 14 qs
  unfolding property_of
  rows_behind [] h = refl
  rows_behind (q ∷ qs) h = rw (h (length qs) (omega arith)) (sym (behind-last 14 q qs))

  start_is : scan_start seen ≡ stop
  start_is =
      let e = ap (behind_rows seen) own-many ∙ rows_behind (object_group s).props own_row ∙ group-stop s (length s) 14 in
      omega (arith, e)

  -- ---- all of it
  starts : (a : ℕ) (n : Node Prop) → FromMatch s stop a n → Starts s seen a
  starts a n x = record { from_start = omega (arith, start_is, x.behind); match = (match_is s a).0 x.match; a_property = within-is a (end_at s a) x.inside }

  pub scan-seen : Scanned s seen
  scan-seen = record {
    own = subst (λ n. Group s seen (λ e. e ≤ length s) 0 n 14) (sym own-many) own-group;
    each-control = λ i l.
        let h : i < length (scan_from s stop) = omega (arith, many) in
        let x = each_at (Node-from s stop) (scan_from s stop) no_node i h (scan-nodes s stop) in
        (x.0, starts x.0 (get_or (scan_from s stop) i no_node) x.1, control-at i x.0 h x.1);
    each-match = λ a m.
        let y = scan-node s stop a (omega (arith, start_is, m.from_start)) ((match_is s a).1 m.match) (reach_is a (end_at s a) m.a_property) in
        (y.at, omega (arith, many, y.there), control-at y.at a y.there y.is);
  }
