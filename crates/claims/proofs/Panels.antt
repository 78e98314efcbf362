-- The panel rules are judged as wish 11 asks.
use Prim.Native.Nat.{ℕ, zero, suc, ◌+◌, ◌≤◌, ◌<◌}
use native.Mathlib.Omega.{arith}
use mathlib.Core.Path.{◌≡◌, refl, sym, ap, subst, ◌∙◌}
use mathlib.Core.Bool.{Bool, true, false, cond, ◌&&◌}
use mathlib.Core.List.{List, [], ◌∷◌, map, Memᴰ}
use mathlib.Core.Logic.{◌↔◌, ◌⊎◌, inl, inr}
use mathlib.Core.Option.{Option, none, some}
use borrow.Author.Tests.{ltb-true, ltb-false, eqb-true, eqb-false, eq-eqb}
use lib.Bits.{bit_or}
use lib.Dec.{ltb, leb, eqb}
use lib.IntN.{pos}
use lib.ListN.{length, get_or, length-map}
use Rattle.rules.specs.Lists.{keep}
use Rattle.rules.specs.Answer.{answer}
use Rattle.rules.specs.Bytes.{byte, u16, u32}
use Rattle.rules.specs.Utf16.{is_utf16_lem}
use Rattle.rules.specs.Value.{value, not_default, short_value, long_value, guid_value, binary_value, signed, stored_value_lem, value_as_lem}
use Rattle.rules.specs.CodeTable.{Tie, Holds}
use Rattle.rules.specs.Tree.{Entries, Node, nodes_of}
use Rattle.rules.specs.Access2000.{Prop, stream_of}
use Rattle.rules.specs.Read2000.{entry_key, tied, bytes_of, shown, property_in, control_of, read2000}
use Rattle.rules.specs.Rows.{control_width, property_width, room, written}
use Rattle.rules.specs.Reading.{Control, Reading}
use Rattle.rules.specs.Blob.{Outcome, refused, read, answer_of, controls_shown, properties_shown, Exit, is2000, reading_of, outcome, exit_by_lem, exit}
use Rattle.rules.specs.Panel.{type_name, name_bytes, is_source, left_id, top_id, width_id, height_id, broken, verdict, panel_answer, panel_exit}
use Rattle.rules.specs.declared.Answer.{Answer}
use Rattle.rules.specs.declared.Property.{Property}
use Rattle.rules.proofs.ListLaws.{and_l, and_r, get_d_map}
use Rattle.rules.proofs.CodeTableLaws.{found-held, held_found, kept as still, unmapped_large}
use Rattle.claims.specs.Demand1.{Refused}
use Rattle.claims.specs.Demand3.{Successor, Lent, SameRoom}
use Rattle.claims.specs.RowChecks.{control_type, first_row, property_count}
use Rattle.claims.specs.Panels.{shown_properties, shown_control, shown_controls, no-control, control, its_name, IsBox, OneText, Placing, Kept, AllKept, FirstBroken, Verdict, controls_of, Sourced, Lacks, NoSource, SameRows, Wish11}
use Rattle.claims.proofs.Demand1.{demand1}
use Rattle.claims.proofs.Demand3.{demand3}
use Rattle.claims.proofs.RowsSeen.{Rows, Zero, zero-read}
use Rattle.claims.proofs.PanelRules.{false_true, told, one-verdict, all_of_yes, fourth}
use Rattle.claims.proofs.PanelRows.{reading-shown, rows-within, same-shown}

-- ---- lists
mapped : {A B : Type 0} (f : A → B) (xs : List A) (y : B) → Memᴰ y (map f xs) → (x : A) × Memᴰ x xs × (y ≡ f x)
mapped f [] y m = absurd (mathlib.Core.List.Memᴰ.not-nil m)
mapped f (x ∷ xs) y (mathlib.Core.List.Memᴰ.head e) = (x, mathlib.Core.List.Memᴰ.head refl, e)
mapped f (x ∷ xs) y (mathlib.Core.List.Memᴰ.tail m) = let r = mapped f xs y m in (r.0, mathlib.Core.List.Memᴰ.tail r.1, r.2)

there-mapped : {A B : Type 0} (f : A → B) (xs : List A) (x : A) → Memᴰ x xs → Memᴰ (f x) (map f xs)
there-mapped {A = A} {B = B} f [] x x3 = elim x3 [ ]
there-mapped f (y ∷ ys) x (mathlib.Core.List.Memᴰ.head e) = mathlib.Core.List.Memᴰ.head (ap f e)
there-mapped f (y ∷ ys) x (mathlib.Core.List.Memᴰ.tail m) = mathlib.Core.List.Memᴰ.tail (there-mapped f ys x m)

place_of : {A : Type 0} (xs : List A) (x : A) → Memᴰ x xs → (i : ℕ) × (i < length xs) × ((d : A) → get_or xs i d ≡ x)
place_of {A = A} [] x x3 = elim x3 [ ]
place_of (y ∷ ys) x (mathlib.Core.List.Memᴰ.head e) = (0, omega arith, λ d. sym e)
place_of (y ∷ ys) x (mathlib.Core.List.Memᴰ.tail m) = let r = place_of ys x m in (suc r.0, omega (arith, r.1), r.2)

kept_there : {A : Type 0} (p : A → Bool) (xs : List A) (y : A) → Memᴰ y (keep p xs) → Memᴰ y xs × (p y ≡ true)
unfolding keep
kept_there p [] y m = absurd (mathlib.Core.List.Memᴰ.not-nil m)
kept_there p (x ∷ xs) y m = go (p x) refl (kept_there p xs y) m
  where
    go : (b : Bool) → p x ≡ b → (Memᴰ y (keep p xs) → Memᴰ y xs × (p y ≡ true)) → Memᴰ y (cond b (x ∷ keep p xs) (keep p xs)) → Memᴰ y (x ∷ xs) × (p y ≡ true)
    go true e rec (mathlib.Core.List.Memᴰ.head q) = (mathlib.Core.List.Memᴰ.head q, ap p q ∙ e)
    go true e rec (mathlib.Core.List.Memᴰ.tail m) = let r = rec m in (mathlib.Core.List.Memᴰ.tail r.0, r.1)
    go false e rec m = let r = rec m in (mathlib.Core.List.Memᴰ.tail r.0, r.1)

-- what passes under f passes under g too: fewer are kept under f, and fewer by one where one passes under g alone
module _ {A B : Type 0} (p : B → Bool) (f g : A → B) (so : (x : A) → p (f x) ≡ true → p (g x) ≡ true) where
  abbrev F : List A → ℕ
  F xs = length (keep p (map f xs))

  abbrev G : List A → ℕ
  G xs = length (keep p (map g xs))

  at_most : (xs : List A) → F xs ≤ G xs
  unfolding keep
  at_most [] = omega arith
  at_most (x ∷ xs) = go (p (f x)) (p (g x)) refl refl (at_most xs)
    where
      go : (b d : Bool) → p (f x) ≡ b → p (g x) ≡ d → F xs ≤ G xs → length (cond b (f x ∷ keep p (map f xs)) (keep p (map f xs))) ≤ length (cond d (g x ∷ keep p (map g xs)) (keep p (map g xs)))
      go true true e q h = omega arith
      go true false e q h = false_true (sym q ∙ so x e)
      go false true e q h = omega arith
      go false false e q h = h

  fewer : (xs : List A) (x : A) → Memᴰ x xs → p (f x) ≡ false → p (g x) ≡ true → F xs < G xs
  unfolding keep
  fewer [] x x5 e k = elim x5 [ ]
  fewer (y ∷ ys) x (mathlib.Core.List.Memᴰ.head q) e k =
      let e' : p (f y) ≡ false = ap (λ z. p (f z)) (sym q) ∙ e in
      let k' : p (g y) ≡ true = ap (λ z. p (g z)) (sym q) ∙ k in
      rw (e', k') (omega (arith, at_most ys))
  fewer (y ∷ ys) x (mathlib.Core.List.Memᴰ.tail m) e k = go (p (f y)) (p (g y)) refl refl (fewer ys x m e k)
    where
      go : (b d : Bool) → p (f y) ≡ b → p (g y) ≡ d → F ys < G ys → length (cond b (f y ∷ keep p (map f ys)) (keep p (map f ys))) < length (cond d (g y ∷ keep p (map g ys)) (keep p (map g ys)))
      go true true e q h = omega arith
      go true false e q h = false_true (sym q ∙ so y e)
      go false true e q h = omega arith
      go false false e q h = h

-- ---- what a caller sees
module _ (t s cs ps : List ℕ) where
  abbrev its-outcome : Outcome
  its-outcome = outcome t s (room control_width cs) (room property_width ps)

  abbrev seen : Exit
  seen = exit t s cs ps

  abbrev shows-controls : List Control
  shows-controls = controls_of seen seen.answer.first

  refused-by : (o : Outcome) → Refused (answer_of o)
      → ◌≡◌ {A = Exit} (record { answer = panel_answer s o; controls = written (controls_shown o) cs; properties = written (properties_shown o) ps }) (exit_by_lem o cs ps)
  refused-by (refused a) h = refl
  refused-by (read r) h = absurd (h refl)

  panel_refused : Refused seen.answer → panel_exit t s cs ps ≡ seen
  unfolding panel_exit exit
  panel_refused h = refused-by its-outcome h

  panel_rows : ((panel_exit t s cs ps).controls ≡ seen.controls) × ((panel_exit t s cs ps).properties ≡ seen.properties)
  unfolding panel_exit exit
  panel_rows = (refl, refl)

  -- ---- a refusal's number isn't 0
  panel_accepted : (panel_exit t s cs ps).answer.number ≡ 0 → seen.answer.number ≡ 0
  panel_accepted e = go (eqb seen.answer.number 0) refl
    where
      go : (b : Bool) → eqb seen.answer.number 0 ≡ b → seen.answer.number ≡ 0
      go true q = eqb-true _ _ q
      go false q = ap (λ x. x.answer.number) (sym (panel_refused (eqb-false _ _ q))) ∙ e

  module _ (e : seen.answer.number ≡ 0) where
    abbrev was : Zero t s cs ps
    was = zero-read t s cs ps e

    many : seen.answer.first ≡ length was.reading.controls
    many = ap (λ x. x.answer.first) was.is_seen

    all-many : (i : ℕ) → i < seen.answer.first → first_row seen i + property_count seen i ≤ seen.answer.second
    all-many i h =
        let w = rows-within was.reading seen (subst (λ x. Rows was.reading x) (sym was.is_seen) was.rows) i (omega (arith, many)) in
        omega (arith, w, ap (λ x. x.answer.second) was.is_seen)

    shown-is : shows-controls ≡ was.reading.controls
    shown-is = ap (shown_controls seen 0) many ∙ reading-shown was.reading seen (subst (λ x. Rows was.reading x) (sym was.is_seen) was.rows)

    panel_read : (panel_exit t s cs ps).answer ≡ verdict (broken s was.reading.controls)
    unfolding panel_exit
    panel_read = ap (panel_answer s) was.met

    pub panel_is : (panel_exit t s cs ps).answer ≡ verdict (broken s shows-controls)
    panel_is = panel_read ∙ ap (λ l. verdict (broken s l)) (sym shown-is)

    pub verdict_0 : (o : Option (ℕ × ℕ)) → (verdict o).number ≡ 0
    verdict_0 none = refl
    verdict_0 (some x) = refl

    panel_0 : (panel_exit t s cs ps).answer.number ≡ 0
    panel_0 = ap (λ a. a.number) panel_is ∙ verdict_0 (broken s shows-controls)

    judged : (a : Answer) → Verdict s shows-controls a ↔ (a ≡ (panel_exit t s cs ps).answer)
    judged a = (
      λ v. one-verdict s shows-controls a (verdict (broken s shows-controls)) v (told s shows-controls) ∙ sym panel_is,
      λ z. subst (Verdict s shows-controls) (sym (z ∙ panel_is)) (told s shows-controls),
    )

-- ---- rows one by one
shown-at : (seen : Exit) (n j i : ℕ) → i < n → control (shown_controls seen j n) i ≡ shown_control seen (j + i)
unfolding shown_controls
shown-at seen zero j i l = absurd (omega arith)
shown-at seen (suc n) j zero l = ap (shown_control seen) (let z : j ≡ j + 0 = omega arith in z)
shown-at seen (suc n) j (suc i) l = shown-at seen n (j + 1) i (omega arith) ∙ ap (shown_control seen) (let z : j + 1 + i ≡ j + suc i = omega arith in z)

shown-many : (seen : Exit) (n j : ℕ) → length (shown_controls seen j n) ≡ n
unfolding shown_controls
shown-many seen zero j = refl
shown-many seen (suc n) j = ap suc (shown-many seen n (j + 1))

-- ---- values: only a row of kind Text shows a Text
stored-no-text : (id : ℕ) (b : List ℕ) → ¬ ((stored_value_lem id b).mark ≡ 6)
unfolding stored_value_lem
stored-no-text id b = go (leb id 0x2F) (leb id 0x5F) (leb id 0x7F) (leb id 0xBC)
  where
    go : (a c d e : Bool) → ¬ ((cond a not_default (cond c (short_value (pos (byte b 0))) (cond d (short_value (signed 0x8000 (u16 b 0))) (cond e (long_value (signed 0x80000000 (u32 b 0))) binary_value)))).mark ≡ 6)
    go true c d e h = omega arith
    go false true d e h = omega arith
    go false false true e h = omega arith
    go false false false true h = omega arith
    go false false false false h = omega arith

text-kind : (kind id : ℕ) (b : List ℕ) → (value_as_lem kind id b).mark ≡ 6 → (kind ≡ 1) × (is_utf16_lem b ≡ true)
unfolding value_as_lem
text-kind kind id b h = go (ltb 0xBC id && eqb kind 1 && is_utf16_lem b) refl (ltb 0xBC id && eqb kind 2 && eqb (length b) 16) (ltb 0xBC id && eqb kind 3 && eqb (length b) 8) h
  where
    go : (a : Bool) → (ltb 0xBC id && eqb kind 1 && is_utf16_lem b) ≡ a → (c d : Bool)
        → (cond a (value 6 0 0) (cond c guid_value (cond d (value 4 (u32 b 0) (u32 b 4)) (stored_value_lem id b)))).mark ≡ 6 → (kind ≡ 1) × (is_utf16_lem b ≡ true)
    go true e c d h = (search (and_l, and_r, eqb-true), search (and_l, and_r))
    go false e true d h = absurd (omega arith)
    go false e false true h = absurd (omega arith)
    go false e false false h = absurd (stored-no-text id b h)

-- ---- a box of an Access 2000 stream
module _ (t s : List ℕ) (n : Node Prop) where
  abbrev shows : Prop → Property
  shows q = property_in t s (entry_key n.type) q

  -- the table has the code of a property shown as 0x001B
  source-tied : (q : Prop) → is_source (shows q) ≡ true → (r : Tie) × (tied t (entry_key n.type) q.id ≡ some r) × (r.target ≡ 0x001B)
  unfolding property_in
  source-tied q e = go (tied t (entry_key n.type) q.id) refl e
    where
      go : (o : Option Tie) → tied t (entry_key n.type) q.id ≡ o → is_source (shown s q o) ≡ true → (r : Tie) × (tied t (entry_key n.type) q.id ≡ some r) × (r.target ≡ 0x001B)
      go none x e = let z : bit_or 0x8000 q.id ≡ 0x001B = eqb-true _ _ e in let l = unmapped_large q.id in absurd (omega arith)
      go (some r) x e = (r, x, eqb-true _ _ e)

  tied-shows : (q : Prop) (r : Tie) → tied t (entry_key n.type) q.id ≡ some r → shows q ≡ shown s q (some r)
  unfolding property_in
  tied-shows q r e = ap (shown s q) e

  -- a stored property that is shown as a Text, by its row
  by_row : (p : Property) (q : Prop) (r : Tie) → Memᴰ q n.props → tied t (entry_key n.type) q.id ≡ some r → r.target ≡ 0x001B
      → p ≡ shown s q (some r) → p.value.mark ≡ 6 → 1 ≤ p.size → Sourced t s n
  by_row p q r m e target is text long =
      let h = found-held t 2 n.type q.id r e in
      let v = text-kind r.kind q.id (bytes_of s q) (sym (ap (λ p. p.value.mark) is) ∙ text) in
      let z : p.size ≡ q.size = ap (λ p. p.size) is in
      record { stored = q; its = m; row = r; held = h.0; its-code = h.1; its-target = target; a_text = v.0; utf16 = v.1; not_empty = omega arith }

  by-stored : (p : Property) (q : Prop) → Memᴰ q n.props → p ≡ shows q → is_source p ≡ true → p.value.mark ≡ 6 → 1 ≤ p.size → Sourced t s n
  by-stored p q m e source text long =
      let a = source-tied q (ap is_source (sym e) ∙ source) in
      by_row p q a.0 m a.1 a.2 (e ∙ tied-shows q a.0 a.1) text long

  box_sourced : OneText (control_of t s n).properties → Sourced t s n
  unfolding control_of
  box_sourced o =
      let m : Memᴰ o.source (keep is_source (map shows n.props)) = rw o.only (mathlib.Core.List.Memᴰ.head refl) in
      let k = kept_there is_source (map shows n.props) o.source m in
      let x = mapped shows n.props o.source k.0 in
      by-stored o.source x.0 x.1 x.2 k.1 o.is-text o.not_empty

-- ---- on yes
module _ (t s cs ps : List ℕ) (e : (panel_exit t s cs ps).answer ≡ answer 0 1 0 0) where
  read_0 : (exit t s cs ps).answer.number ≡ 0
  read_0 = panel_accepted t s cs ps (ap (λ a. a.number) e)

  all_yes : (i : ℕ) → i < length (shows-controls t s cs ps) → AllKept s (shows-controls t s cs ps) i
  all_yes = all_of_yes s (shows-controls t s cs ps) (panel_exit t s cs ps).answer ((judged t s cs ps read_0 (panel_exit t s cs ps).answer).1 refl) e

  -- what row i shows
  row_is : (seen : Exit) (n i : ℕ) → i < n → control (shown_controls seen 0 n) i ≡ shown_control seen i
  row_is seen n i l = shown-at seen n 0 i l ∙ ap (shown_control seen) (let z : 0 + i ≡ i = omega arith in z)

  filled : (i : ℕ) → i < (exit t s cs ps).answer.first → IsBox (control_type (exit t s cs ps) i)
      → OneText (shown_properties (exit t s cs ps) (first_row (exit t s cs ps) i) (property_count (exit t s cs ps) i))
  unfolding shown_control
  filled i l box =
      let c = row_is (exit t s cs ps) (exit t s cs ps).answer.first i l in
      let u : i < length (shows-controls t s cs ps) = omega (arith, shown-many (exit t s cs ps) (exit t s cs ps).answer.first 0) in
      let f = fourth s (shows-controls t s cs ps) i 4 (all_yes i u 4 (omega arith) (omega arith)) refl in
      subst (λ c. OneText c.properties) c (f (subst (λ c. IsBox c.type) (sym c) box))

module _ (t s cs ps : List ℕ) (x : List Prop × Entries Prop) (o : is2000 t s ≡ true) (tree : stream_of s ≡ some x) where
  abbrev nodes : List (Node Prop)
  nodes = nodes_of x.1

  reads : reading_of t s ≡ some (read2000 t s x)
  unfolding reading_of
  reads = rw (o, tree)

  controls-are : (read2000 t s x).controls ≡ map (control_of t s) nodes
  unfolding read2000
  controls-are = refl

  node-controls : (e : (exit t s cs ps).answer.number ≡ 0) → shows-controls t s cs ps ≡ map (control_of t s) nodes
  node-controls e =
      let same : (zero-read t s cs ps e).reading ≡ read2000 t s x = let z : some (zero-read t s cs ps e).reading ≡ some (read2000 t s x) = sym (zero-read t s cs ps e).is_read ∙ reads in cc in
      shown-is t s cs ps e ∙ ap (λ r. r.controls) same ∙ controls-are

  -- the verdict over the nodes
  judged-nodes : (exit t s cs ps).answer.number ≡ 0 → Verdict s (map (control_of t s) nodes) (panel_exit t s cs ps).answer
  judged-nodes e = subst (λ l. Verdict s l (panel_exit t s cs ps).answer) (node-controls e) ((judged t s cs ps e (panel_exit t s cs ps).answer).1 refl)

  yes-nodes : (panel_exit t s cs ps).answer ≡ answer 0 1 0 0 → (i : ℕ) → i < length (map (control_of t s) nodes) → AllKept s (map (control_of t s) nodes) i
  yes-nodes e = all_of_yes s (map (control_of t s) nodes) (panel_exit t s cs ps).answer (judged-nodes (panel_accepted t s cs ps (ap (λ a. a.number) e))) e

  -- the control of node k
  node-is : (k : ℕ) (n : Node Prop) → k < length nodes → ((d : Node Prop) → get_or nodes k d ≡ n) → control (map (control_of t s) nodes) k ≡ control_of t s n
  node-is k n l h = get_d_map (control_of t s) nodes k n no-control l ∙ ap (control_of t s) (h n)

  one-text_of : (k : ℕ) (n : Node Prop) → k < length nodes → ((d : Node Prop) → get_or nodes k d ≡ n) → Kept s (map (control_of t s) nodes) k 4 → IsBox (control_of t s n).type
      → OneText (control_of t s n).properties
  one-text_of k n l h kept box =
      let c = node-is k n l h in
      subst (λ c. OneText c.properties) c (fourth s (map (control_of t s) nodes) k 4 kept refl (subst (λ c. IsBox c.type) (sym c) box))

  in_map : (k : ℕ) → k < length nodes → k < length (map (control_of t s) nodes)
  in_map k l = omega (arith, length-map nodes (control_of t s))

  yes-one-text : (panel_exit t s cs ps).answer ≡ answer 0 1 0 0 → (k : ℕ) (n : Node Prop) → k < length nodes → ((d : Node Prop) → get_or nodes k d ≡ n) → IsBox (control_of t s n).type
      → OneText (control_of t s n).properties
  yes-one-text e k n l h box = one-text_of k n l h (yes-nodes e k (in_map k l) 4 (omega arith) (omega arith)) box

  sourced : (panel_exit t s cs ps).answer ≡ answer 0 1 0 0 → (n : Node Prop) → Memᴰ n nodes → IsBox (control_of t s n).type → Sourced t s n
  sourced e n m box =
      let p = place_of nodes n m in
      box_sourced t s n (yes-one-text e p.0 n p.1 p.2 box)

-- ---- and under an older table
module _ (older newer s : List ℕ) (lent lent' : Lent) (two : Successor older newer) (rooms : SameRoom lent lent') (x : List Prop × Entries Prop) (o : is2000 newer s ≡ true) (tree : stream_of s ≡ some x) where
  o' : is2000 older s ≡ true
  unfolding is2000
  o' = rw two.one-layout o

  -- a control's type, name and level are the same
  same-type : (n : Node Prop) → (control_of older s n).type ≡ (control_of newer s n).type
  unfolding control_of
  same-type n = rw two.same-header

  same_name : (n : Node Prop) → (control_of older s n).name ≡ (control_of newer s n).name
  unfolding control_of
  same_name n = refl

  same-level : (n : Node Prop) → (control_of older s n).level ≡ (control_of newer s n).level
  unfolding control_of
  same-level n = refl

  module _ (n : Node Prop) where
    abbrev old : Prop → Property
    old q = property_in older s (entry_key n.type) q

    abbrev new : Prop → Property
    new q = property_in newer s (entry_key n.type) q

    -- what the older shows as 0x001B, the newer does
    stays_source : (q : Prop) → is_source (old q) ≡ true → is_source (new q) ≡ true
    stays_source q e =
        let a = source-tied older s n q e in
        let k : tied newer (entry_key n.type) q.id ≡ some a.0 = still older newer two.newer-formed two.holds_every_row 2 n.type q.id a.0 a.1 in
        ap is_source (tied-shows newer s n q a.0 k) ∙ eq-eqb a.0.target 0x001B a.2

    module _ (q : Sourced newer s n) (lacks : Lacks older n q.stored) where
      new_source : is_source (new q.stored) ≡ true
      new_source =
          let k : tied newer (entry_key n.type) q.stored.id ≡ some q.row = ap (tied newer (entry_key n.type)) (sym q.its-code) ∙ held_found newer 2 n.type q.row two.newer-formed q.held in
          ap is_source (tied-shows newer s n q.stored q.row k) ∙ eq-eqb q.row.target 0x001B q.its-target

      old-source : is_source (old q.stored) ≡ false
      old-source = go (is_source (old q.stored)) refl
        where
          go : (b : Bool) → is_source (old q.stored) ≡ b → b ≡ false
          go false e = refl
          go true e =
              let a = source-tied older s n q.stored e in
              let h = found-held older 2 n.type q.stored.id a.0 a.1 in
              absurd (lacks a.0 h.0 h.1)

      -- one source under both can't be
      not_both : OneText (control_of newer s n).properties → ¬ OneText (control_of older s n).properties
      unfolding control_of
      not_both a b =
          let f = fewer is_source old new stays_source n.props q.stored q.its old-source new_source in
          let e : length (keep is_source (map old n.props)) ≡ 1 = ap length b.only in
          let e' : length (keep is_source (map new n.props)) ≡ 1 = ap length a.only in
          omega arith

    -- a property that the older shows is shown so by the newer, or has an id of 0x8000 or more
    old_or_large : (q : Prop) → (old q ≡ new q) ⊎ (0x8000 ≤ (old q).id)
    unfolding property_in
    old_or_large q = go (tied older (entry_key n.type) q.id) refl
      where
        go : (o : Option Tie) → tied older (entry_key n.type) q.id ≡ o → (shown s q o ≡ new q) ⊎ (0x8000 ≤ (shown s q o).id)
        go none e = inr (unmapped_large q.id)
        go (some r) e = inl (sym (tied-shows newer s n q r (still older newer two.newer-formed two.holds_every_row 2 n.type q.id r e)))

    large_placing : (p : Property) → 0x8000 ≤ p.id → Placing p
    large_placing p l = record { short = λ m. absurd (measure m); not_negative = λ m. absurd (extent m) }
      where
        extent : (p.id ≡ width_id) ⊎ (p.id ≡ height_id) → ⊥
        extent (inl e) = omega arith
        extent (inr e) = omega arith

        measure : (p.id ≡ left_id) ⊎ ((p.id ≡ top_id) ⊎ ((p.id ≡ width_id) ⊎ (p.id ≡ height_id))) → ⊥
        measure (inl e) = omega arith
        measure (inr (inl e)) = omega arith
        measure (inr (inr e)) = extent e

    old_placing : ((p : Property) → Memᴰ p (control_of newer s n).properties → Placing p) → (p : Property) → Memᴰ p (control_of older s n).properties → Placing p
    unfolding control_of
    old_placing h p m =
        let y = mapped old n.props p m in
        go y.0 y.1 y.2 (old_or_large y.0)
      where
        go : (q : Prop) → Memᴰ q n.props → p ≡ old q → (old q ≡ new q) ⊎ (0x8000 ≤ (old q).id) → Placing p
        go q i e (inl z) = subst Placing (sym (e ∙ z)) (h (new q) (there-mapped new n.props q i))
        go q i e (inr l) = large_placing p (let z : p.id ≡ (old q).id = ap (λ p. p.id) e in omega arith)

  -- every rule but the fourth that all controls keep under the newer they keep under the older
  module _ (yes : (i : ℕ) → i < length (map (control_of newer s) (nodes_of x.1)) → AllKept s (map (control_of newer s) (nodes_of x.1)) i) where
    abbrev olds : List Control
    olds = map (control_of older s) (nodes_of x.1)

    abbrev news : List Control
    news = map (control_of newer s) (nodes_of x.1)

    pair-at : (i : ℕ) → i < length (nodes_of x.1) → (d : Node Prop) → (control olds i ≡ control_of older s (get_or (nodes_of x.1) i d)) × (control news i ≡ control_of newer s (get_or (nodes_of x.1) i d))
    pair-at i l d = (get_d_map (control_of older s) (nodes_of x.1) i d no-control l, get_d_map (control_of newer s) (nodes_of x.1) i d no-control l)

    module _ (d : Node Prop) where
      names_same : (i : ℕ) → i < length (nodes_of x.1) → (control olds i).name ≡ (control news i).name
      names_same i l = let p = pair-at i l d in ap (λ c. c.name) p.0 ∙ same_name (get_or (nodes_of x.1) i d) ∙ ap (λ c. c.name) (sym p.1)

      still_kept : (i : ℕ) → i < length (nodes_of x.1) → (rule : ℕ) → Kept s news i rule → ¬ (rule ≡ 4) → Kept s olds i rule
      still_kept i l _ (Kept.one h) z =
          let p = pair-at i l d in
          let e : (control olds i).type ≡ (control news i).type = ap (λ c. c.type) p.0 ∙ same-type (get_or (nodes_of x.1) i d) ∙ ap (λ c. c.type) (sym p.1) in
          Kept.one (λ q. h (ap type_name (sym e) ∙ q))
      still_kept i l _ (Kept.two h) z = Kept.two (names_same i l ∙ h)
      still_kept i l _ (Kept.three h) z =
          Kept.three (λ j u q. h j u (ap (name_bytes s j) (sym (names_same j (omega arith))) ∙ q ∙ ap (name_bytes s i) (names_same i l)))
      still_kept i l _ (Kept.four h) z = absurd (z refl)
      still_kept i l _ (Kept.five h) z =
          let p = pair-at i l d in
          Kept.five (subst (λ c. (q : Property) → Memᴰ q c.properties → Placing q) (sym p.0)
          (old_placing (get_or (nodes_of x.1) i d) (subst (λ c. (q : Property) → Memᴰ q c.properties → Placing q) p.1 h)))
      still_kept i l _ (Kept.six h) z =
          let p = pair-at i l d in
          let e : (control olds i).level ≡ (control news i).level = ap (λ c. c.level) p.0 ∙ same-level (get_or (nodes_of x.1) i d) ∙ ap (λ c. c.level) (sym p.1) in
          Kept.six (omega arith)

    said-no : (k : ℕ) (n : Node Prop) → k < length (nodes_of x.1) → ((d : Node Prop) → get_or (nodes_of x.1) k d ≡ n) → IsBox (control_of newer s n).type
        → (q : Sourced newer s n) → Lacks older n q.stored → (a : Answer) → Verdict s olds a → NoSource k a
    said-no k n l h box q lacks a v = go a v
      where
        in_news : (i : ℕ) → i < length (nodes_of x.1) → i < length news
        in_news i l = omega (arith, length-map (nodes_of x.1) (control_of newer s))

        old_box : IsBox (control_of older s n).type
        old_box = subst IsBox (sym (same-type n)) box

        new_one : OneText (control_of newer s n).properties
        new_one = one-text_of newer s lent'.controls lent'.properties x o tree k n l h (yes k (in_news k l) 4 (omega arith) (omega arith)) box

        never : ¬ Kept s olds k 4
        never f = not_both n q lacks new_one (one-text_of older s lent.controls lent.properties x o' tree k n l h f old_box)

        go : (a : Answer) → Verdict s olds a → NoSource k a
        go _ (Verdict.yes all-kept) = absurd (never (all-kept k (omega (arith, length-map (nodes_of x.1) (control_of older s))) 4 (omega arith) (omega arith)))
        go _ (Verdict.no i rule f) = record { number = refl; no = refl; row = not_after; rule = fourth_it }
          where
            inside : i < length (nodes_of x.1)
            inside = let u = f.row in omega (arith, u, length-map (nodes_of x.1) (control_of older s))

            not_after : i ≤ k
            not_after = by (ltb k i) refl
              where
                by : (b : Bool) → ltb k i ≡ b → i ≤ k
                by true e = absurd (never (f.rows_before k (ltb-true k i e) 4 (omega arith) (omega arith)))
                by false e = ltb-false k i e

            fourth_it : rule ≡ 4
            fourth_it = by (eqb rule 4) refl
              where
                by : (b : Bool) → eqb rule 4 ≡ b → rule ≡ 4
                by true e = eqb-true rule 4 e
                by false e = absurd (f.broken (still_kept n i inside rule (yes i (in_news i inside) rule f.least f.most) (eqb-false rule 4 e)))

  older-no : (panel_exit newer s lent'.controls lent'.properties).answer ≡ answer 0 1 0 0
      → (k : ℕ) (n : Node Prop) → k < length (nodes_of x.1) → ((d : Node Prop) → get_or (nodes_of x.1) k d ≡ n)
      → IsBox (control_of newer s n).type → (q : Sourced newer s n) → Lacks older n q.stored → NoSource k (panel_exit older s lent.controls lent.properties).answer
  older-no e k n l h box q lacks =
      let a : (exit newer s lent'.controls lent'.properties).answer.number ≡ 0 = panel_accepted newer s lent'.controls lent'.properties (ap (λ a. a.number) e) in
      let same = demand3.chosen-same_but older newer s lent lent' two rooms o' in
      let a' : (exit older s lent.controls lent.properties).answer.number ≡ 0 = ap (λ a. a.number) same.alike.same_answer ∙ a in
      said-no (yes-nodes newer s lent'.controls lent'.properties x o tree e) k n l h box q lacks (panel_exit older s lent.controls lent.properties).answer (judged-nodes older s lent.controls lent.properties x o' tree a')

by_rows : (t s cs ps t' s' cs' ps' : List ℕ) → (exit t s cs ps).answer.number ≡ 0 → SameRows s s' (exit t s cs ps) (exit t' s' cs' ps')
    → (panel_exit t s cs ps).answer ≡ (panel_exit t' s' cs' ps').answer
by_rows t s cs ps t' s' cs' ps' e same =
    let e' : (exit t' s' cs' ps').answer.number ≡ 0 = ap (λ a. a.number) (sym same.answer) ∙ e in
    panel_is t s cs ps e
    ∙ ap verdict (same-shown s s' (exit t s cs ps) (exit t' s' cs' ps') same (all-many t s cs ps e))
    ∙ sym (panel_is t' s' cs' ps' e')

pub panel_unchanged : (t s cs ps : List ℕ) → Refused (panel_exit t s cs ps).answer → ((panel_exit t s cs ps).controls ≡ cs) × ((panel_exit t s cs ps).properties ≡ ps)
panel_unchanged t s cs ps h =
    let n : Refused (exit t s cs ps).answer = λ e. h (panel_0 t s cs ps e) in
    let e = panel_refused t s cs ps n in
    (ap (λ x. x.controls) e ∙ (demand1.blobs t s cs ps).controls_stay n, ap (λ x. x.properties) e ∙ (demand1.blobs t s cs ps).properties_stay n)

pub wish11 : Wish11
wish11 = record {
  refused = panel_refused;
  accepted = panel_0;
  rows = panel_rows;
  judged = judged;
  by_rows = by_rows;
  filled = filled;
  sourced = λ t s cs ps e x o tree n m box. sourced t s cs ps x o tree e n m box;
  older-no = λ older newer s lent lent' two rooms e x o tree k n l h box q lacks. older-no older newer s lent lent' two rooms x o tree e k n l h box q lacks;
}
