-- The rules of panels: what each test says, the first rule that a control breaks, and the first control that breaks one.
use Prim.Native.Nat.{ℕ, zero, suc, ◌+◌, ◌-◌, ◌≤◌, ◌<◌}
use native.Mathlib.Omega.{arith}
use native.Mathlib.Numerals.{add-one}
use mathlib.Core.Path.{◌≡◌, refl, sym, ap, subst, ◌∙◌}
use mathlib.Core.Bool.{Bool, true, false, not, cond, ◌&&◌, ◌||◌}
use mathlib.Core.List.{List, [], ◌∷◌, Memᴰ}
use mathlib.Core.Logic.{◌⊎◌, inl, inr}
use mathlib.Core.Option.{Option, none, some}
use borrow.Author.Tests.{leb-true, le-leb, ltb-true, lt-ltb, eqb-true, eqb-false, eq-eqb}
use lib.Dec.{ltb, leb, eqb}
use lib.ListN.{length, get_or, drop}
use lib.Seq.{drop-cons, drop-length}
use Rattle.rules.specs.Lists.{all, keep, same, text}
use Rattle.rules.specs.Answer.{answer}
use Rattle.rules.specs.Reading.{Control}
use Rattle.rules.specs.Panel.{type_name, has_type_name, is_text_name, is_new_name, is_box, is_source, is_one_text, is_filled, left_id, top_id, width_id, height_id, is_extent, is_measure, is_placing, is_placed, kept, first_broken, row_or, broken_from, broken, verdict}
use Rattle.rules.specs.declared.Answer.{Answer}
use Rattle.rules.specs.declared.Property.{Property}
use Rattle.rules.specs.declared.Name.{Name}
use Rattle.rules.specs.declared.Name.TheVariants.{Text, Numbered, Loose}
use Rattle.rules.proofs.ListLaws.{and_l, and_r, all_there}
use Rattle.claims.specs.Panels.{no-control, control, its_name, IsBox, OneText, Placing, Kept, AllKept, FirstBroken, Verdict}

pub false_true : {X : Type 0} → false ≡ true → X
false_true e = absurd (let z : ◌≡◌ {A = ℕ} 0 1 = cc in omega arith)

there-all : {A : Type 0} (p : A → Bool) (xs : List A) → ((x : A) → Memᴰ x xs → p x ≡ true) → all p xs ≡ true
unfolding all
there-all p [] h = refl
there-all p (y ∷ ys) h = rw (h y (Memᴰ.head refl)) (there-all p ys (λ x m. h x (Memᴰ.tail m)))

same-is : (a b : List ℕ) → same a b ≡ true → a ≡ b
unfolding same
same-is [] [] e = refl
same-is [] (y ∷ ys) e = false_true e
same-is (x ∷ xs) [] e = false_true e
same-is (x ∷ xs) (y ∷ ys) e =
    let h : x ≡ y = eqb-true _ _ (and_l (eqb x y) (same xs ys) e) in
    let t : xs ≡ ys = same-is xs ys (and_r (eqb x y) (same xs ys) e) in
    cc

same_itself : (l : List ℕ) → same l l ≡ true
unfolding same
same_itself [] = refl
same_itself (x ∷ xs) = rw (eq-eqb x x refl) (same_itself xs)

is_same : (a b : List ℕ) → a ≡ b → same a b ≡ true
is_same a b e = rw e (same_itself b)

-- ---- tests and what they say
or_cases : (a b : Bool) → (a || b) ≡ true → (a ≡ true) ⊎ (b ≡ true)
or_cases true b e = inl refl
or_cases false b e = inr e

or_l : (a b : Bool) → a ≡ true → (a || b) ≡ true
or_l true b e = refl
or_l false b e = false_true e

or_r : (a b : Bool) → b ≡ true → (a || b) ≡ true
or_r true b e = refl
or_r false b e = e

-- "where a, b"
where_true : (a b : Bool) → (not a || b) ≡ true → a ≡ true → b ≡ true
where_true true b e h = e
where_true false b e h = false_true h

true_where : (a b : Bool) → (a ≡ true → b ≡ true) → (not a || b) ≡ true
true_where true b h = h refl
true_where false b h = refl

and-true : (a b : Bool) → a ≡ true → b ≡ true → (a && b) ≡ true
and-true true b h k = k
and-true false b h k = false_true h

unlike : (a b : List ℕ) → not (same a b) ≡ true → ¬ (a ≡ b)
unlike a b e q = false_true (sym (ap not (is_same a b q)) ∙ e)

like_not : (a b : List ℕ) → ¬ (a ≡ b) → not (same a b) ≡ true
like_not a b n = go (same a b) refl
  where
    go : (t : Bool) → same a b ≡ t → not t ≡ true
    go true e = absurd (n (same-is a b e))
    go false e = refl

-- ---- each rule
box_is : (c : ℕ) → is_box c ≡ true → IsBox c
unfolding is_box
box_is c e = go (or_cases (same (type_name c) (text "TextBox")) (same (type_name c) (text "ComboBox")) e)
  where
    go : (same (type_name c) (text "TextBox") ≡ true) ⊎ (same (type_name c) (text "ComboBox") ≡ true) → IsBox c
    go (inl h) = inl (same-is _ _ h)
    go (inr h) = inr (same-is _ _ h)

is_box_lem : (c : ℕ) → IsBox c → is_box c ≡ true
unfolding is_box
is_box_lem c (inl h) = or_l (same (type_name c) (text "TextBox")) (same (type_name c) (text "ComboBox")) (is_same (type_name c) (text "TextBox") h)
is_box_lem c (inr h) = or_r (same (type_name c) (text "TextBox")) (same (type_name c) (text "ComboBox")) (is_same (type_name c) (text "ComboBox") h)

one-text : (ps l : List Property) → keep is_source ps ≡ l → is_one_text l ≡ true → OneText ps
unfolding is_one_text
one-text ps [] q e = false_true e
one-text ps (p ∷ []) q e = record { source = p; only = q; is-text = search (and_l, eqb-true); not_empty = search (and_r, leb-true) }
one-text ps (p ∷ p' ∷ l) q e = false_true e

text-one : (ps : List Property) → OneText ps → is_one_text (keep is_source ps) ≡ true
unfolding is_one_text
text-one ps h =
    ap is_one_text h.only
    ∙ and-true (eqb h.source.value.mark 6) (leb 1 h.source.size) (eq-eqb h.source.value.mark 6 h.is-text) (le-leb 1 h.source.size h.not_empty)

filled_is : (type : ℕ) (ps : List Property) → is_filled type ps ≡ true → IsBox type → OneText ps
unfolding is_filled
filled_is type ps e b = one-text ps (keep is_source ps) refl (where_true (is_box type) (is_one_text (keep is_source ps)) e (is_box_lem type b))

is-filled : (type : ℕ) (ps : List Property) → (IsBox type → OneText ps) → is_filled type ps ≡ true
unfolding is_filled
is-filled type ps h = true_where (is_box type) (is_one_text (keep is_source ps)) (λ b. text-one ps (h (box_is type b)))

abbrev AnExtent : Property → Type 0
AnExtent p = (p.id ≡ width_id) ⊎ (p.id ≡ height_id)

abbrev AMeasure : Property → Type 0
AMeasure p = (p.id ≡ left_id) ⊎ ((p.id ≡ top_id) ⊎ AnExtent p)

is-extent : (p : Property) → AnExtent p → is_extent p.id ≡ true
is-extent p (inl h) = or_l (eqb p.id width_id) (eqb p.id height_id) (eq-eqb p.id width_id h)
is-extent p (inr h) = or_r (eqb p.id width_id) (eqb p.id height_id) (eq-eqb p.id height_id h)

extent-is : (p : Property) → is_extent p.id ≡ true → AnExtent p
extent-is p e = go (or_cases (eqb p.id width_id) (eqb p.id height_id) e)
  where
    go : (eqb p.id width_id ≡ true) ⊎ (eqb p.id height_id ≡ true) → AnExtent p
    go (inl h) = inl (eqb-true _ _ h)
    go (inr h) = inr (eqb-true _ _ h)

is_measure_lem : (p : Property) → AMeasure p → is_measure p.id ≡ true
is_measure_lem p (inl h) = or_l (eqb p.id left_id) (eqb p.id top_id || is_extent p.id) (eq-eqb p.id left_id h)
is_measure_lem p (inr (inl h)) = or_r (eqb p.id left_id) (eqb p.id top_id || is_extent p.id) (or_l (eqb p.id top_id) (is_extent p.id) (eq-eqb p.id top_id h))
is_measure_lem p (inr (inr h)) = or_r (eqb p.id left_id) (eqb p.id top_id || is_extent p.id) (or_r (eqb p.id top_id) (is_extent p.id) (is-extent p h))

measure_is : (p : Property) → is_measure p.id ≡ true → AMeasure p
measure_is p e = go (or_cases (eqb p.id left_id) (eqb p.id top_id || is_extent p.id) e)
  where
    top : (eqb p.id top_id ≡ true) ⊎ (is_extent p.id ≡ true) → AMeasure p
    top (inl h) = inr (inl (eqb-true _ _ h))
    top (inr h) = inr (inr (extent-is p h))

    go : (eqb p.id left_id ≡ true) ⊎ ((eqb p.id top_id || is_extent p.id) ≡ true) → AMeasure p
    go (inl h) = inl (eqb-true _ _ h)
    go (inr h) = top (or_cases (eqb p.id top_id) (is_extent p.id) h)

placing_is : (p : Property) → is_placing p ≡ true → Placing p
unfolding is_placing
placing_is p e = record {
  short = λ m. eqb-true _ _ (where_true (is_measure p.id) (eqb p.value.mark 2) (and_l (not (is_measure p.id) || eqb p.value.mark 2) (not (is_extent p.id) || ltb p.value.low 0x80000000) e) (is_measure_lem p m));
  not_negative = λ m. ltb-true _ _ (where_true (is_extent p.id) (ltb p.value.low 0x80000000) (and_r (not (is_measure p.id) || eqb p.value.mark 2) (not (is_extent p.id) || ltb p.value.low 0x80000000) e) (is-extent p m));
}

is_placing_lem : (p : Property) → Placing p → is_placing p ≡ true
unfolding is_placing
is_placing_lem p h =
    and-true (not (is_measure p.id) || eqb p.value.mark 2) (not (is_extent p.id) || ltb p.value.low 0x80000000)
    (true_where (is_measure p.id) (eqb p.value.mark 2) (λ m. eq-eqb p.value.mark 2 (h.short (measure_is p m))))
    (true_where (is_extent p.id) (ltb p.value.low 0x80000000) (λ m. lt-ltb p.value.low 0x80000000 (h.not_negative (extent-is p m))))

text-name-is : (m : Name) → is_text_name m ≡ true → (start : ℕ) × (size : ℕ) × (m ≡ Text start size)
unfolding is_text_name
text-name-is (Text a b) e = (a, b, refl)
text-name-is Numbered e = false_true e
text-name-is (Loose a b) e = false_true e

-- ---- the first that isn't kept
data First (n : ℕ) (bs : List Bool) : Option ℕ → Type 0 where
  every_kept : ((k : ℕ) → k < length bs → get_or bs k false ≡ true) → First n bs none
  at : (k : ℕ) → k < length bs → get_or bs k false ≡ false → ((j : ℕ) → j < k → get_or bs j false ≡ true) → First n bs (some (n + k))

first-is : (n : ℕ) (bs : List Bool) → First n bs (first_broken n bs)
unfolding first_broken
first-is n [] = First.every_kept (λ k l. absurd (omega arith))
first-is n (b ∷ bs) = go b (first_broken (n + 1) bs) (first-is (n + 1) bs)
  where
    below : (m : ℕ) → ((j : ℕ) → j < m → get_or bs j false ≡ true) → (j : ℕ) → j < suc m → get_or (true ∷ bs) j false ≡ true
    below m h zero l = refl
    below m h (suc j) l = h j (omega arith)

    go : (b : Bool) (o : Option ℕ) → First (n + 1) bs o → First n (b ∷ bs) (cond b o (some n))
    go false o f = subst (λ (i : ℕ). First n (false ∷ bs) (some i)) (let e : n + 0 ≡ n = omega arith in e) (First.at 0 (omega arith) refl (λ j l. absurd (omega arith)))
    go true _ (First.every_kept h) = First.every_kept (below (length bs) h)
    go true _ (First.at k l e h) = subst (λ (i : ℕ). First n (true ∷ bs) (some i)) (let q : n + suc k ≡ n + 1 + k = omega arith in q) (First.at (suc k) (omega arith) e (below k h))

-- ---- the rows
module _ (s : List ℕ) (cs : List Control) where
  abbrev K : ℕ → ℕ → Type 0
  K i rule = Kept s cs i rule

  -- the names of the rows before n, the last first
  earlier : ℕ → List (List ℕ)
  earlier zero = []
  earlier (suc n) = its_name s cs n ∷ earlier n

  new_is : (n : ℕ) (name : List ℕ) → all (λ e. not (same e name)) (earlier n) ≡ true → (j : ℕ) → j < n → ¬ (its_name s cs j ≡ name)
  unfolding earlier all
  new_is zero name e j l = absurd (omega arith)
  new_is (suc n) name e j l = go (eqb j n) refl (new_is n name (and_r (not (same (its_name s cs n) name)) (all (λ e. not (same e name)) (earlier n)) e) j)
    where
      go : (b : Bool) → eqb j n ≡ b → (j < n → ¬ (its_name s cs j ≡ name)) → ¬ (its_name s cs j ≡ name)
      go true q rec = let here : j ≡ n = eqb-true _ _ q in rw here (unlike (its_name s cs n) name (and_l (not (same (its_name s cs n) name)) (all (λ e. not (same e name)) (earlier n)) e))
      go false q rec = let other : ¬ (j ≡ n) = eqb-false _ _ q in rec (omega arith)

  is_new : (n : ℕ) (name : List ℕ) → ((j : ℕ) → j < n → ¬ (its_name s cs j ≡ name)) → all (λ e. not (same e name)) (earlier n) ≡ true
  unfolding earlier all
  is_new zero name h = refl
  is_new (suc n) name h = rw (like_not (its_name s cs n) name (h n (omega arith))) (is_new n name (λ j l. h j (omega arith)))

  abbrev tests : ℕ → List Bool
  tests i = kept s i (earlier i) (control cs i)

  six_tests : (i : ℕ) → length (tests i) ≡ 6
  unfolding kept
  six_tests i = refl

  kept_true : (i rule : ℕ) → K i rule → get_or (tests i) (rule - 1) false ≡ true
  unfolding kept has_type_name is_text_name is_new_name is_placed
  kept_true i _ (Kept.one h) = like_not _ _ h
  kept_true i _ (Kept.two h) = ap is_text_name h
  kept_true i _ (Kept.three h) = is_new i (its_name s cs i) h
  kept_true i _ (Kept.four h) = is-filled (control cs i).type (control cs i).properties h
  kept_true i _ (Kept.five h) = there-all is_placing (control cs i).properties (λ p m. is_placing_lem p (h p m))
  kept_true i _ (Kept.six h) = le-leb _ _ h

  true_kept : (i k : ℕ) → k < 6 → get_or (tests i) k false ≡ true → K i (suc k)
  unfolding kept has_type_name is_new_name is_placed
  true_kept i zero l e = Kept.one (unlike _ _ e)
  true_kept i (suc zero) l e = let t = text-name-is (control cs i).name e in Kept.two t.2
  true_kept i (suc (suc zero)) l e = Kept.three (new_is i (its_name s cs i) e)
  true_kept i (suc (suc (suc zero))) l e = Kept.four (filled_is (control cs i).type (control cs i).properties e)
  true_kept i (suc (suc (suc (suc zero)))) l e = Kept.five (λ p m. placing_is p (all_there is_placing (control cs i).properties p e m))
  true_kept i (suc (suc (suc (suc (suc zero))))) l e = Kept.six (leb-true _ _ e)
  true_kept i (suc (suc (suc (suc (suc (suc k)))))) l e = absurd (omega arith)

  kept_by : (i rule : ℕ) → 1 ≤ rule → rule ≤ 6 → get_or (tests i) (rule - 1) false ≡ true → K i rule
  kept_by i zero h l e = absurd (omega arith)
  kept_by i (suc k) h l e = let q : suc k - 1 ≡ k = omega arith in true_kept i k (omega arith) (rw q at e)

  row-says : (i : ℕ) → i < length cs → ((j : ℕ) → j < i → AllKept s cs j) → (o : Option ℕ) → First 1 (tests i) o
      → (rest : Option (ℕ × ℕ)) → (AllKept s cs i → Verdict s cs (verdict rest)) → Verdict s cs (verdict (row_or i o rest))
  row-says i l before _ (First.every_kept h) rest rec = rec (λ rule a b. kept_by i rule a b (h (rule - 1) (omega (arith, six_tests i))))
  row-says i l before _ (First.at k m e h) rest rec =
      Verdict.no i (1 + k) (record {
        row = l;
        least = omega arith;
        most = omega (arith, six_tests i);
        broken = λ x. false_true (sym e ∙ rw (let q : 1 + k - 1 ≡ k = omega arith in q) at (kept_true i (1 + k) x));
        rows_before = before;
        rules_before = λ r a b. kept_by i r a (omega (arith, six_tests i)) (h (r - 1) (omega arith));
      })

  and_this : (n : ℕ) → ((j : ℕ) → j < n → AllKept s cs j) → AllKept s cs n → (j : ℕ) → j < suc n → AllKept s cs j
  and_this n h k j l = go (eqb j n) refl
    where
      go : (b : Bool) → eqb j n ≡ b → AllKept s cs j
      go true q = let here : j ≡ n = eqb-true _ _ q in subst (AllKept s cs) (sym here) k
      go false q = let other : ¬ (j ≡ n) = eqb-false _ _ q in h j (omega arith)

  told-from : (k n : ℕ) → n + k ≡ length cs → ((j : ℕ) → j < n → AllKept s cs j) → Verdict s cs (verdict (broken_from s n (earlier n) (drop n cs)))
  unfolding broken_from earlier
  told-from zero n e h =
      let q : n ≡ length cs = omega arith in
      rw (q, drop-length cs) (Verdict.yes (λ i l. h i (omega arith)))
  told-from (suc k) n e h =
      let l : n < length cs = omega arith in
      rw (drop-cons cs n no-control l)
      (row-says n l h (first_broken 1 (tests n)) (first-is 1 (tests n)) (broken_from s (n + 1) (its_name s cs n ∷ earlier n) (drop (suc n) cs)) λ all-kept.
      rw (add-one n) (told-from k (suc n) (omega arith) (and_this n h all-kept)))

  pub told : Verdict s cs (verdict (broken s cs))
  unfolding earlier broken
  told = told-from (length cs) 0 (omega arith) (λ j l. absurd (omega arith))

  -- ---- one verdict only
  one-row : (i j rule rule' : ℕ) → FirstBroken s cs i rule → FirstBroken s cs j rule' → ¬ (i < j)
  one-row i j rule rule' h k l = h.broken (k.rows_before i l rule h.least h.most)

  one-rule : (i rule rule' : ℕ) → FirstBroken s cs i rule → FirstBroken s cs i rule' → ¬ (rule < rule')
  one-rule i rule rule' h k l = h.broken (k.rules_before rule h.least l)

  pub one-verdict : (a b : Answer) → Verdict s cs a → Verdict s cs b → a ≡ b
  one-verdict _ _ (Verdict.yes h) (Verdict.yes k) = refl
  one-verdict _ _ (Verdict.yes h) (Verdict.no i rule f) = absurd (f.broken (h i f.row rule f.least f.most))
  one-verdict _ _ (Verdict.no i rule f) (Verdict.yes h) = absurd (f.broken (h i f.row rule f.least f.most))
  one-verdict _ _ (Verdict.no i rule f) (Verdict.no j rule' g) =
      let a : ¬ (i < j) = one-row i j rule rule' f g in
      let b : ¬ (j < i) = one-row j i rule' rule g f in
      let e : j ≡ i = omega arith in
      let g' : FirstBroken s cs i rule' = subst (λ (n : ℕ). FirstBroken s cs n rule') e g in
      let c : ¬ (rule < rule') = one-rule i rule rule' f g' in
      let d : ¬ (rule' < rule) = one-rule i rule' rule g' f in
      let q : rule ≡ rule' = omega arith in
      λ k. answer 0 0 (sym e k) (q k)

  pub all_of_yes : (a : Answer) → Verdict s cs a → a ≡ answer 0 1 0 0 → (i : ℕ) → i < length cs → AllKept s cs i
  all_of_yes _ (Verdict.yes h) e = h
  all_of_yes _ (Verdict.no i rule f) e = let q : ◌≡◌ {A = ℕ} 0 1 = ap (λ a. a.first) e in absurd (omega arith)

  -- what rule 4 says
  pub fourth : (i rule : ℕ) → K i rule → rule ≡ 4 → IsBox (control cs i).type → OneText (control cs i).properties
  fourth i _ (Kept.one h) e = absurd (omega arith)
  fourth i _ (Kept.two h) e = absurd (omega arith)
  fourth i _ (Kept.three h) e = absurd (omega arith)
  fourth i _ (Kept.four h) e = h
  fourth i _ (Kept.five h) e = absurd (omega arith)
  fourth i _ (Kept.six h) e = absurd (omega arith)
