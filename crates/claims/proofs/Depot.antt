-- The totals hold.
use Prim.Native.Nat.{ℕ, ◌+◌, ◌≤◌}
use native.Mathlib.Omega.{arith}
use mathlib.Core.Path.{◌≡◌, refl, sym, ap, ap₂, subst, ◌∙◌}
use mathlib.Core.Bool.{Bool, true, false, not, cond}
use mathlib.Core.List.{List, [], ◌∷◌, map, Permᴰ}
use mathlib.Core.Logic.{◌↔◌}
use mathlib.Core.Option.{Option, none, some}
use borrow.Author.Tests.{ne_eqb, eqb-true, eqb-false, leb-true, leb-false, le-leb, lt-leb, lt-ltb, le-ltb}
use lib.Bits.{bit_or}
use lib.Dec.{ltb, leb, eqb}
use lib.ListN.{length}
use Rattle.rules.specs.Lists.{same, how_many, tally, add_up}
use Rattle.rules.specs.Answer.{refusal, too_long_lem, bad_table, more_controls, more_properties, longest}
use Rattle.rules.specs.CodeTable.{Tie, well_formed_lem}
use Rattle.rules.specs.NameTables.{control_type_names}
use Rattle.rules.specs.Names.{name_in_lem}
use Rattle.rules.specs.Rows.{control_width, property_width, room, rows_from}
use Rattle.rules.specs.Listing.{word}
use Rattle.rules.specs.Reading.{Control, Reading, properties, control_row, control_rows_from, control_rows, property_row, property_rows}
use Rattle.rules.specs.Tree.{Entries}
use Rattle.rules.specs.Access2000.{Prop, stream_of}
use Rattle.rules.specs.Read2000.{Spot, tied, shown, property_in, read2000, spots_of}
use Rattle.rules.specs.Blob.{Outcome, refused, read, counted, fit, is2000, read_by, reading_of, outcome, answer_of, Exit, exit, spots_in, spots}
use Rattle.rules.specs.Totals.{answers_counted, types_counted, marks_counted, type_names, is_typed, is_marked, is_unmapped, is_mapped, adds, added_by, zeros, Total, at, sums as places, sum, within, totals_exit}
use Rattle.rules.specs.declared.Answer.{Answer}
use Rattle.rules.specs.declared.Property.{Property}
use Rattle.rules.specs.declared.Totals.{Totals}
use Rattle.rules.specs.declared.Totalled.{Totalled}
use Rattle.rules.proofs.OpenTotals.{totals_open}
use Rattle.rules.proofs.ListLaws.{none_some}
use Rattle.rules.proofs.CodeTableLaws.{unmapped_large, found-held, target_small}
use Rattle.rules.proofs.Read2000Laws.{shown_at, properties-from}
use Rattle.rules.proofs.RowsLaws.{rows-from-words}
use Rattle.rules.proofs.ReadingLaws.{controls_wide, properties_wide, controls-counted, properties-counted}
use Rattle.totallaws.proofs.TallyLaws.{many-map, many_not, many-none, tally-map, tally-all, tally-more, tally-nothing}
use Rattle.totallaws.proofs.MarkLaws.{reading-marked, marked_once}
use Rattle.totallaws.proofs.TotalsLaws.{sum-at, zeros-at, sum_swap, within-at, at-within, not_within, given, typed_once}
use Rattle.claims.specs.Demand1.{Refused}
use Rattle.claims.specs.Counts.{Counted}
use Rattle.claims.specs.Depot.{Call, single, added, called, By12, Passes, Unchanged, Counts, run, unrefused, NoneBy12, over, controls_read, properties_read, ByRows, NothingElse, CountAnswer, Wish4, has_type_named, has_high_id, has_low_id, has_mark, control_rows_of, property_rows_of, is_none, is_untied}
use Rattle.claims.proofs.Answers.{exactly}
use Rattle.claims.proofs.Counts.{counts_hold}

-- ---- one call
module _ (t : Totals) (x : Call) where
  -- the record that it would leave
  abbrev next : Totals
  next = sum t (added x)

  counts_it : within next ≡ true → called t x ≡ record { answer = single x; totals = next }
  unfolding totals_exit
  counts_it e = rw e

  refuses_it : within next ≡ false → called t x ≡ record { answer = refusal 12; totals = t }
  unfolding totals_exit
  refuses_it e = rw e

  never_12 : ¬ ((single x).number ≡ 12)
  never_12 = (given x.table x.stream x.control_room x.property_room).not_12

  within_not : within next ≡ true → ¬ By12 t x
  within_not e h = never_12 (sym (ap (λ (r : Totalled). r.answer.number) (counts_it e)) ∙ h)

  not_within_12 : within next ≡ false → By12 t x
  not_within_12 e = ap (λ (r : Totalled). r.answer.number) (refuses_it e)

  by_12 : By12 t x → within next ≡ false
  by_12 h = go (within next) refl
    where
      go : (b : Bool) → within next ≡ b → b ≡ false
      go true e = absurd (within_not e h)
      go false e = refl

  not_by_12 : ¬ By12 t x → within next ≡ true
  not_by_12 h = go (within next) refl
    where
      go : (b : Bool) → within next ≡ b → b ≡ true
      go true e = refl
      go false e = absurd (h (not_within_12 e))

  left : ¬ By12 t x → (called t x).totals ≡ next
  left h = ap (λ (r : Totalled). r.totals) (counts_it (not_by_12 h))

  twelve : By12 t x ↔ Passes t x
  twelve = (passes, passed)
    where
      passes : By12 t x → Passes t x
      passes h = let r = not_within next (by_12 h) in (r.0, omega (arith, r.1, sum-at r.0 t (added x)))

      passed : Passes t x → By12 t x
      passed r = go (within next) refl
        where
          go : (b : Bool) → within next ≡ b → By12 t x
          go true e = absurd (omega (arith, r.1, sum-at r.0 t (added x), within-at next e r.0))
          go false e = not_within_12 e

  unchanged : By12 t x → Unchanged t x
  unchanged h = refuses_it (by_12 h)

  otherwise : ¬ By12 t x → Counts t x
  otherwise h = record { answer = ap (λ (r : Totalled). r.answer) (counts_it (not_by_12 h)); totals = λ c. ap (at c) (left h) ∙ sum-at c t (added x) }

  counts_right : (a : Answer) → CountAnswer t x a → a ≡ (called t x).answer
  counts_right _ (CountAnswer.twelve p) = sym (ap (λ (r : Totalled). r.answer) (unchanged (twelve.1 p)))
  counts_right _ (CountAnswer.reading n) = sym (otherwise (λ h. n (twelve.0 h))).answer

  counts-told : CountAnswer t x (called t x).answer
  counts-told = go (within next) refl
    where
      go : (b : Bool) → within next ≡ b → CountAnswer t x (called t x).answer
      go true e = subst (CountAnswer t x) (sym (otherwise (within_not e)).answer) (CountAnswer.reading (λ p. within_not e (twelve.1 p)))
      go false e = subst (CountAnswer t x) (sym (ap (λ (r : Totalled). r.answer) (refuses_it e))) (CountAnswer.twelve (twelve.0 (not_within_12 e)))

  held : (c : Total) → at c t ≤ 4294967295 → at c (called t x).totals ≤ 4294967295
  held c h = go (within next) refl
    where
      go : (b : Bool) → within next ≡ b → at c (called t x).totals ≤ 4294967295
      go true e = rw (counts_it e) (within-at next e c)
      go false e = rw (refuses_it e) h

-- ---- one call after the other
module _ (t : Totals) (x : Call) (xs : List Call) where
  run_fits : within (sum t (added x)) ≡ true → run t (x ∷ xs) ≡ run (sum t (added x)) xs
  unfolding run
  run_fits e = rw (counts_it t x e)

  run-over : within (sum t (added x)) ≡ false → run t (x ∷ xs) ≡ run t xs
  unfolding run
  run-over e = rw (refuses_it t x e)

  unrefused-fits : within (sum t (added x)) ≡ true → unrefused t (x ∷ xs) ≡ x ∷ unrefused (sum t (added x)) xs
  unfolding unrefused
  unrefused-fits e = rw (counts_it t x e, ne_eqb (single x).number 12 (never_12 t x))

  unrefused-over : within (sum t (added x)) ≡ false → unrefused t (x ∷ xs) ≡ unrefused t xs
  unfolding unrefused
  unrefused-over e = rw (refuses_it t x e)

-- a number that each record has, and that grows by what each call adds
module _ (f : Totals → ℕ) (g : Call → ℕ) (grows : (t : Totals) (x : Call) → f (sum t (added x)) ≡ f t + g x) where
  grown : (t : Totals) (xs : List Call) → f (run t xs) ≡ f t + add_up (map g (unrefused t xs))
  unfolding run unrefused add_up
  grown t [] = omega arith
  grown t (x ∷ xs) = go (within (sum t (added x))) refl (grown (sum t (added x)) xs) (grown t xs)
    where
      go : (b : Bool) → within (sum t (added x)) ≡ b
          → f (run (sum t (added x)) xs) ≡ f (sum t (added x)) + add_up (map g (unrefused (sum t (added x)) xs))
          → f (run t xs) ≡ f t + add_up (map g (unrefused t xs))
          → f (run t (x ∷ xs)) ≡ f t + add_up (map g (unrefused t (x ∷ xs)))
      go true e h k = rw (run_fits t x xs e, unrefused-fits t x xs e) (omega (arith, h, grows t x))
      go false e h k = rw (run-over t x xs e, unrefused-over t x xs e) k

sums : (xs : List Call) (c : Total) → at c (run zeros xs) ≡ over c (unrefused zeros xs)
sums xs c = omega (arith, grown (at c) (λ x. at c (added x)) (λ t x. sum-at c t (added x)) zeros xs, zeros-at c)

-- ---- none refused
-- the same, by the records that would be left
abbrev Fits : Totals → List Call → Type 0
Fits t [] = Unit {0}
Fits t (x ∷ xs) = (within (sum t (added x)) ≡ true) × Fits (sum t (added x)) xs

none-fits : (t : Totals) (xs : List Call) → NoneBy12 t xs → Fits t xs
none-fits t [] h = tt
none-fits t (x ∷ xs) h = (not_by_12 t x h.0, none-fits (sum t (added x)) xs (rw (left t x h.0) at h.1))

fits-none : (t : Totals) (xs : List Call) → Fits t xs → NoneBy12 t xs
fits-none t [] h = tt
fits-none t (x ∷ xs) h = (within_not t x h.0, rw (left t x (within_not t x h.0)) (fits-none (sum t (added x)) xs h.1))

-- exactly when no total of them all passes the ceiling
all_fit : (t : Totals) (xs : List Call) → ((c : Total) → at c t + over c xs ≤ 4294967295) → Fits t xs
unfolding add_up
all_fit t [] h = tt
all_fit t (x ∷ xs) h = (at-within (sum t (added x)) (λ c. omega (arith, h c, sum-at c t (added x))), all_fit (sum t (added x)) xs (λ c. omega (arith, h c, sum-at c t (added x))))

fit_all : (t : Totals) (xs : List Call) → ((c : Total) → at c t ≤ 4294967295) → Fits t xs → (c : Total) → at c t + over c xs ≤ 4294967295
unfolding add_up
fit_all t [] h f c = omega (arith, h c)
fit_all t (x ∷ xs) h f c = omega (arith, fit_all (sum t (added x)) xs (within-at (sum t (added x)) f.0) f.1 c, sum-at c t (added x))

none-refused : (xs : List Call) → NoneBy12 zeros xs ↔ ((c : Total) → over c xs ≤ 4294967295)
none-refused xs = (
  (λ h c. omega (arith, fit_all zeros xs (λ d. omega (arith, zeros-at d)) (none-fits zeros xs h) c)),
  (λ h. fits-none zeros xs (all_fit zeros xs (λ c. omega (arith, h c, zeros-at c)))),
)

-- ---- the order
-- where a fits and then b does, b fits before a
fits-before : (t : Totals) (a b : Call) → within (sum (sum t (added a)) (added b)) ≡ true → within (sum t (added b)) ≡ true
fits-before t a b e =
    at-within (sum t (added b)) (λ c. omega (arith, within-at _ e c, sum-at c (sum t (added a)) (added b), sum-at c t (added a), sum-at c t (added b)))

swapped : (t : Totals) (a b : Call) (l : List Call) → Fits t (a ∷ b ∷ l) → Fits t (b ∷ a ∷ l) × (run t (a ∷ b ∷ l) ≡ run t (b ∷ a ∷ l))
swapped t a b l f =
    let s : sum (sum t (added a)) (added b) ≡ sum (sum t (added b)) (added a) = sum_swap t (added a) (added b) in
    let g : within (sum t (added b)) ≡ true = fits-before t a b f.1.0 in
    let k : within (sum (sum t (added b)) (added a)) ≡ true = rw s at f.1.0 in
    let rest : Fits (sum (sum t (added b)) (added a)) l = rw s at f.1.1 in (
      (g, (k, rest)),
      run_fits t a (b ∷ l) f.0 ∙ run_fits (sum t (added a)) b l f.1.0 ∙ ap (λ (z : Totals). run z l) s
          ∙ sym (run_fits (sum t (added b)) a l k) ∙ sym (run_fits t b (a ∷ l) g),
    )

ordered : {xs ys : List Call} → Permᴰ xs ys → (t : Totals) → Fits t xs → Fits t ys × (run t xs ≡ run t ys)
ordered Permᴰ.nil t f = (f, refl)
ordered (Permᴰ.cons {a} {b} {l₁} {l₂} e p) t f =
    let r = ordered p (sum t (added a)) f.1 in
    let g : Fits t (a ∷ l₂) = (f.0, r.0) in
    let same : run t (a ∷ l₁) ≡ run t (a ∷ l₂) = run_fits t a l₁ f.0 ∙ r.1 ∙ sym (run_fits t a l₂ f.0) in
    (rw e at g, same ∙ ap (λ (z : Call). run t (z ∷ l₂)) e)
ordered (Permᴰ.swap {a} {b} {a'} {b'} {l} e e') t f =
    let r = swapped t a b l f in
    let g : Fits t (a' ∷ a ∷ l) = rw e' at r.0 in
    (rw e at g, r.1 ∙ ap₂ (λ (y z : Call). run t (y ∷ z ∷ l)) e' e)
ordered (Permᴰ.trans p q) t f =
    let r = ordered p t f in
    let s = ordered q t r.0 in
    (s.0, r.1 ∙ s.1)

any_order : {xs ys : List Call} → Permᴰ xs ys → (t : Totals) → NoneBy12 t xs → NoneBy12 t ys × (run t xs ≡ run t ys)
any_order {xs} {ys} p t h = let r = ordered p t (none-fits t xs h) in (fits-none t ys r.0, r.1)

-- ---- answers
map_same : {A B : Type 0} (f g : A → B) → ((x : A) → f x ≡ g x) → (xs : List A) → map f xs ≡ map g xs
map_same f g h [] = refl
map_same f g h (x ∷ xs) = ap₂ ◌∷◌ (h x) (map_same f g h xs)

answers : (x : Call) → (added x).answers ≡ map (λ n. cond (eqb (single x).number n) 1 0) answers_counted
unfolding added_by adds how_many
answers x = map_same _ _ (λ (n : ℕ). let e : cond (eqb (single x).number n) 1 0 + 0 ≡ cond (eqb (single x).number n) 1 0 = omega arith in e) answers_counted

one_answer : (x : Call) → add_up (added x).answers ≡ 1
unfolding added_by adds
one_answer x =
    let is : ℕ → Answer → Bool = λ n a. eqb a.number n in
    omega (arith, tally-more is answers_counted (single x) [], tally-nothing is answers_counted, (given x.table x.stream x.control_room x.property_room).once)

add_sums : (a b : List ℕ) → add_up (places a b) ≡ add_up a + add_up b
unfolding places add_up
add_sums [] b = omega arith
add_sums (x ∷ a) [] = omega arith
add_sums (x ∷ a) (y ∷ b) = omega (arith, add_sums a b)

-- ---- what a single reading comes to
pub record Read (t s : List ℕ) (c p : ℕ) : Type 0 where
  pub reading : Reading
  pub formed : well_formed_lem t ≡ true
  pub outcome-is : outcome t s c p ≡ read reading
  pub reading-is : reading_of t s ≡ some reading

-- a reading, where the answer is 0
read-on_0 : (t s : List ℕ) (c p : ℕ) → (answer_of (outcome t s c p)).number ≡ 0 → Read t s c p
unfolding outcome
read-on_0 t s c p h = go (ltb longest (length s)) (well_formed_lem t) (reading_of t s) refl refl refl h
  where
    go : (b d : Bool) (o : Option Reading) → ltb longest (length s) ≡ b → well_formed_lem t ≡ d → reading_of t s ≡ o
        → (answer_of (cond b (refused (refusal too_long_lem)) (cond (not d) (refused (refusal bad_table)) (fit c p o)))).number ≡ 0 → Read t s c p
    go true d o eb ed eo h = absurd (omega arith)
    go false false o eb ed eo h = absurd (omega arith)
    go false true none eb ed eo h = absurd (omega arith)
    go false true (some r) eb ed eo h = fits (ltb c (length r.controls)) (ltb p (length (properties r))) refl refl h
      where
        fits : (k l : Bool) → ltb c (length r.controls) ≡ k → ltb p (length (properties r)) ≡ l
            → (answer_of (cond k (refused (counted more_controls r)) (cond l (refused (counted more_properties r)) (read r)))).number ≡ 0 → Read t s c p
        fits true l ek el h = absurd (omega arith)
        fits false true ek el h = absurd (omega arith)
        fits false false ek el h = record { reading = r; formed = ed; outcome-is = rw (eb, ed, eo, ek, el); reading-is = eo }

-- ---- rows
many-controls : (p : ℕ → Bool) (n from : ℕ) (cs : List Control) → how_many (λ row. p (word row 0)) (control_rows_from n from cs) ≡ how_many (λ c. p c.type) cs
unfolding how_many control_rows_from control_row
many-controls p n from [] = refl
many-controls p n from (c ∷ cs) = ap (λ (k : ℕ). cond (p c.type) 1 0 + k) (many-controls p (n + 1) (from + length c.properties) cs)

many-same : {A : Type 0} (p q : A → Bool) → ((x : A) → p x ≡ q x) → (xs : List A) → how_many p xs ≡ how_many q xs
unfolding how_many
many-same p q h [] = refl
many-same p q h (x ∷ xs) = rw (h x) (ap (λ (k : ℕ). cond (q x) 1 0 + k) (many-same p q h xs))

low-high : (n m : ℕ) → not (leb m n) ≡ ltb n m
low-high n m = go (leb m n) refl
  where
    go : (b : Bool) → leb m n ≡ b → not b ≡ ltb n m
    go true e = sym (le-ltb n m (leb-true m n e))
    go false e = sym (lt-ltb n m (leb-false m n e))

abbrev in2000 : Call → Bool
in2000 x = is2000 x.table x.stream

-- a call that is answered 0
module _ (x : Call) (zero : (single x).number ≡ 0) where
  own : Read x.table x.stream x.control_room x.property_room
  own = read-on_0 x.table x.stream x.control_room x.property_room zero

  abbrev r : Reading
  r = own.reading

  adds-is : added x ≡ adds (in2000 x) (read r)
  unfolding added_by
  adds-is = ap (adds (in2000 x)) own.outcome-is

  unmapped-is : (added x).unmapped ≡ how_many (is_unmapped (in2000 x)) (properties r)
  unfolding adds
  unmapped-is = ap (λ (d : Totals). d.unmapped) adds-is

  mapped-is : (added x).mapped ≡ how_many (is_mapped (in2000 x)) (properties r)
  unfolding adds
  mapped-is = ap (λ (d : Totals). d.mapped) adds-is

  types_add_up : add_up (added x).types ≡ length r.controls
  unfolding adds
  types_add_up = ap (λ (d : Totals). add_up d.types) adds-is ∙ tally-all is_typed types_counted r.controls (λ c m. typed_once c.type)

  mapping_adds-up : (added x).unmapped + (added x).mapped ≡ length (properties r)
  mapping_adds-up = omega (arith, unmapped-is, mapped-is, many_not (is_unmapped (in2000 x)) (properties r))

  marks_add_up : add_up (added x).marks ≡ length (properties r)
  unfolding adds
  marks_add_up =
      ap (λ (d : Totals). add_up d.marks) adds-is
      ∙ tally-all is_marked marks_counted (properties r) (marked_once (properties r) (reading-marked x.table x.stream r own.reading-is))

  single-is : single x ≡ counted 0 r
  single-is = ap answer_of own.outcome-is

-- ---- in an Access 2000 stream
-- a code shows 0x8000 or more exactly where the table hasn't tied it
shown-high : (t s : List ℕ) (y : Spot) → well_formed_lem t ≡ true → leb 0x8000 (shown_at t s y).id ≡ is_untied t y
unfolding shown_at property_in
shown-high t s y w = go (tied t y.scope y.prop.id) refl
  where
    go : (o : Option Tie) → tied t y.scope y.prop.id ≡ o → leb 0x8000 (shown s y.prop o).id ≡ is_none o
    go none q = le-leb 0x8000 (bit_or 0x8000 y.prop.id) (unmapped_large y.prop.id)
    go (some k) q =
        let h = found-held t y.scope.kind y.scope.code y.prop.id k q in
        lt-leb 0x8000 k.target (target_small t y.scope.kind y.scope.code k w h.0)

spots-unmapped : (t s : List ℕ) (r : Reading) → well_formed_lem t ≡ true → is2000 t s ≡ true → reading_of t s ≡ some r
    → how_many (is_unmapped true) (properties r) ≡ how_many (is_untied t) (spots s)
unfolding reading_of spots
spots-unmapped t s r w o e = go (stream_of s) (rw o at e)
  where
    go : (x : Option (List Prop × Entries Prop)) → read_by t s x ≡ some r → how_many (is_unmapped true) (properties r) ≡ how_many (is_untied t) (spots_in s x)
    go none e = absurd (none_some e)
    go (some x) e =
        let q : r ≡ read2000 t s x = cc in
        ap (λ z. how_many (is_unmapped true) (properties z)) q
        ∙ ap (how_many (is_unmapped true)) (properties-from t s x)
        ∙ many-map (is_unmapped true) (shown_at t s) (spots_of s x)
        ∙ many-same _ _ (λ y. shown-high t s y w) (spots_of s x)

untied : (x : Call) → (single x).number ≡ 0 → in2000 x ≡ true → (added x).unmapped ≡ how_many (is_untied x.table) (spots x.stream)
untied x zero q =
    unmapped-is x zero
    ∙ ap (λ (b : Bool). how_many (is_unmapped b) (properties (r x zero))) q
    ∙ spots-unmapped x.table x.stream (r x zero) (own x zero).formed q (own x zero).reading-is

-- and the rows that `exit` writes of it
module _ (x : Call) (cs ps : List ℕ) (zero : (single x).number ≡ 0) (zero' : (exit x.table x.stream cs ps).answer.number ≡ 0) where
  abbrev e : Exit
  e = exit x.table x.stream cs ps

  seen : Read x.table x.stream (room control_width cs) (room property_width ps)
  seen = read-on_0 x.table x.stream (room control_width cs) (room property_width ps) (unfold exit in zero')

  abbrev it : Reading
  it = r x zero

  same-reading : seen.reading ≡ it
  same-reading = let q : some seen.reading ≡ some it = sym seen.reading-is ∙ (own x zero).reading-is in cc

  counts : Counted cs ps it e
  counts = counts_hold.blobs x.table x.stream cs ps it (seen.outcome-is ∙ ap read same-reading)

  first : e.answer.first ≡ length it.controls
  first = counts.first ∙ controls-counted it

  second : e.answer.second ≡ length (properties it)
  second = counts.second ∙ properties-counted it

  control-rows : control_rows_of e ≡ control_rows it
  unfolding control_rows
  control-rows =
      ap₂ (λ n l. rows_from control_width 0 n l) counts.first counts.control-words
      ∙ rows-from-words control_width (control_rows it) _ (controls_wide 0 (length it.own) it.controls)

  property-rows : property_rows_of e ≡ property_rows it
  unfolding property_rows
  property-rows =
      ap₂ (λ n l. rows_from property_width 0 n l) counts.second counts.property-words
      ∙ rows-from-words property_width (property_rows it) _ (properties_wide (properties it))

  types : (added x).types ≡ tally has_type_named types_counted (control_rows_of e)
  unfolding adds control_rows
  types =
      ap (λ (d : Totals). d.types) (adds-is x zero)
      ∙ sym (ap (tally has_type_named types_counted) control-rows ∙ map_same _ _ (λ name. many-controls (λ n. same (name_in_lem control_type_names n) name) 0 (length it.own) it.controls) types_counted)

  marks : (added x).marks ≡ tally has_mark marks_counted (property_rows_of e)
  unfolding adds property_rows
  marks = ap (λ (d : Totals). d.marks) (adds-is x zero) ∙ sym (ap (tally has_mark marks_counted) property-rows ∙ tally-map has_mark property_row marks_counted (properties it))

  -- a test of rows, as one of properties
  of_rows : (p : List ℕ → Bool) → how_many p (property_rows_of e) ≡ how_many (λ q. p (property_row q)) (properties it)
  unfolding property_rows
  of_rows p = ap (how_many p) property-rows ∙ many-map p property_row (properties it)

  unmapped_2000 : in2000 x ≡ true → (added x).unmapped ≡ how_many has_high_id (property_rows_of e)
  unmapped_2000 q = unmapped-is x zero ∙ ap (λ (b : Bool). how_many (is_unmapped b) (properties it)) q ∙ sym (of_rows has_high_id)

  mapped_2000 : in2000 x ≡ true → (added x).mapped ≡ how_many has_low_id (property_rows_of e)
  mapped_2000 q =
      mapped-is x zero ∙ ap (λ (b : Bool). how_many (is_mapped b) (properties it)) q
      ∙ many-same _ _ (λ (p : Property). low-high p.id 0x8000) (properties it) ∙ sym (of_rows has_low_id)

  unmapped-later : in2000 x ≡ false → (added x).unmapped ≡ 0
  unmapped-later q = unmapped-is x zero ∙ ap (λ (b : Bool). how_many (is_unmapped b) (properties it)) q ∙ many-none (properties it)

  mapping_all : (added x).unmapped + (added x).mapped ≡ e.answer.second
  mapping_all = mapping_adds-up x zero ∙ sym second

  by_rows : ByRows x e
  by_rows = record {
    types = types;
    unmapped_2000 = unmapped_2000;
    mapped_2000 = mapped_2000;
    unmapped-later = unmapped-later;
    mapped-later = λ q. omega (arith, mapping_all, unmapped-later q);
    marks = marks;
    types-all = types_add_up x zero ∙ sym first;
    mapping_all = mapping_all;
    marks-all = marks_add_up x zero ∙ sym second;
  }

-- ---- a refused stream
refused-adds : (b : Bool) (o : Outcome) → Refused (answer_of o) → NothingElse (adds b o)
unfolding totals_open
refused-adds b (refused a) h = record { types = refl; unmapped = refl; mapped = refl; marks = refl }
refused-adds b (read r) h = absurd (h refl)

others : (x : Call) → Refused (single x) → NothingElse (added x)
unfolding added_by
others x h = refused-adds (is2000 x.table x.stream) (outcome x.table x.stream x.control_room x.property_room) h

-- ---- nothing is left out and nothing is counted twice
nothing : (add_up zeros.answers ≡ 0) × (add_up zeros.types ≡ 0) × (zeros.unmapped + zeros.mapped ≡ 0) × (add_up zeros.marks ≡ 0)
unfolding totals_open
nothing = (refl, refl, refl, refl)

-- one stream
pub record AddsUp (x : Call) : Type 0 where
  pub types : add_up (added x).types ≡ controls_read x
  pub mapping : (added x).unmapped + (added x).mapped ≡ properties_read x
  pub marks : add_up (added x).marks ≡ properties_read x

adds-up : (x : Call) → AddsUp x
adds-up x = go (eqb (single x).number 0) refl
  where
    go : (b : Bool) → eqb (single x).number 0 ≡ b → AddsUp x
    go true q =
        let z : (single x).number ≡ 0 = eqb-true (single x).number 0 q in
        record {
          types = rw q (types_add_up x z ∙ sym (ap (λ (a : Answer). a.first) (single-is x z)));
          mapping = rw q (mapping_adds-up x z ∙ sym (ap (λ (a : Answer). a.second) (single-is x z)));
          marks = rw q (marks_add_up x z ∙ sym (ap (λ (a : Answer). a.second) (single-is x z)));
        }
    go false q =
        let n = others x (eqb-false (single x).number 0 q) in
        record {
          types = rw q (ap add_up n.types ∙ nothing.1);
          mapping = rw q (omega (arith, n.unmapped, n.mapped));
          marks = rw q (ap add_up n.marks ∙ nothing.3);
        }

ones : (xs : List Call) → add_up (map (λ _. 1) xs) ≡ length xs
unfolding add_up
ones [] = refl
ones (x ∷ xs) = omega (arith, ones xs)

streams : (xs : List Call) → add_up (run zeros xs).answers ≡ length (unrefused zeros xs)
streams xs = omega (arith, grown (λ t. add_up t.answers) (λ _. 1) more zeros xs, ones (unrefused zeros xs), nothing.0)
  where
    more : (t : Totals) (x : Call) → add_up (sum t (added x)).answers ≡ add_up t.answers + 1
    more t x = unfold sum in omega (arith, add_sums t.answers (added x).answers, one_answer x)

controls : (xs : List Call) → add_up (run zeros xs).types ≡ add_up (map controls_read (unrefused zeros xs))
controls xs = omega (arith, grown (λ t. add_up t.types) controls_read more zeros xs, nothing.1)
  where
    more : (t : Totals) (x : Call) → add_up (sum t (added x)).types ≡ add_up t.types + controls_read x
    more t x = unfold sum in add_sums t.types (added x).types ∙ ap (λ (n : ℕ). add_up t.types + n) (adds-up x).types

mappings : (xs : List Call) → (run zeros xs).unmapped + (run zeros xs).mapped ≡ add_up (map properties_read (unrefused zeros xs))
mappings xs = omega (arith, grown (λ t. t.unmapped + t.mapped) properties_read more zeros xs, nothing.2)
  where
    more : (t : Totals) (x : Call) → (sum t (added x)).unmapped + (sum t (added x)).mapped ≡ t.unmapped + t.mapped + properties_read x
    more t x = unfold sum in omega (arith, (adds-up x).mapping)

all-marks : (xs : List Call) → add_up (run zeros xs).marks ≡ add_up (map properties_read (unrefused zeros xs))
all-marks xs = omega (arith, grown (λ t. add_up t.marks) properties_read more zeros xs, nothing.3)
  where
    more : (t : Totals) (x : Call) → add_up (sum t (added x)).marks ≡ add_up t.marks + properties_read x
    more t x = unfold sum in add_sums t.marks (added x).marks ∙ ap (λ (n : ℕ). add_up t.marks + n) (adds-up x).marks

the_same : (x : Call) (cs ps : List ℕ) → room control_width cs ≡ x.control_room → room property_width ps ≡ x.property_room → single x ≡ (exit x.table x.stream cs ps).answer
unfolding exit
the_same x cs ps c p = ap₂ (λ (n m : ℕ). answer_of (outcome x.table x.stream n m)) (sym c) (sym p)

names : length type_names ≡ 30
unfolding totals_open
names = refl

pub wish4 : Wish4
wish4 = record {
  sums = sums;
  streams = streams;
  controls = controls;
  mappings = mappings;
  marks = all-marks;
  any_order = any_order;
  none-refused = none-refused;
  twelve = twelve;
  unchanged = unchanged;
  otherwise = otherwise;
  exactly = λ t x. exactly (counts_right t x) (counts-told t x);
  held = held;
  the_same = the_same;
  answers = answers;
  one_answer = one_answer;
  rows = by_rows;
  untied = untied;
  others = others;
  names = names;
}
