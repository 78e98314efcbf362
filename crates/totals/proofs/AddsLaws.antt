-- The numbers that were counted are what the reading adds.
use Prim.Native.Nat.{ℕ, zero, suc, ◌+◌, ◌≤◌, ◌<◌}
use native.Mathlib.Omega.{arith}
use mathlib.Core.Path.{◌≡◌, refl, sym, ap, ap₂, ◌∙◌}
use mathlib.Core.Bool.{Bool, true, false, not, cond}
use mathlib.Core.List.{List, [], ◌∷◌, ◌++◌, map}
use mathlib.Core.Option.{Option, none, some}
use lib.Dec.{ltb, eqb}
use lib.ListN.{length, get_or, take, drop, replicate, length-map, length-drop, length-replicate}
use lib.Seq.{length-take-le, get_or-take, get_or-drop, get_or-set_same, get_or-set_other}
use borrow.Author.Tests.{lt-ltb, ne_eqb, eqb-true, eqb-false}
use Rattle.rules.specs.Lists.{how_many, tally}
use Rattle.rules.specs.Answer.{refusal, too_long_lem, bad_table, more_controls, more_properties, over_ceiling, longest}
use Rattle.rules.specs.CodeTable.{well_formed_lem}
use Rattle.rules.specs.Reading.{Reading, properties}
use Rattle.rules.specs.Blob.{Outcome, refused, read, counted, fit, is2000, reading_of, outcome, answer_of}
use Rattle.rules.specs.Totals.{answers_counted, types_counted, marks_counted, is_numbered, is_typed, is_marked, is_unmapped, is_mapped, controls_in, properties_in, adds, added_by, sum, within, totals_exit, ceiling}
use Rattle.rules.specs.declared.Answer.{Answer}
use Rattle.rules.specs.declared.Totals.{Totals}
use Rattle.rules.specs.declared.Totalled.{Totalled}
use Rattle.rules.proofs.ListLaws.{get_d_map}
use Rattle.totallaws.proofs.TallyLaws.{many-append, many-most}
use Rattle.totallaws.proofs.TotalsLaws.{zero-at, types-many}
use Rattle.tally.specs.Places.{up, bump, bumps, answer_place, outcome_places, Few, Tallied}
use Rattle.tally.proofs.BumpLaws.{bump-length, bumps-length, bumps-append}
use Rattle.totals.specs.Laid.{laid}
use Rattle.totals.proofs.PlaceLaws.{times, type_times, unmapped_times, mapped_times, mark_times, answer_times}

-- ---- a place that is counted n times has n more
bump-same : (words : List ℕ) (k : ℕ) → k < length words → get_or words k 0 < ceiling → get_or (bump words k) k 0 ≡ get_or words k 0 + 1
unfolding bump
bump-same words k h l = get_or-set_same words k (up (get_or words k 0)) 0 h ∙ rw (lt-ltb (get_or words k 0) ceiling l)

bump-other : (words : List ℕ) (i k : ℕ) → ¬ (i ≡ k) → get_or (bump words i) k 0 ≡ get_or words k 0
unfolding bump
bump-other words i k n = get_or-set_other words i k (up (get_or words i 0)) 0 (λ e. n (sym e))

bumps_at : (words is : List ℕ) (k : ℕ) → k < length words → get_or words k 0 + times k is ≤ ceiling → get_or (bumps words is) k 0 ≡ get_or words k 0 + times k is
unfolding bumps how_many
bumps_at words [] k h l = omega arith
bumps_at words (i ∷ is) k h l = go (eqb i k) refl l (bumps_at (bump words i) is k (omega (arith, bump-length words i)))
  where
    go : (b : Bool) → eqb i k ≡ b → get_or words k 0 + (cond b 1 0 + times k is) ≤ ceiling
        → (get_or (bump words i) k 0 + times k is ≤ ceiling → get_or (bumps (bump words i) is) k 0 ≡ get_or (bump words i) k 0 + times k is)
        → get_or (bumps (bump words i) is) k 0 ≡ get_or words k 0 + (cond b 1 0 + times k is)
    go true e l rest =
        let z : i ≡ k = eqb-true i k e in
        let s : get_or (bump words i) k 0 ≡ get_or words k 0 + 1 = ap (λ (j : ℕ). get_or (bump words j) k 0) z ∙ bump-same words k h (omega arith) in
        rest (omega (arith, s)) ∙ omega (arith, s)
    go false e l rest =
        let s : get_or (bump words i) k 0 ≡ get_or words k 0 = bump-other words i k (eqb-false i k e) in
        rest (omega (arith, s)) ∙ omega (arith, s)

-- ---- lists by their numbers
by_numbers : (a b : List ℕ) → length a ≡ length b → ((k : ℕ) → k < length a → get_or a k 0 ≡ get_or b k 0) → a ≡ b
by_numbers [] [] l h = refl
by_numbers [] (y ∷ b) l h = absurd (omega arith)
by_numbers (x ∷ a) [] l h = absurd (omega arith)
by_numbers (x ∷ a) (y ∷ b) l h = ap₂ (λ (m : ℕ) (r : List ℕ). m ∷ r) (h 0 (omega arith)) (by_numbers a b (omega arith) (λ k u. h (suc k) (omega arith)))

segment : {K : Type 0} (words : List ℕ) (m n : ℕ) (keys : List K) (d : K) (f : K → ℕ) → length keys ≡ n → m + n ≤ length words
    → ((j : ℕ) → j < n → get_or words (m + j) 0 ≡ f (get_or keys j d)) → take n (drop m words) ≡ map f keys
segment words m n keys d f e h k =
    let la : length (take n (drop m words)) ≡ n = length-take-le n (drop m words) (omega (arith, length-drop m words)) in
    let lb : length (map f keys) ≡ n = length-map keys f ∙ e in
    by_numbers (take n (drop m words)) (map f keys) (la ∙ sym lb)
    (λ j u. get_or-take n (drop m words) j 0 (omega (arith, la)) ∙ get_or-drop m words j 0 ∙ k j (omega (arith, la)) ∙ sym (get_d_map f keys j d 0 (omega (arith, la, e))))

-- ---- the place of an answer
pub record Numbered (n : ℕ) : Type 0 where
  pub low : answer_place n < 6
  pub same : (k : ℕ) → k < 6 → eqb (answer_place n) k ≡ eqb n (get_or answers_counted k 0)

-- by computation, place by place
of_six : (n : ℕ) → answer_place n < 6 → eqb (answer_place n) 0 ≡ eqb n 0 → eqb (answer_place n) 1 ≡ eqb n 4 → eqb (answer_place n) 2 ≡ eqb n 5 → eqb (answer_place n) 3 ≡ eqb n 6
    → eqb (answer_place n) 4 ≡ eqb n 7 → eqb (answer_place n) 5 ≡ eqb n 8 → Numbered n
of_six n l a b c d e f = record { low = l; same = go }
  where
    go : (k : ℕ) → k < 6 → eqb (answer_place n) k ≡ eqb n (get_or answers_counted k 0)
    go zero h = a
    go (suc zero) h = b
    go (suc (suc zero)) h = c
    go (suc (suc (suc zero))) h = d
    go (suc (suc (suc (suc zero)))) h = e
    go (suc (suc (suc (suc (suc zero))))) h = f
    go (suc (suc (suc (suc (suc (suc k)))))) h = absurd (omega arith)

numbered_0 : Numbered 0
numbered_0 = of_six 0 (omega arith) refl refl refl refl refl refl

numbered_4 : Numbered 4
numbered_4 = of_six 4 (omega arith) refl refl refl refl refl refl

numbered_5 : Numbered 5
numbered_5 = of_six 5 (omega arith) refl refl refl refl refl refl

numbered_6 : Numbered 6
numbered_6 = of_six 6 (omega arith) refl refl refl refl refl refl

numbered_7 : Numbered 7
numbered_7 = of_six 7 (omega arith) refl refl refl refl refl refl

numbered_8 : Numbered 8
numbered_8 = of_six 8 (omega arith) refl refl refl refl refl refl

pub numbered : (t s : List ℕ) (c p : ℕ) → Numbered (answer_of (outcome t s c p)).number
unfolding outcome
numbered t s c p = go (ltb longest (length s)) (well_formed_lem t) (reading_of t s)
  where
    fits : (r : Reading) (b d : Bool) → Numbered (answer_of (cond b (refused (counted more_controls r)) (cond d (refused (counted more_properties r)) (read r)))).number
    fits r true d = numbered_6
    fits r false true = numbered_7
    fits r false false = numbered_0

    go : (b d : Bool) (o : Option Reading) → Numbered (answer_of (cond b (refused (refusal too_long_lem)) (cond (not d) (refused (refusal bad_table)) (fit c p o)))).number
    go true d o = numbered_5
    go false false o = numbered_8
    go false true none = numbered_4
    go false true (some r) = fits r (ltb c (length r.controls)) (ltb p (length (properties r)))

-- ---- the record
few_of : (o : Outcome) → Few o → (length (controls_in o) ≤ longest) × (length (properties_in o) ≤ longest)
few_of (refused a) h = (omega arith, omega arith)
few_of (read r) h = (omega (arith, h), omega (arith, h))

module _ (in2000 : Bool) (o : Outcome) (few : Few o) (six : Numbered (answer_of o).number) where
  abbrev places : List ℕ
  places = outcome_places in2000 o ++ (answer_place (answer_of o).number ∷ [])

  abbrev words : List ℕ
  words = bumps (replicate 48 0) places

  words-many : length words ≡ 48
  words-many = bumps-length (replicate 48 0) places ∙ length-replicate {A = ℕ} 48 0

  counted-at : (k v : ℕ) → k < 48 → times k places ≡ v → v ≤ ceiling → get_or words k 0 ≡ v
  counted-at k v h e l =
      let z = zero-at 48 k in
      bumps_at (replicate 48 0) places k (omega (arith, length-replicate {A = ℕ} 48 0)) (omega (arith, z, e)) ∙ omega (arith, z, e)

  times_all : (k : ℕ) → times k places ≡ times k (outcome_places in2000 o) + (cond (eqb (answer_place (answer_of o).number) k) 1 0 + 0)
  unfolding how_many
  times_all k = many-append (λ i. eqb i k) (outcome_places in2000 o) (answer_place (answer_of o).number ∷ [])

  times_high : (k : ℕ) → 6 ≤ k → times k places ≡ times k (outcome_places in2000 o)
  times_high k h = times_all k ∙ rw (ne_eqb (answer_place (answer_of o).number) k (λ e. omega (arith, six.low, e))) (omega arith)

  of_types : (j : ℕ) → j < 31 → get_or words (6 + j) 0 ≡ how_many (is_typed (get_or types_counted j [])) (controls_in o)
  of_types j h =
      counted-at (6 + j) _ (omega arith) (times_high (6 + j) (omega arith) ∙ type_times in2000 o j h)
      (omega (arith, many-most (is_typed (get_or types_counted j [])) (controls_in o), (few_of o few).0))

  of_unmapped : get_or words 37 0 ≡ how_many (is_unmapped in2000) (properties_in o)
  of_unmapped = counted-at 37 _ (omega arith) (times_high 37 (omega arith) ∙ unmapped_times in2000 o) (omega (arith, many-most (is_unmapped in2000) (properties_in o), (few_of o few).1))

  of_mapped : get_or words 38 0 ≡ how_many (is_mapped in2000) (properties_in o)
  of_mapped = counted-at 38 _ (omega arith) (times_high 38 (omega arith) ∙ mapped_times in2000 o) (omega (arith, many-most (is_mapped in2000) (properties_in o), (few_of o few).1))

  of_marks : (j : ℕ) → j < 9 → get_or words (39 + j) 0 ≡ how_many (is_marked j) (properties_in o)
  of_marks j h = counted-at (39 + j) _ (omega arith) (times_high (39 + j) (omega arith) ∙ mark_times in2000 o j) (omega (arith, many-most (is_marked j) (properties_in o), (few_of o few).1))

  mark-there : (j : ℕ) → j < 9 → get_or marks_counted j 0 ≡ j
  mark-there zero h = refl
  mark-there (suc zero) h = refl
  mark-there (suc (suc zero)) h = refl
  mark-there (suc (suc (suc zero))) h = refl
  mark-there (suc (suc (suc (suc zero)))) h = refl
  mark-there (suc (suc (suc (suc (suc zero))))) h = refl
  mark-there (suc (suc (suc (suc (suc (suc zero)))))) h = refl
  mark-there (suc (suc (suc (suc (suc (suc (suc zero))))))) h = refl
  mark-there (suc (suc (suc (suc (suc (suc (suc (suc zero)))))))) h = refl
  mark-there (suc (suc (suc (suc (suc (suc (suc (suc (suc j))))))))) h = absurd (omega arith)

  of_answers : (j : ℕ) → j < 6 → get_or words (0 + j) 0 ≡ how_many (is_numbered (get_or answers_counted j 0)) (answer_of o ∷ [])
  unfolding how_many
  of_answers j h =
      let e : times j places ≡ cond (eqb (answer_of o).number (get_or answers_counted j 0)) 1 0 + 0
      = times_all j ∙ ap₂ (λ (n : ℕ) (b : Bool). n + (cond b 1 0 + 0)) (answer_times in2000 o j h) (six.same j h) ∙ omega arith in
      ap (λ (k : ℕ). get_or words k 0) (omega arith) ∙ counted-at j _ (omega arith) e (one (eqb (answer_of o).number (get_or answers_counted j 0)))
    where
      one : (b : Bool) → cond b 1 0 + 0 ≤ ceiling
      one true = omega arith
      one false = omega arith

  adds-are : laid words ≡ adds in2000 o
  unfolding laid adds
  adds-are =
      let a : take 6 (drop 0 words) ≡ tally is_numbered answers_counted (answer_of o ∷ []) = segment words 0 6 answers_counted 0 (λ n. how_many (is_numbered n) (answer_of o ∷ [])) refl (omega (arith, words-many)) of_answers in
      let t : take 31 (drop 6 words) ≡ tally is_typed types_counted (controls_in o) = segment words 6 31 types_counted [] (λ name. how_many (is_typed name) (controls_in o)) types-many (omega (arith, words-many)) of_types in
      let m : take 9 (drop 39 words) ≡ tally is_marked marks_counted (properties_in o) = segment words 39 9 marks_counted 0 (λ n. how_many (is_marked n) (properties_in o)) refl (omega (arith, words-many))
      (λ j h. of_marks j h ∙ ap (λ (k : ℕ). how_many (is_marked k) (properties_in o)) (sym (mark-there j h))) in
      λ i. record { answers = a i; types = t i; unmapped = of_unmapped i; mapped = of_mapped i; marks = m i }

-- ---- from what the code has counted
module _ {in2000 : Bool} {o : Outcome} {a : Answer} {now : List ℕ} (h : Tallied in2000 o (replicate 48 0) a now) {next : List ℕ} (e : next ≡ bump now (answer_place a.number)) (six : Numbered (answer_of o).number) where
  next-is : next ≡ bumps (replicate 48 0) (outcome_places in2000 o ++ (answer_place (answer_of o).number ∷ []))
  next-is =
      let one : (w : List ℕ) (i : ℕ) → bump w i ≡ bumps w (i ∷ []) = λ w i. (unfold bumps in refl) in
      e ∙ one now (answer_place a.number) ∙ ap₂ (λ (w : List ℕ) (x : Answer). bumps w (answer_place x.number ∷ [])) h.words_are h.answer-is
      ∙ sym (bumps-append (replicate 48 0) (outcome_places in2000 o) (answer_place (answer_of o).number ∷ []))

  pub next-many : length next ≡ 48
  next-many = ap length next-is ∙ words-many in2000 o h.few six

  pub next-adds : laid next ≡ adds in2000 o
  next-adds = ap laid next-is ∙ adds-are in2000 o h.few six

-- ---- all that a caller sees
module _ (old : Totals) (t s : List ℕ) (c p : ℕ) (words : List ℕ) (d : laid words ≡ adds (is2000 t s) (outcome t s c p)) where
  pub exit-no : within (sum old (laid words)) ≡ false → {a : Answer} → a ≡ refusal over_ceiling → ◌≡◌ {A = Totalled} (record { answer = a; totals = old }) (totals_exit old t s c p)
  unfolding totals_exit added_by
  exit-no e f = rw (sym (ap (λ (x : Totals). within (sum old x)) d) ∙ e) (ap (λ (b : Answer). record { answer = b; totals = old }) f)

  pub exit-yes : within (sum old (laid words)) ≡ true → {a : Answer} → a ≡ answer_of (outcome t s c p) → {next : Totals} → next ≡ sum old (laid words) → ◌≡◌ {A = Totalled} (record { answer = a; totals = next }) (totals_exit old t s c p)
  unfolding totals_exit added_by
  exit-yes e f g = rw (sym (ap (λ (x : Totals). within (sum old x)) d) ∙ e) (λ i. record { answer = f i; totals = (g ∙ ap (sum old) d) i })
