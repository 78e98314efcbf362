-- The reader of each layout, and how the choice by the first byte agrees with them.
use Prim.Native.Nat.{ℕ, ◌≤◌}
use native.Mathlib.Omega.{arith}
use mathlib.Core.Path.{◌≡◌, refl, sym, ap, ◌∙◌}
use mathlib.Core.Bool.{Bool, true, false, cond, ◌&&◌}
use mathlib.Core.List.{List}
use borrow.Author.Tests.{ltb-true, ltb-false, lt-ltb, le-ltb, ne_eqb}
use lib.Dec.{ltb, eqb}
use lib.ListN.{length}
use Rattle.rules.specs.Bytes.{Bytes, byte}
use Rattle.rules.specs.Answer.{refusal, too_long_lem, other_layout, more_controls, more_properties, longest}
use Rattle.rules.specs.CodeTable.{layout, well_formed_lem}
use Rattle.rules.specs.Rows.{control_width, property_width, room}
use Rattle.rules.specs.Reading.{Reading, properties}
use Rattle.rules.specs.ReadLater.{read_later_lem}
use Rattle.rules.specs.Blob.{refused, read, answer_of, counted, speaks2000, is2000, reading_of, outcome, exit_by_lem, exit, outcome2000, outcome_later, exit2000, exit_later}
use Rattle.rules.specs.declared.Answer.{Answer}
use Rattle.claims.specs.Answers.{Judged}
use Rattle.claims.specs.Readers.{Answer2000, AnswerLater, Reads, NotMine, Agree, Wish8}
use Rattle.claims.proofs.Answers.{exactly, blob_right, blob-told}
use Rattle.claims.proofs.Demand1.{stays}

-- ---- the reader of Access 2000 streams
module _ (t s cs ps : List ℕ) where
  abbrev c : ℕ
  c = room control_width cs

  abbrev p : ℕ
  p = room property_width ps

  -- where the first byte speaks for it, and where the table isn't well formed, it is the choice
  pub spoken_2000 : is2000 t s ≡ true → outcome2000 t s c p ≡ outcome t s c p
  unfolding outcome2000 outcome reading_of
  spoken_2000 e = rw e

  bad_2000 : well_formed_lem t ≡ false → outcome2000 t s c p ≡ outcome t s c p
  unfolding outcome2000 outcome
  bad_2000 e = rw e

  -- else it is 15
  pub unspoken_2000 : Judged t s → is2000 t s ≡ false → outcome2000 t s c p ≡ refused (refusal other_layout)
  unfolding outcome2000
  unspoken_2000 j e = rw (le-ltb longest (length s) j.not_long, j.formed, e)

  right_2000 : (a : Answer) → Answer2000 t s cs ps a → a ≡ answer_of (outcome2000 t s c p)
  unfolding outcome2000
  right_2000 _ (Answer2000.five h) = sym (rw (lt-ltb longest (length s) (omega arith)))
  right_2000 _ (Answer2000.eight h k) = sym (rw (le-ltb longest (length s) (omega arith), k))
  right_2000 _ (Answer2000.fifteen j e) = sym (ap answer_of (unspoken_2000 j e))
  right_2000 a (Answer2000.chosen j e b) = blob_right t s cs ps a b ∙ sym (ap answer_of (spoken_2000 e))

  judged : ltb longest (length s) ≡ false → well_formed_lem t ≡ true → Judged t s
  judged h k = record { not_long = ltb-false _ _ h; formed = k }

  told_2000 : Answer2000 t s cs ps (answer_of (outcome2000 t s c p))
  told_2000 = go (ltb longest (length s)) (well_formed_lem t) (is2000 t s) refl refl refl
    where
      long : ltb longest (length s) ≡ true → answer_of (outcome2000 t s c p) ≡ refusal 5
      long h = sym (right_2000 (refusal 5) (Answer2000.five (ltb-true _ _ h)))

      bad : ltb longest (length s) ≡ false → well_formed_lem t ≡ false → answer_of (outcome2000 t s c p) ≡ refusal 8
      bad h k = sym (right_2000 (refusal 8) (Answer2000.eight (ltb-false _ _ h) k))

      go : (b d e : Bool) → ltb longest (length s) ≡ b → well_formed_lem t ≡ d → is2000 t s ≡ e → Answer2000 t s cs ps (answer_of (outcome2000 t s c p))
      go true d e h k l = rw (long h) (Answer2000.five (ltb-true _ _ h))
      go false false e h k l = rw (bad h k) (Answer2000.eight (ltb-false _ _ h) k)
      go false true false h k l = rw (unspoken_2000 (judged h k) l) (Answer2000.fifteen (judged h k) l)
      go false true true h k l = rw (spoken_2000 l) (Answer2000.chosen (judged h k) l (blob-told t s cs ps))

  reads_2000 : Reads (Answer2000 t s cs ps) cs ps (exit2000 t s cs ps)
  unfolding exit2000
  reads_2000 = record {
    exactly = exactly right_2000 told_2000;
    controls_stay = λ h. (stays (outcome2000 t s c p) cs ps h).0;
    properties_stay = λ h. (stays (outcome2000 t s c p) cs ps h).1;
  }

-- ---- the reader of later streams
module _ (l : ℕ) (s cs ps : List ℕ) where
  abbrev cl : ℕ
  cl = room control_width cs

  abbrev pl : ℕ
  pl = room property_width ps

  abbrev r : Reading
  r = read_later_lem s

  right_later : (a : Answer) → AnswerLater l s cs ps a → a ≡ answer_of (outcome_later l s cl pl)
  unfolding outcome_later
  right_later _ (AnswerLater.five h) = sym (rw (lt-ltb longest (length s) (omega arith)))
  right_later _ (AnswerLater.fifteen h e) = sym (rw (le-ltb longest (length s) (omega arith), e))
  right_later _ (AnswerLater.six h e k) = sym (rw (le-ltb longest (length s) (omega arith), e, lt-ltb cl (length r.controls) k))
  right_later _ (AnswerLater.seven h e k m) = sym (rw (le-ltb longest (length s) (omega arith), e, le-ltb cl (length r.controls) k, lt-ltb pl (length (properties r)) m))
  right_later _ (AnswerLater.zero h e k m) = sym (rw (le-ltb longest (length s) (omega arith), e, le-ltb cl (length r.controls) k, le-ltb pl (length (properties r)) m))

  told-later : AnswerLater l s cs ps (answer_of (outcome_later l s cl pl))
  unfolding outcome_later
  told-later = go (ltb longest (length s)) (speaks2000 l s) (ltb cl (length r.controls)) (ltb pl (length (properties r))) refl refl refl refl
    where
      go : (b d e f : Bool) → ltb longest (length s) ≡ b → speaks2000 l s ≡ d → ltb cl (length r.controls) ≡ e → ltb pl (length (properties r)) ≡ f
          → AnswerLater l s cs ps (answer_of (cond b (refused (refusal too_long_lem)) (cond d (refused (refusal other_layout))
          (cond e (refused (counted more_controls r)) (cond f (refused (counted more_properties r)) (read r))))))
      go true d e f h k m n = AnswerLater.five (ltb-true _ _ h)
      go false true e f h k m n = AnswerLater.fifteen (ltb-false _ _ h) k
      go false false true f h k m n = AnswerLater.six (ltb-false _ _ h) k (ltb-true _ _ m)
      go false false false true h k m n = AnswerLater.seven (ltb-false _ _ h) k (ltb-false _ _ m) (ltb-true _ _ n)
      go false false false false h k m n = AnswerLater.zero (ltb-false _ _ h) k (ltb-false _ _ m) (ltb-false _ _ n)

  reads-later : Reads (AnswerLater l s cs ps) cs ps (exit_later l s cs ps)
  unfolding exit_later
  reads-later = record {
    exactly = exactly right_later told-later;
    controls_stay = λ h. (stays (outcome_later l s cl pl) cs ps h).0;
    properties_stay = λ h. (stays (outcome_later l s cl pl) cs ps h).1;
  }

  -- of its table of answers
  no_8_in : (a : Answer) → AnswerLater l s cs ps a → ¬ (a.number ≡ 8)
  no_8_in _ (AnswerLater.five h) q = omega arith
  no_8_in _ (AnswerLater.fifteen h e) q = omega arith
  no_8_in _ (AnswerLater.six h e k) q = omega arith
  no_8_in _ (AnswerLater.seven h e k m) q = omega arith
  no_8_in _ (AnswerLater.zero h e k m) q = omega arith

  no_4_in : (a : Answer) → AnswerLater l s cs ps a → ¬ (a.number ≡ 4)
  no_4_in _ (AnswerLater.five h) q = omega arith
  no_4_in _ (AnswerLater.fifteen h e) q = omega arith
  no_4_in _ (AnswerLater.six h e k) q = omega arith
  no_4_in _ (AnswerLater.seven h e k m) q = omega arith
  no_4_in _ (AnswerLater.zero h e k m) q = omega arith

  no_15_in : speaks2000 l s ≡ false → (a : Answer) → AnswerLater l s cs ps a → ¬ (a.number ≡ 15)
  no_15_in z _ (AnswerLater.five h) q = omega arith
  no_15_in z _ (AnswerLater.fifteen h e) q = let x : true ≡ false = sym e ∙ z in let y : ◌≡◌ {A = ℕ} 0 1 = cc in omega arith
  no_15_in z _ (AnswerLater.six h e k) q = omega arith
  no_15_in z _ (AnswerLater.seven h e k m) q = omega arith
  no_15_in z _ (AnswerLater.zero h e k m) q = omega arith

  large : Bytes s → 256 ≤ l → speaks2000 l s ≡ false
  large b h = let n : byte s 0 ≡ l → ⊥ = λ e. omega (arith, b 0) in go (ltb 0 (length s)) (ne_eqb (byte s 0) l n)
    where
      go : (x : Bool) → eqb (byte s 0) l ≡ false → (x && eqb (byte s 0) l) ≡ false
      go true e = e
      go false e = refl

-- ---- the readers and the choice
module _ (t s cs ps : List ℕ) where
  spoken_later : is2000 t s ≡ false → well_formed_lem t ≡ true → exit t s cs ps ≡ exit_later (layout t) s cs ps
  unfolding exit exit_later outcome outcome_later reading_of is2000
  spoken_later e f = rw (f, e)

  unspoken_later : is2000 t s ≡ true → length s ≤ longest → exit_later (layout t) s cs ps ≡ exit_by_lem (refused (refusal other_layout)) cs ps
  unfolding exit_later outcome_later is2000
  unspoken_later e h = rw (le-ltb longest (length s) h, e)

  not_mine : NotMine cs ps (exit_by_lem (refused (refusal other_layout)) cs ps)
  not_mine = let k = stays (refused (refusal other_layout)) cs ps (λ q. omega arith) in record { answer = refl; controls_stay = k.0; properties_stay = k.1 }

  agree : Agree t s cs ps (exit t s cs ps) (exit2000 t s cs ps) (exit_later (layout t) s cs ps)
  unfolding exit exit2000
  agree = record {
    for_2000 = λ e. sym (ap (λ o. exit_by_lem o cs ps) (spoken_2000 t s cs ps e));
    not_later = λ e h. rw (unspoken_later e (omega arith)) not_mine;
    for_later = spoken_later;
    not_2000 = λ e j. rw (unspoken_2000 t s cs ps j e) not_mine;
    bad_table_lem = λ e. sym (ap (λ o. exit_by_lem o cs ps) (bad_2000 t s cs ps e));
  }

pub wish8 : Wish8
unfolding exit_later
wish8 = record {
  reads_2000 = reads_2000;
  reads-later = reads-later;
  agree = agree;
  never_8 = λ l s cs ps. no_8_in l s cs ps _ (told-later l s cs ps);
  never_4 = λ l s cs ps. no_4_in l s cs ps _ (told-later l s cs ps);
  above_255 = λ l s cs ps b h. no_15_in l s cs ps (large l s cs ps b h) _ (told-later l s cs ps);
}
