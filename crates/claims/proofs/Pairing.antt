-- Pairing does what wish 2 asks.
use Prim.Native.Nat.{ℕ, zero, suc, ◌+◌, ◌*◌, ◌≤◌, ◌<◌}
use native.Mathlib.Omega.{arith}
use mathlib.Core.Path.{◌≡◌, refl, sym, ap, ap₂, subst, ◌∙◌}
use mathlib.Core.Bool.{Bool, true, false, not, cond, ◌&&◌, ◌||◌, true≢false}
use mathlib.Core.List.{List, [], ◌∷◌, map}
use mathlib.Core.Logic.{◌↔◌, ◌⊎◌, inl, inr}
use mathlib.Core.Option.{Option, none, some}
use borrow.Author.Tests.{ltb-true, lt-ltb, leb-true, leb-false, le-leb, eqb-true, eqb-false, eq-eqb, ne_eqb}
use lib.Dec.{ltb, leb, eqb}
use lib.ListN.{length, get_or}
use lib.Seq.{length-sets}
use Rattle.rules.specs.Lists.{◌>>=◌, concat, all, find, same}
use Rattle.rules.specs.Bytes.{byte, u16}
use Rattle.rules.specs.Answer.{answer, refusal, too_long_lem, bad_table, other_layout, longest}
use Rattle.rules.specs.Texts.{label}
use Rattle.rules.specs.CodeTable.{well_formed_lem}
use Rattle.rules.specs.Access2000.{stream_of}
use Rattle.rules.specs.ReadLater.{read_later_lem}
use Rattle.rules.specs.Rows.{control_width, property_width, type_info_width, room, row_at, written, rows_from}
use Rattle.rules.specs.TypeInfo.{TypeInfoExit, type_info_rows, type_info_answer, type_info_exit}
use Rattle.rules.specs.Blob.{Exit, refused, speaks2000, is2000, read_by, reading_of, fit, outcome, answer_of, controls_shown, exit_by_lem, exit, outcome2000, outcome_later, exit2000, exit_later}
use Rattle.rules.specs.Pairing.{controls_in, infos_in, type_of, mark_of, start_of, size_of, cut_of, named_bytes, units_in, control_name_lem, is_ascii_lem, folded, names_match, name_matches, has_name, type_by, paired_type, types_set, is_named, control_ok, may_pair, PairExit, pair_exit}
use Rattle.rules.specs.declared.Answer.{Answer}
use Rattle.rules.proofs.ListLaws.{and_l, and_r, none_some}
use Rattle.rules.proofs.OpenBytes.{bytes_open}
use Rattle.rules.proofs.OpenTables.{tables_open}
use Rattle.rules.proofs.PairingLaws.{Fair, fair, may_pair_lem, lent, pair-yes, pair-no, pair-again, rows_all, all-rows, Found, found, as_long, other_stays, type-set}
use Rattle.joinlaws.proofs.JoinedLaws.{same_true}
use Rattle.claims.specs.Answers.{BlobAnswer, TypeInfoAnswer}
use Rattle.claims.specs.CutNames.{CutRow}
use Rattle.claims.specs.Demand1.{Refused}
use Rattle.claims.specs.RowChecks.{name_mark, name_start, name_length, Named}
use Rattle.claims.specs.Pairing.{WhollyAscii, Match, Units, NameOf, SameName, BadRows, PairAnswer, Typed, Paired, Pairs, NeverRefused, Wish2}
use Rattle.claims.proofs.Answers.{exactly, blob-told, info_told}
use Rattle.claims.proofs.RowChecks.{row-checks}
use Rattle.claims.proofs.CutNames.{wish6}

-- ---- names
ascii_is : (a : List ℕ) → all is_ascii_lem a ≡ true → WhollyAscii a
unfolding all
ascii_is [] e i u = absurd (omega arith)
ascii_is (x ∷ a) e zero u = ltb-true x 128 (and_l (is_ascii_lem x) (all is_ascii_lem a) e)
ascii_is (x ∷ a) e (suc i) u = ascii_is a (and_r (is_ascii_lem x) (all is_ascii_lem a) e) i (omega arith)

is_ascii : (a : List ℕ) → WhollyAscii a → all is_ascii_lem a ≡ true
unfolding all
is_ascii [] h = refl
is_ascii (x ∷ a) h = rw (lt-ltb x 128 (h 0 (omega arith))) (is_ascii a (λ i u. h (suc i) (omega arith)))

same_itself : (a : List ℕ) → same a a ≡ true
unfolding same
same_itself [] = refl
same_itself (x ∷ a) = rw (eq-eqb x x refl) (same_itself a)

names : (a b : List ℕ) → (names_match a b ≡ true) ↔ Match a b
unfolding names_match
names a b = (
  λ e. record {
    one_ascii = ascii_is a (search (and_l, and_r));
    other_ascii = ascii_is b (search (and_l, and_r));
    equal_folded = same_true (map folded a) (map folded b) (search (and_l, and_r));
  },
  λ m. rw (is_ascii a m.one_ascii, is_ascii b m.other_ascii, m.equal_folded) (same_itself (map folded b)),
)

-- ---- units
-- after two bytes every unit stands two places further on
unit_next : (a b : ℕ) (s : List ℕ) (i : ℕ) → u16 (a ∷ b ∷ s) (2 * suc i) ≡ u16 s (2 * i)
unfolding u16
unit_next a b s i =
    let low : 2 * suc i ≡ suc (suc (2 * i)) = omega arith in
    let high : 2 * suc i + 1 ≡ suc (suc (2 * i + 1)) = omega arith in
    ap₂ (λ (j k : ℕ). get_or (a ∷ b ∷ s) j 0 + 256 * get_or (a ∷ b ∷ s) k 0) low high

more_units : (a b : ℕ) (s us : List ℕ) → Units s us → Units (a ∷ b ∷ s) ((a + 256 * b) ∷ us)
more_units a b s us h = record { even = let q = h.even in omega arith; each = each }
  where
    first : a + 256 * b ≡ u16 (a ∷ b ∷ s) 0
    first = unfold u16 in refl

    each : (i : ℕ) → i < length ((a + 256 * b) ∷ us) → get_or ((a + 256 * b) ∷ us) i 0 ≡ u16 (a ∷ b ∷ s) (2 * i)
    each zero u = first
    each (suc i) u = h.each i (omega arith) ∙ sym (unit_next a b s i)

units_are : (bytes units : List ℕ) → units_in bytes ≡ some units → Units bytes units
unfolding units_in
units_are [] units e =
    let q : [] ≡ units = cc in
    let h : Units [] [] = record { even = refl; each = λ i u. absurd (omega arith) } in
    subst (Units []) q h
units_are (a ∷ []) units e = absurd (none_some e)
units_are (a ∷ b ∷ s) units e = go (units_in s) refl e (units_are s)
  where
    go : (o : Option (List ℕ)) → units_in s ≡ o → (o >>= λ us. some ((a + 256 * b) ∷ us)) ≡ some units → ((us : List ℕ) → units_in s ≡ some us → Units s us) → Units (a ∷ b ∷ s) units
    go none q e rest = absurd (none_some e)
    go (some us) q e rest = let z : (a + 256 * b) ∷ us ≡ units = cc in rw z at (more_units a b s us (rest us q))

fewer_units : (a b x : ℕ) (s us : List ℕ) → Units (a ∷ b ∷ s) (x ∷ us) → Units s us
fewer_units a b x s us h = record {
  even = let q = h.even in omega arith;
  each = λ i u. h.each (suc i) (omega arith) ∙ unit_next a b s i;
}

are_units : (bytes units : List ℕ) → Units bytes units → units_in bytes ≡ some units
unfolding units_in u16
are_units [] [] h = refl
are_units [] (x ∷ us) h = absurd (omega (arith, h.even))
are_units (a ∷ []) us h = absurd (omega (arith, h.even))
are_units (a ∷ b ∷ s) [] h = absurd (omega (arith, h.even))
are_units (a ∷ b ∷ s) (x ∷ us) h =
    rw (are_units s us (fewer_units a b x s us h))
    (let q : a + 256 * b ≡ x = sym (h.each 0 (omega arith)) in ap (λ (y : ℕ). some (y ∷ us)) q)

-- ---- the same name
-- what the definition takes as a control's name, where the mark is one of the three
module _ (s control : List ℕ) where
  named : mark_of control ≤ 2 → (name : List ℕ) → control_name_lem s control ≡ some name → NameOf s control name
  unfolding control_name_lem
  named mark name e = go (eqb (mark_of control) 0) (eqb (mark_of control) 1) refl refl e
    where
      go : (a b : Bool) → eqb (mark_of control) 0 ≡ a → eqb (mark_of control) 1 ≡ b
          → cond a (units_in (named_bytes s control)) (cond b (some (label (start_of control))) (some (named_bytes s control))) ≡ some name → NameOf s control name
      go true b h k e = NameOf.text (eqb-true (mark_of control) 0 h) (units_are (named_bytes s control) name e)
      go false true h k e = let q : label (start_of control) ≡ name = cc in subst (NameOf s control) q (NameOf.numbered (eqb-true (mark_of control) 1 k))
      go false false h k e =
          let q : named_bytes s control ≡ name = cc in
          let m : mark_of control ≡ 2 = let z = eqb-false (mark_of control) 0 h in let o = eqb-false (mark_of control) 1 k in omega arith in
          subst (NameOf s control) q (NameOf.loose m)

  is-named : (name : List ℕ) → NameOf s control name → control_name_lem s control ≡ some name
  unfolding control_name_lem
  is-named name (NameOf.text mark units) = rw mark (are_units (named_bytes s control) name units)
  is-named _ (NameOf.numbered mark) = rw mark
  is-named _ (NameOf.loose mark) = rw mark

name-is : (s t control info : List ℕ) → mark_of control ≤ 2 → has_name t (control_name_lem s control) info ≡ true → SameName s t control info
unfolding has_name
name-is s t control info mark e = go (control_name_lem s control) refl (and_r (eqb (cut_of info) 0) (name_matches (control_name_lem s control) (named_bytes t info)) e)
  where
    go : (o : Option (List ℕ)) → control_name_lem s control ≡ o → name_matches o (named_bytes t info) ≡ true → SameName s t control info
    go none q h = absurd (true≢false (sym h))
    go (some name) q h = record {
      name = name;
      its-name = named s control mark name q;
      whole = eqb-true (cut_of info) 0 (and_l (eqb (cut_of info) 0) (name_matches (control_name_lem s control) (named_bytes t info)) e);
      match = (names name (named_bytes t info)).0 h;
    }

is_name : (s t control info : List ℕ) → SameName s t control info → has_name t (control_name_lem s control) info ≡ true
unfolding has_name
is_name s t control info h = rw (eq-eqb (cut_of info) 0 h.whole, is-named s control h.name h.its-name) ((names h.name (named_bytes t info)).1 h.match)

no_name : (s t control info : List ℕ) → has_name t (control_name_lem s control) info ≡ false → ¬ SameName s t control info
no_name s t control info e h = true≢false (sym (is_name s t control info h) ∙ e)

-- ---- judged
-- one that fails
not_all : (p : List ℕ → Bool) (w i n : ℕ) (l : List ℕ) → all p (rows_from w i n l) ≡ false → (k : ℕ) × (k < n) × (p (row_at w (i + k) l) ≡ false)
unfolding all rows_from
not_all p w i zero l e = absurd (true≢false e)
not_all p w i (suc n) l e = go (p (row_at w i l)) refl e (not_all p w (i + 1) n l)
  where
    go : (b : Bool) → p (row_at w i l) ≡ b → (b && all p (rows_from w (i + 1) n l)) ≡ false → (all p (rows_from w (i + 1) n l) ≡ false → (k : ℕ) × (k < n) × (p (row_at w (i + 1 + k) l) ≡ false))
        → (k : ℕ) × (k < suc n) × (p (row_at w (i + k) l) ≡ false)
    go false q e rest = (0, omega arith, ap (λ (j : ℕ). p (row_at w j l)) (omega arith) ∙ q)
    go true q e rest = let r = rest e in (suc r.0, omega (arith, r.1), ap (λ (j : ℕ). p (row_at w j l)) (omega arith) ∙ r.2)

row_zero : (w k : ℕ) (l : List ℕ) → row_at w (0 + k) l ≡ row_at w k l
row_zero w k l = ap (λ (j : ℕ). row_at w j l) (omega arith)

module _ (s controls : List ℕ) (n : ℕ) (t infos : List ℕ) (m : ℕ) where
  abbrev seen : PairExit
  seen = pair_exit s controls n t infos m

  abbrev Bad : Type 0
  Bad = BadRows s controls n t infos m

  bad_control : (k : ℕ) → k < n → control_ok s (row_at control_width k controls) ≡ false → Bad
  bad_control k u e = go (leb (mark_of row) 2) (eqb (mark_of row) 1) (is_named s row) refl refl refl e
    where
      row : List ℕ
      row = row_at control_width k controls

      go : (a b c : Bool) → leb (mark_of row) 2 ≡ a → eqb (mark_of row) 1 ≡ b → is_named s row ≡ c → (a && (b || c)) ≡ false → Bad
      go false b c h i j e = BadRows.mark-above_2 k u (leb-false (mark_of row) 2 h)
      go true true c h i j e = absurd (true≢false e)
      go true false true h i j e = absurd (true≢false e)
      go true false false h i j e = BadRows.control_outside k u (eqb-false (mark_of row) 1 i) (leb-false (start_of row + size_of row) (length s) j)

  bad : may_pair s controls n t infos m ≡ false → Bad
  unfolding may_pair
  bad e = go (leb n (room control_width controls)) (leb m (room type_info_width infos)) (all (control_ok s) (controls_in n controls)) (all (is_named t) (infos_in m infos)) refl refl refl refl e
    where
      go : (a b c d : Bool) → leb n (room control_width controls) ≡ a → leb m (room type_info_width infos) ≡ b
          → all (control_ok s) (controls_in n controls) ≡ c → all (is_named t) (infos_in m infos) ≡ d → (a && b && c && d) ≡ false → Bad
      go false b c d h i j k e = BadRows.more-controls (leb-false n (room control_width controls) h)
      go true false c d h i j k e = BadRows.more-infos (leb-false m (room type_info_width infos) i)
      go true true false d h i j k e =
          let r = not_all (control_ok s) control_width 0 n controls j in
          bad_control r.0 r.1 (ap (control_ok s) (sym (row_zero control_width r.0 controls)) ∙ r.2)
      go true true true false h i j k e =
          let r = not_all (is_named t) type_info_width 0 m infos k in
          BadRows.info_outside r.0 r.1 (leb-false _ (length t) (ap (is_named t) (sym (row_zero type_info_width r.0 infos)) ∙ r.2))
      go true true true true h i j k e = absurd (true≢false e)

  ok_at : Fair s controls n t infos m → (k : ℕ) → k < n → control_ok s (row_at control_width k controls) ≡ true
  ok_at f k u = ap (control_ok s) (sym (row_zero control_width k controls)) ∙ all-rows (control_ok s) control_width controls 0 n f.controls-ok k u

  mark-by : (row : List ℕ) → control_ok s row ≡ true → mark_of row ≤ 2
  mark-by row e = leb-true (mark_of row) 2 (and_l (leb (mark_of row) 2) (eqb (mark_of row) 1 || is_named s row) e)

  named_by : (row : List ℕ) → control_ok s row ≡ true → ¬ (mark_of row ≡ 1) → start_of row + size_of row ≤ length s
  named_by row e h = go (eqb (mark_of row) 1) refl (and_r (leb (mark_of row) 2) (eqb (mark_of row) 1 || is_named s row) e)
    where
      go : (b : Bool) → eqb (mark_of row) 1 ≡ b → (b || is_named s row) ≡ true → start_of row + size_of row ≤ length s
      go true q e = absurd (h (eqb-true (mark_of row) 1 q))
      go false q e = leb-true _ _ e

  not_bad : Fair s controls n t infos m → ¬ Bad
  not_bad f (BadRows.more-controls h) = let l = f.controls-lent in omega arith
  not_bad f (BadRows.more-infos h) = let l = f.infos-lent in omega arith
  not_bad f (BadRows.mark-above_2 k u h) =
      let l : mark_of (row_at control_width k controls) ≤ 2 = mark-by (row_at control_width k controls) (ok_at f k u) in omega arith
  not_bad f (BadRows.control_outside k u h o) = let l = named_by (row_at control_width k controls) (ok_at f k u) h in omega arith
  not_bad f (BadRows.info_outside k u o) =
      let l : start_of (row_at type_info_width k infos) + size_of (row_at type_info_width k infos) ≤ length t = leb-true _ _ (ap (is_named t) (sym (row_zero type_info_width k infos)) ∙ all-rows (is_named t) type_info_width infos 0 m f.infos-ok k u) in omega arith

  right : (a : Answer) → PairAnswer s controls n t infos m a → a ≡ seen.answer
  right _ (PairAnswer.eleven h) = go (may_pair s controls n t infos m) refl
    where
      go : (b : Bool) → may_pair s controls n t infos m ≡ b → refusal 11 ≡ seen.answer
      go true e = absurd (not_bad (fair s controls n t infos m e) h)
      go false e = sym (ap (λ e. e.answer) (pair-no s controls n t infos m e))
  right _ (PairAnswer.zero h) = go (may_pair s controls n t infos m) refl
    where
      go : (b : Bool) → may_pair s controls n t infos m ≡ b → answer 0 0 0 0 ≡ seen.answer
      go true e = sym (ap (λ e. e.answer) (pair-yes s controls n t infos m e))
      go false e = absurd (h (bad e))

  told : PairAnswer s controls n t infos m seen.answer
  told = go (may_pair s controls n t infos m) refl
    where
      go : (b : Bool) → may_pair s controls n t infos m ≡ b → PairAnswer s controls n t infos m seen.answer
      go true e = subst (λ x. PairAnswer s controls n t infos m x.answer) (sym (pair-yes s controls n t infos m e)) (PairAnswer.zero (not_bad (fair s controls n t infos m e)))
      go false e = subst (λ x. PairAnswer s controls n t infos m x.answer) (sym (pair-no s controls n t infos m e)) (PairAnswer.eleven (bad e))

  controls_stay : Refused seen.answer → seen.controls ≡ controls
  controls_stay h = go (may_pair s controls n t infos m) refl
    where
      go : (b : Bool) → may_pair s controls n t infos m ≡ b → seen.controls ≡ controls
      go true e = absurd (h (ap (λ x. x.answer.number) (pair-yes s controls n t infos m e)))
      go false e = ap (λ x. x.controls) (pair-no s controls n t infos m e)

  -- ---- the rows
  typed : (control : List ℕ) → mark_of control ≤ 2 → Typed s t control infos m (paired_type s t (infos_in m infos) control)
  unfolding paired_type
  typed control mark = go (find (has_name t (control_name_lem s control)) (infos_in m infos)) (found (has_name t (control_name_lem s control)) type_info_width infos m)
    where
      go : (o : Option (List ℕ)) → Found (has_name t (control_name_lem s control)) type_info_width infos m o → Typed s t control infos m (type_by (type_of control) o)
      go _ (Found.at j u e before) =
          Typed.first_of_name j u (name-is s t control (row_at type_info_width j infos) mark e) (λ i v. no_name s t control (row_at type_info_width i infos) (before i (omega arith)))
      go _ (Found.nowhere h) = Typed.none_of_name (λ j u. no_name s t control (row_at type_info_width j infos) (h j u))

  now_paired : Fair s controls n t infos m → Paired s controls n t infos m (types_set s t (infos_in m infos) n controls)
  now_paired f = record {
    types = λ k u. subst (Typed s t (row_at control_width k controls) infos m) (sym (type-set s t (infos_in m infos) controls n (lent s controls n t infos m f) k u)) (typed (row_at control_width k controls) (mark-by (row_at control_width k controls) (ok_at f k u)));
    others = other_stays s t (infos_in m infos) controls n;
    as_long = as_long s t (infos_in m infos) controls n;
  }

  paired : seen.answer.number ≡ 0 → Paired s controls n t infos m seen.controls
  paired h = go (may_pair s controls n t infos m) refl
    where
      go : (b : Bool) → may_pair s controls n t infos m ≡ b → Paired s controls n t infos m seen.controls
      go true e = subst (λ x. Paired s controls n t infos m x.controls) (sym (pair-yes s controls n t infos m e)) (now_paired (fair s controls n t infos m e))
      go false e = let q : seen.answer.number ≡ 11 = ap (λ x. x.answer.number) (pair-no s controls n t infos m e) in absurd (omega arith)

  pairs : Pairs s controls n t infos m seen
  pairs = record { exactly = exactly right told; controls_stay = controls_stay; paired = paired }

-- ---- rows that were read
read_ok : (s row : List ℕ) → mark_of row ≤ 2 → (Named (mark_of row) → start_of row + size_of row ≤ length s) → control_ok s row ≡ true
read_ok s row mark inside = rw (le-leb (mark_of row) 2 mark) (go (eqb (mark_of row) 1) refl)
  where
    either : ¬ (mark_of row ≡ 1) → Named (mark_of row)
    either h = by (eqb (mark_of row) 0) refl
      where
        by : (b : Bool) → eqb (mark_of row) 0 ≡ b → Named (mark_of row)
        by true q = inl (eqb-true (mark_of row) 0 q)
        by false q = inr (let z = eqb-false (mark_of row) 0 q in omega arith)

    go : (b : Bool) → eqb (mark_of row) 1 ≡ b → (b || is_named s row) ≡ true
    go true q = refl
    go false q = le-leb _ _ (inside (either (eqb-false (mark_of row) 1 q)))

info_ok : (t : List ℕ) (info : TypeInfoExit) (k : ℕ) → CutRow t info k → is_named t (row_at type_info_width k info.rows) ≡ true
info_ok t info k c = le-leb _ _ (go c.either)
  where
    row : List ℕ
    row = row_at type_info_width k info.rows

    go : (cut_of row ≡ 0) ⊎ (cut_of row ≡ 1) → start_of row + size_of row ≤ length t
    go (inl e) = let l : start_of row + size_of row < length t = (c.at_nul.0 e).0 in omega arith
    go (inr e) = let l : start_of row + size_of row ≡ length t = c.at-end.0 e in omega arith

-- their numbers are those of rows lent
module _ (t s cs ps : List ℕ) where
  blob-room : (a : Answer) → BlobAnswer t s cs ps a → a.number ≡ 0 → a.first ≤ room control_width cs
  blob-room _ (BlobAnswer.five h) e = absurd (omega arith)
  blob-room _ (BlobAnswer.eight h k) e = absurd (omega arith)
  blob-room _ (BlobAnswer.four h k l) e = absurd (omega arith)
  blob-room _ (BlobAnswer.six h k l) e = absurd (omega arith)
  blob-room _ (BlobAnswer.seven h k l i) e = absurd (omega arith)
  blob-room _ (BlobAnswer.zero h k l i) e = l

  as_many : length (exit t s cs ps).controls ≡ length cs
  unfolding exit
  as_many = length-sets cs 0 (concat (controls_shown (outcome t s (room control_width cs) (room property_width ps))))

module _ (t rows : List ℕ) where
  info_room_lem : (a : Answer) → TypeInfoAnswer t rows a → a.number ≡ 0 → a.first ≤ room type_info_width rows
  info_room_lem _ (TypeInfoAnswer.five h) e = absurd (omega arith)
  info_room_lem _ (TypeInfoAnswer.one h) e = absurd (omega arith)
  info_room_lem _ (TypeInfoAnswer.two h k l) e = absurd (omega arith)
  info_room_lem _ (TypeInfoAnswer.three h k l i) e = absurd (omega arith)
  info_room_lem _ (TypeInfoAnswer.six h k) e = absurd (omega arith)
  info_room_lem _ (TypeInfoAnswer.zero h k) e = k

  as_many-infos : length (type_info_exit t rows).rows ≡ length rows
  unfolding type_info_exit
  as_many-infos = go (eqb (type_info_answer t (room type_info_width rows)).number 0)
    where
      go : (b : Bool) → length (cond b (written (type_info_rows t) rows) rows) ≡ length rows
      go true = length-sets rows 0 (concat (type_info_rows t))
      go false = refl

-- the words of a reader's rows, whatever the layout
pub record Read (s : List ℕ) (blob : Exit) : Type 0 where
  pub lent : blob.answer.first ≤ room control_width blob.controls
  pub marks : (k : ℕ) → k < blob.answer.first → name_mark blob k ≤ 2
  pub inside : (k : ℕ) → k < blob.answer.first → Named (name_mark blob k) → name_start blob k + name_length blob k ≤ length s

blob-read : (table s cs ps : List ℕ) → (exit table s cs ps).answer.number ≡ 0 → Read s (exit table s cs ps)
unfolding exit
blob-read table s cs ps e =
    let checks = row-checks.checks table s cs ps e in
    let room-left = blob-room table s cs ps (exit table s cs ps).answer (blob-told table s cs ps) e in
    record { lent = omega (arith, as_many table s cs ps); marks = checks.name-mark; inside = checks.name-inside }

never : (s t rows : List ℕ) (blob : Exit) → (blob.answer.number ≡ 0 → Read s blob) → NeverRefused s t blob (type_info_exit t rows)
unfolding type_info_exit
never s t rows blob by e i =
    let judged : Fair s blob.controls blob.answer.first t info.rows info.answer.first = record {
      controls-lent = read.lent;
      infos-lent = let l = info_room_lem t rows info.answer (info_told t rows) i in omega (arith, as_many-infos t rows);
      controls-ok = rows_all (control_ok s) control_width blob.controls 0 blob.answer.first λ k u.
          ap (control_ok s) (row_zero control_width k blob.controls) ∙ read_ok s (row_at control_width k blob.controls) (read.marks k u) (read.inside k u);
      infos-ok = rows_all (is_named t) type_info_width info.rows 0 info.answer.first λ k u.
          ap (is_named t) (row_zero type_info_width k info.rows) ∙ info_ok t info k (wish6.cut-names t rows i k u);
    } in
    ap (λ x. x.answer.number) (pair-yes s blob.controls blob.answer.first t info.rows info.answer.first (may_pair_lem s blob.controls blob.answer.first t info.rows info.answer.first judged))
  where
    info : TypeInfoExit
    info = type_info_exit t rows

    read : Read s blob
    read = by e

as_read : (table s cs ps t rows : List ℕ) → NeverRefused s t (exit table s cs ps) (type_info_exit t rows)
as_read table s cs ps t rows = never s t rows (exit table s cs ps) (blob-read table s cs ps)

-- a reader for one layout reads what the choice reads
exit_2000 : (table s cs ps : List ℕ) → (exit2000 table s cs ps).answer.number ≡ 0 → exit table s cs ps ≡ exit2000 table s cs ps
unfolding exit2000 outcome2000 exit outcome reading_of
exit_2000 table s cs ps e = go (ltb longest (length s)) (well_formed_lem table) (is2000 table s) e
  where
    c : ℕ
    c = room control_width cs

    p : ℕ
    p = room property_width ps

    go : (a b d : Bool) → (answer_of (cond a (refused (refusal too_long_lem)) (cond (not b) (refused (refusal bad_table)) (cond (not d) (refused (refusal other_layout)) (fit c p (read_by table s (stream_of s))))))).number ≡ 0
        → exit_by_lem (cond a (refused (refusal too_long_lem)) (cond (not b) (refused (refusal bad_table)) (fit c p (cond d (read_by table s (stream_of s)) (some (read_later_lem s)))))) cs ps
        ≡ exit_by_lem (cond a (refused (refusal too_long_lem)) (cond (not b) (refused (refusal bad_table)) (cond (not d) (refused (refusal other_layout)) (fit c p (read_by table s (stream_of s)))))) cs ps
    go true b d e = refl
    go false false d e = refl
    go false true false e = absurd (omega arith)
    go false true true e = refl

as_read_2000 : (table s cs ps t rows : List ℕ) → NeverRefused s t (exit2000 table s cs ps) (type_info_exit t rows)
as_read_2000 table s cs ps t rows =
    never s t rows (exit2000 table s cs ps) λ e.
    let same = exit_2000 table s cs ps e in
    subst (Read s) same (blob-read table s cs ps (ap (λ x. x.answer.number) same ∙ e))

-- a table for which the stream speaks for the later layout
abbrev another : List ℕ → List ℕ
another s = (byte s 0 + 1) ∷ 0 ∷ 0 ∷ 0 ∷ []

another-formed : (s : List ℕ) → well_formed_lem (another s) ≡ true
unfolding bytes_open tables_open
another-formed s = refl

another-layout : (s : List ℕ) → is2000 (another s) s ≡ false
unfolding is2000
another-layout s = rw (ne_eqb (byte s 0) (byte s 0 + 1) (λ e. omega arith)) (and-false (ltb 0 (length s)))
  where
    and-false : (b : Bool) → (b && false) ≡ false
    and-false true = refl
    and-false false = refl

exit-later : (layoutByte : ℕ) (s cs ps : List ℕ) → (exit_later layoutByte s cs ps).answer.number ≡ 0 → exit (another s) s cs ps ≡ exit_later layoutByte s cs ps
unfolding exit_later outcome_later exit outcome reading_of
exit-later layoutByte s cs ps e = rw (another-formed s, another-layout s) (go (ltb longest (length s)) (speaks2000 layoutByte s) e)
  where
    c : ℕ
    c = room control_width cs

    p : ℕ
    p = room property_width ps

    go : (a b : Bool) → (answer_of (cond a (refused (refusal too_long_lem)) (cond b (refused (refusal other_layout)) (fit c p (some (read_later_lem s)))))).number ≡ 0
        → exit_by_lem (cond a (refused (refusal too_long_lem)) (fit c p (some (read_later_lem s)))) cs ps
        ≡ exit_by_lem (cond a (refused (refusal too_long_lem)) (cond b (refused (refusal other_layout)) (fit c p (some (read_later_lem s))))) cs ps
    go true b e = refl
    go false true e = absurd (omega arith)
    go false false e = refl

as_read-later : (layoutByte : ℕ) (s cs ps t rows : List ℕ) → NeverRefused s t (exit_later layoutByte s cs ps) (type_info_exit t rows)
as_read-later layoutByte s cs ps t rows =
    never s t rows (exit_later layoutByte s cs ps) λ e.
    let same = exit-later layoutByte s cs ps e in
    subst (Read s) same (blob-read (another s) s cs ps (ap (λ x. x.answer.number) same ∙ e))

pub wish2 : Wish2
wish2 = record { pairs = pairs; again = pair-again; as_read = as_read; as_read-later = as_read-later; as_read_2000 = as_read_2000 }
