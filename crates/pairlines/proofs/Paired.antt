-- The listing by what the readers and the pairing hand back.
use mathlib.Core.Path.{◌≡◌, refl, sym, ap, ap₂, subst, ◌∙◌}
use mathlib.Core.Bool.{Bool, true, false, cond}
use mathlib.Core.List.{List, [], ◌++◌, map}
use Prim.Native.Nat.{ℕ, ◌+◌, ◌*◌, ◌≤◌, ◌<◌}
use native.Mathlib.Omega.{arith}
use native.Mathlib.Nat.{mul-le-mul}
use borrow.Author.Tests.{eq-eqb, ne_eqb}
use mathlib.Core.Option.{some}
use lib.Dec.{ltb, eqb}
use lib.ListN.{length, get_or, drop, length-append, length-map}
use Rattle.rules.specs.Lists.{keep}
use Rattle.rules.specs.Bytes.{u32, part}
use Rattle.rules.specs.Answer.{longest}
use Rattle.rules.specs.Rows.{control_width, property_width, type_info_width, room, row_at, written}
use Rattle.rules.specs.TypeInfo.{type_info_of, type_info_row, type_info_rows, type_info_answer, type_info_exit}
use Rattle.rules.specs.Reading.{control_rows}
use Rattle.rules.specs.ReadLater.{read_later_lem}
use Rattle.rules.specs.Blob.{Outcome, refused, read, speaks2000, outcome_later, answer_of, controls_shown, exit_later}
use Rattle.rules.specs.Pairing.{infos_in, types_set, may_pair, pair_exit}
use Rattle.rules.specs.Listing.{answer_line, word, control_line, lines_from}
use Rattle.rules.specs.declared.Answer.{Answer}
use Rattle.rules.proofs.RowsLaws.{Wide, rows_back}
use Rattle.rules.proofs.ReadingLaws.{controls_wide, controls-counted}
use Rattle.rules.proofs.PairingLaws.{fair, lent, pair-yes, pair-no, pair-again}
use Rattle.claims.specs.Pairing.{NeverRefused}
use Rattle.claims.proofs.Pairing.{wish2}
use Rattle.text.specs.Writer.{Wrote}
use Rattle.text.proofs.Chain.{nothing, ◌⨟◌}
use Rattle.rows.proofs.GetLaws.{word_in}
use Rattle.rules.proofs.TypeInfoLaws.{info_wide}
use Rattle.blob.specs.Exit.{exited}
use Rattle.listing.specs.Shown.{lines_to}
use Rattle.listing.specs.Bound.{longest_answer, longest_control}
use Rattle.listing.proofs.Printed.{Stated, stated_if, fit_stated, lines_written}
use Rattle.listing.proofs.Longest.{Word32, answer-short, control-short, lines_short}
use Rattle.infolines.proofs.Printed.{read as info-read}
use Rattle.pairlines.specs.Pairs.{paired_line, is_unpaired, unpaired_line, count_line, paired_lines, blob_paired, pair_printed, pair_listed, longest_unpaired}
use Rattle.pairlines.specs.Told.{tally, unpaired_to, lines_in, Paired, Listed}
use Rattle.pairlines.proofs.UnpairedLaws.{same_line, same-tally}
use Rattle.pairlines.proofs.RowLaws.{lines_paired, lines_stay, tally-kept}
use Rattle.pairlines.proofs.Longest.{unpaired_most, tally-most, count-short}

-- ---- what a later Blob's reader gives
later_stated : (c p layout : ℕ) (s : List ℕ) → Stated c p (outcome_later layout s c p)
unfolding outcome_later
later_stated c p layout s =
    stated_if c p (ltb longest (length s)) _ _ (λ e. omega arith)
    (λ d. stated_if c p (speaks2000 layout s) _ _ (λ e. omega arith)
    (λ f. fit_stated c p (some (read_later_lem s))))

-- the rows that are shown with the answer 0
record Given (o : Outcome) (c : ℕ) : Type 0 where
  rows_wide : Wide control_width (controls_shown o)
  count : (answer_of o).first ≡ length (controls_shown o)
  fits : length (controls_shown o) ≤ c

given_by : (c p : ℕ) (o : Outcome) → Stated c p o → (answer_of o).number ≡ 0 → Given o c
unfolding control_rows
given_by c p (refused a) h z = absurd (h z)
given_by c p (read r) h z = record {
  rows_wide = controls_wide 0 (length r.own) r.controls;
  count = sym (controls-counted r);
  fits = omega (arith, controls-counted r, h.0);
}

-- what is answered 0 was judged
may_by : (s l : List ℕ) (n : ℕ) (t infos : List ℕ) (m : ℕ) → (pair_exit s l n t infos m).answer.number ≡ 0 → may_pair s l n t infos m ≡ true
may_by s l n t infos m h = go (may_pair s l n t infos m) refl
  where
    go : (b : Bool) → may_pair s l n t infos m ≡ b → may_pair s l n t infos m ≡ true
    go true e = e
    go false e = absurd (omega (arith, ap (λ x. x.answer.number) (pair-no s l n t infos m e), h))

-- so many lines as there is room for
at_most : {x n : ℕ} (room each : ℕ) → x ≤ n * each → n ≤ room → x ≤ room * each
at_most room each h l = let same : each ≤ each = omega arith in omega (arith, mul-le-mul l same)

-- an answer of numbers of 32 bits
pub record Words (a : Answer) : Type 0 where
  pub number : Word32 a.number
  pub first : Word32 a.first
  pub second : Word32 a.second
  pub third : Word32 a.third

answer-most : (a : Answer) → Words a → length (answer_line a) ≤ longest_answer
answer-most a w = answer-short a w.number w.first w.second w.third

-- ---- TypeInfo is read
module _ (layout : ℕ) (t s is cs ps : List ℕ) {ta : Answer} {is' : List ℕ} (te : ta ≡ (type_info_exit t is).answer) (re : is' ≡ (type_info_exit t is).rows) where
  abbrev o : Outcome
  o = outcome_later layout s (room control_width cs) (room property_width ps)

  abbrev whole : List ℕ
  whole = lines_in layout t s is cs ps

  whole_is : whole ≡ answer_line ta ++ cond (eqb ta.number 0) (blob_paired s t o) []
  unfolding pair_printed type_info_exit
  whole_is = ap (λ (x : Answer). answer_line x ++ cond (eqb x.number 0) (blob_paired s t o) []) (sym te)

  pub info_refused : Words ta → (ta.number ≡ 0 → ⊥) → {old new : List ℕ} {e : ℕ} → Wrote old 0 (answer_line ta) new e → Paired layout t s is cs ps old new e
  info_refused tw h w =
      let q : whole ≡ answer_line ta ++ [] = whole_is ∙ rw (ne_eqb ta.number 0 h) in
      record { wrote = rw q (w ⨟ nothing); short = rw q (simp length-append (omega (arith, answer-most ta tw))) }

  -- ---- the Blob is read
  module _ (z : ta.number ≡ 0) {a : Answer} {cs' ps' : List ℕ} (x : exited a cs' ps' ≡ exit_later layout s cs ps) where
    answer-is : a ≡ answer_of o
    unfolding exit_later
    answer-is = ap (λ e. e.answer) x

    controls-are : cs' ≡ written (controls_shown o) cs
    unfolding exit_later
    controls-are = ap (λ e. e.controls) x

    blob-is : whole ≡ answer_line ta ++ (answer_line a ++ cond (eqb a.number 0) (paired_lines s t (type_info_rows t) (controls_shown o)) [])
    unfolding blob_paired
    blob-is =
        whole_is
        ∙ rw (eq-eqb ta.number 0 z)
        (ap (λ (b : Answer). answer_line ta ++ (answer_line b ++ cond (eqb b.number 0) (paired_lines s t (type_info_rows t) (controls_shown o)) [])) (sym answer-is))

    pub blob-refused : Words ta → Words a → (a.number ≡ 0 → ⊥) → {old b new : List ℕ} {q e : ℕ} → Wrote old 0 (answer_line ta) b q → Wrote b q (answer_line a) new e → Paired layout t s is cs ps old new e
    blob-refused tw aw h v w =
        let f : whole ≡ answer_line ta ++ (answer_line a ++ []) = blob-is ∙ rw (ne_eqb a.number 0 h) in
        record { wrote = rw f (v ⨟ w ⨟ nothing); short = rw f (simp length-append (omega (arith, answer-most ta tw, answer-most a aw))) }

    -- ---- and paired
    module _ (y : a.number ≡ 0) where
      given : Given o (room control_width cs)
      given = given_by (room control_width cs) (room property_width ps) o (later_stated (room control_width cs) (room property_width ps) layout s) (ap (λ (b : Answer). b.number) (sym answer-is) ∙ y)

      count-is : a.first ≡ length (controls_shown o)
      count-is = ap (λ (b : Answer). b.first) answer-is ∙ given.count

      zero-said : (type_info_answer t (room type_info_width is)).number ≡ 0
      unfolding type_info_exit
      zero-said = ap (λ (b : Answer). b.number) (sym te) ∙ z

      infos-written : is' ≡ written (type_info_rows t) is
      unfolding type_info_exit
      infos-written = re ∙ rw (eq-eqb (type_info_answer t (room type_info_width is)).number 0 zero-said)

      infos-many : ta.first ≡ length (type_info_rows t)
      unfolding type_info_exit type_info_rows
      infos-many = ap (λ (b : Answer). b.first) (te ∙ (info-read t (room type_info_width is) zero-said).is) ∙ sym (length-map (type_info_of t) type_info_row)

      infos-are : infos_in ta.first is' ≡ type_info_rows t
      unfolding type_info_rows
      infos-are =
          let f : length (type_info_of t) ≤ room type_info_width is = (info-read t (room type_info_width is) zero-said).fits in
          let l : length (map type_info_row (type_info_of t)) ≡ length (type_info_of t) = length-map (type_info_of t) type_info_row in
          ap₂ (λ (n : ℕ) (words : List ℕ). infos_in n words) infos-many infos-written
          ∙ rows_back type_info_width (type_info_rows t) (info_wide (type_info_of t)) is (omega arith)

      never : (pair_exit s cs' a.first t is' ta.first).answer.number ≡ 0
      never =
          let n = subst (λ e. NeverRefused s t e (type_info_exit t is)) (sym x) (wish2.as_read-later layout s cs ps t is) in
          rw (te, re) (n y (ap (λ (b : Answer). b.number) (sym te) ∙ z))

      pub may : may_pair s cs' a.first t is' ta.first ≡ true
      may = may_by s cs' a.first t is' ta.first never

      fits : a.first * control_width ≤ length cs'
      fits = lent s cs' a.first t is' ta.first (fair s cs' a.first t is' ta.first may)

      -- the lines of rows that the reader wrote
      as_written : (f : ℕ → List ℕ → List ℕ) → lines_to f control_width a.first cs' ≡ lines_from f 0 (controls_shown o)
      as_written f =
          ap₂ (λ (n : ℕ) (words : List ℕ). lines_to f control_width n words) count-is controls-are
          ∙ sym (lines_written f control_width (controls_shown o) given.rows_wide cs (omega (arith, given.fits)))

      module _ {cs'' : List ℕ} (pe : cs'' ≡ (pair_exit s cs' a.first t is' ta.first).controls) where
        now_is : cs'' ≡ types_set s t (infos_in ta.first is') a.first cs'
        now_is = pe ∙ ap (λ e. e.controls) (pair-yes s cs' a.first t is' ta.first may)

        pub may_again : may_pair s cs'' a.first t is' ta.first ≡ true
        may_again =
            may_by s cs'' a.first t is' ta.first
            (rw pe (ap (λ e. e.answer.number) (pair-again s cs' a.first t is' ta.first) ∙ never))

        -- lines of the rows as they are now, by what these lines were before the types were set
        rows-shown : (f : ℕ → List ℕ → List ℕ) (g : List (List ℕ) → ℕ → List ℕ → List ℕ)
            → lines_to f control_width a.first (types_set s t (infos_in ta.first is') a.first cs') ≡ lines_to (g (infos_in ta.first is')) control_width a.first cs'
            → lines_to f control_width a.first cs'' ≡ lines_from (g (type_info_rows t)) 0 (controls_shown o)
        rows-shown f g e =
            ap (lines_to f control_width a.first) now_is
            ∙ e
            ∙ as_written (g (infos_in ta.first is'))
            ∙ ap (λ (infos : List (List ℕ)). lines_from (g infos) 0 (controls_shown o)) infos-are

        controls-shown : lines_to (control_line s) control_width a.first cs'' ≡ lines_from (paired_line s t (type_info_rows t)) 0 (controls_shown o)
        controls-shown = rows-shown (control_line s) (paired_line s t) (lines_paired s t (infos_in ta.first is') a.first cs' fits)

        unpaired_shown : lines_to (unpaired_line s t (infos_in ta.first is')) control_width a.first cs'' ≡ lines_from (unpaired_line s t (type_info_rows t)) 0 (controls_shown o)
        unpaired_shown =
            let infos = infos_in ta.first is' in
            rows-shown (unpaired_line s t infos) (unpaired_line s t) (lines_stay s t infos a.first cs' fits (unpaired_line s t infos) (same_line s t infos))

        counted-shown : length (lines_to (tally s t (infos_in ta.first is')) control_width a.first cs'') ≡ length (keep (is_unpaired s t (type_info_rows t)) (controls_shown o))
        counted-shown =
            let infos = infos_in ta.first is' in
            ap length (rows-shown (tally s t infos) (tally s t) (lines_stay s t infos a.first cs' fits (tally s t infos) (same-tally s t infos)))
            ∙ tally-kept s t (type_info_rows t) 0 (controls_shown o)

        told-shown : unpaired_to s t (infos_in ta.first is') a.first cs''
            ≡ lines_from (unpaired_line s t (type_info_rows t)) 0 (controls_shown o) ++ count_line (length (keep (is_unpaired s t (type_info_rows t)) (controls_shown o)))
        unfolding unpaired_to
        told-shown = ap₂ (λ (u : List ℕ) (n : ℕ). u ++ count_line n) unpaired_shown counted-shown

        all-is : whole ≡ answer_line ta ++ (answer_line a ++ (lines_to (control_line s) control_width a.first cs'' ++ unpaired_to s t (infos_in ta.first is') a.first cs''))
        all-is =
            blob-is
            ∙ rw (eq-eqb a.number 0 y)
            (ap₂ (λ (c u : List ℕ). answer_line ta ++ (answer_line a ++ (c ++ u))) (sym controls-shown) (sym told-shown))

        module _ (aw : Words a) (cw : (i : ℕ) → Word32 (get_or cs'' i 0)) where
          word_fits : (k i : ℕ) → i < control_width → Word32 (word (row_at control_width k cs'') i)
          word_fits k i h = rw (word_in control_width k i cs'' h) (cw (k * control_width + i))

          controls-most : length (lines_to (control_line s) control_width a.first cs'') ≤ room control_width cs * longest_control
          controls-most =
              at_most (room control_width cs) longest_control
              (lines_short (control_line s) longest_control control_width cs'' a.first λ i l. control-short s i (row_at control_width i cs'') (omega (arith, aw.first)) (word_fits i))
              (omega (arith, count-is, given.fits))

          told-most : length (unpaired_to s t (infos_in ta.first is') a.first cs'') ≤ room control_width cs * longest_unpaired + 20
          unfolding unpaired_to
          told-most =
              let infos = infos_in ta.first is' in
              let u = unpaired_most s t infos a.first cs'' aw.first (λ k l. word_fits k 2 (omega arith)) in
              let n = tally-most s t infos a.first cs'' in
              let c = count-short (length (lines_to (tally s t infos) control_width a.first cs'')) (omega (arith, aw.first)) in
              simp length-append (omega (arith, count-is, given.fits))

          pub all_read : Words ta → {old b1 b2 b3 new : List ℕ} {p1 p2 p3 e : ℕ} → Wrote old 0 (answer_line ta) b1 p1 → Wrote b1 p1 (answer_line a) b2 p2
              → Wrote b2 p2 (lines_to (control_line s) control_width a.first cs'') b3 p3
              → Wrote b3 p3 (unpaired_to s t (infos_in ta.first is') a.first cs'') new e → Paired layout t s is cs ps old new e
          all_read tw w1 w2 w3 w4 =
              record {
                wrote = rw all-is (w1 ⨟ w2 ⨟ w3 ⨟ w4);
                short = rw all-is (simp length-append (omega (arith, answer-most ta tw, answer-most a aw, controls-most, told-most)));
              }

-- ---- an input by its parts
pub input_written : (input is cs ps : List ℕ) {layout size : ℕ} {t s : List ℕ} → layout ≡ u32 input 0 → size ≡ u32 input 4 → t ≡ part input 8 size → s ≡ drop (8 + size) input
    → {old new : List ℕ} {e : ℕ} → Paired layout t s is cs ps old new e → Listed input is cs ps old new e
unfolding pair_listed
input_written input is cs ps l z te se w = rw (l, te, se, z) at w
