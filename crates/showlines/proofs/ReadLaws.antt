-- What is shown of a reading, and that its rows can be counted, also after its controls were paired.
use Prim.Native.Nat.{ℕ, zero, suc, ◌+◌, ◌*◌, ◌≤◌}
use native.Mathlib.Omega.{arith}
use mathlib.Core.Path.{◌≡◌, refl, sym, ap, ap₂, ◌∙◌}
use mathlib.Core.Bool.{Bool, true, false, cond}
use mathlib.Core.List.{List}
use mathlib.Core.Option.{some}
use borrow.Author.Tests.{eq-eqb, ne_eqb}
use lib.Dec.{ltb}
use lib.ListN.{length}
use Rattle.rules.specs.Answer.{answer, refusal, bad_rows, longest}
use Rattle.rules.specs.CodeTable.{layout}
use Rattle.rules.specs.Reading.{properties}
use Rattle.rules.specs.ReadLater.{read_later_lem}
use Rattle.rules.specs.Rows.{control_width, property_width, room}
use Rattle.rules.specs.Blob.{Outcome, refused, read, speaks2000, outcome, outcome_later, Exit, exit_by_lem, exit, exit_later}
use Rattle.rules.specs.TypeInfo.{type_info_exit}
use Rattle.rules.specs.Pairing.{infos_in, types_set, may_pair, PairExit, pair_exit}
use Rattle.rules.specs.Listing.{word, answer_line}
use Rattle.rules.specs.declared.Answer.{Answer}
use Rattle.rules.proofs.PairingLaws.{word_at, other_stays}
use Rattle.listing.proofs.Printed.{Stated, stated_if, fit_stated, outcome_stated}
use Rattle.names.specs.Lookup.{Lent}
use Rattle.blob.specs.Exit.{exited}
use Rattle.csvrows.specs.Rows.{most, control_at, many_from}
use Rattle.csvrows.proofs.SheetLaws.{rows-many}
use Rattle.showlines.specs.Lines.{reading_kind}
use Rattle.showlines.specs.Rows.{slices_text}
use Rattle.showlines.specs.Shown.{counts_of, shown_by_lem, paired_exit, info_line, shown_paired, ReadReady}

-- ---- refused, or read
module _ (t s : List ℕ) (e : Exit) where
  pub shown-refused : (e.answer.number ≡ 0 → ⊥) → shown_by_lem t s e ≡ answer_line e.answer
  unfolding shown_by_lem
  shown-refused h = rw (ne_eqb e.answer.number 0 h)

  pub shown_read : e.answer.number ≡ 0 → shown_by_lem t s e ≡ slices_text t s e.controls e.properties (counts_of (reading_kind t s) e.answer)
  unfolding shown_by_lem
  shown_read h = rw (eq-eqb e.answer.number 0 h)

-- ---- the rows that the controls tell are those that are counted
counted-by : (cs ps : List ℕ) (o : Outcome) → Stated (room control_width cs) (room property_width ps) o → (e : Exit) → e ≡ exit_by_lem o cs ps
    → e.answer.number ≡ 0 → e.answer.third + many_from e.controls 0 e.answer.first ≡ e.answer.second
counted-by cs ps (refused a) st e q z = absurd (st (sym (ap (λ (x : Exit). x.answer.number) q) ∙ z))
counted-by cs ps (read r) st e q z =
    let fc : length r.controls * control_width ≤ length cs = omega (arith, st.0) in
    let fp : length (properties r) * property_width ≤ length ps = omega (arith, st.1) in
    ap (λ (x : Exit). x.answer.third + many_from x.controls 0 x.answer.first) q ∙ rows-many r cs ps fc fp ∙ sym (ap (λ (x : Exit). x.answer.second) q)

later_stated : (c p l : ℕ) (s : List ℕ) → Stated c p (outcome_later l s c p)
unfolding outcome_later
later_stated c p l s =
    stated_if c p (ltb longest (length s)) _ _ (λ e. omega arith)
    (λ d. stated_if c p (speaks2000 l s) _ _ (λ e. omega arith)
    (λ f. fit_stated c p (some (read_later_lem s))))

module _ (cs ps : List ℕ) {a : Answer} {cs' ps' : List ℕ} where
  blob-counted : (t s : List ℕ) → exited a cs' ps' ≡ exit t s cs ps → a.number ≡ 0 → a.third + many_from cs' 0 a.first ≡ a.second
  unfolding exit
  blob-counted t s e = counted-by cs ps (outcome t s (room control_width cs) (room property_width ps)) (outcome_stated (room control_width cs) (room property_width ps) t s) (exited a cs' ps') e

  later-counted : (l : ℕ) (s : List ℕ) → exited a cs' ps' ≡ exit_later l s cs ps → a.number ≡ 0 → a.third + many_from cs' 0 a.first ≡ a.second
  unfolding exit_later
  later-counted l s e = counted-by cs ps (outcome_later l s (room control_width cs) (room property_width ps)) (later_stated (room control_width cs) (room property_width ps) l s) (exited a cs' ps') e

  pub blob-ready : {index letters : List ℕ} → Lent index letters → (t s : List ℕ) → exited a cs' ps' ≡ exit t s cs ps → a.second ≤ most → ReadReady index letters cs' a
  blob-ready l t s e h = record { lent = l; few = λ z. omega (arith, blob-counted t s e z) }

-- ---- pairing leaves the counts
many-same : (a b : List ℕ) → ((i : ℕ) → word (control_at a i) 5 ≡ word (control_at b i) 5) → (k n : ℕ) → many_from a n k ≡ many_from b n k
unfolding many_from
many-same a b h zero n = refl
many-same a b h (suc k) n = ap₂ (λ (x y : ℕ). x + y) (h n) (many-same a b h k (n + 1))

module _ (s cs : List ℕ) (n : ℕ) (t infos : List ℕ) (m : ℕ) where
  count_stays : (i : ℕ) → word (control_at (types_set s t (infos_in m infos) n cs) i) 5 ≡ word (control_at cs i) 5
  count_stays i =
      word_at control_width i 5 (types_set s t (infos_in m infos) n cs) (omega arith)
      ∙ other_stays s t (infos_in m infos) cs n (i * control_width + 5) (λ j u e. omega arith)
      ∙ sym (word_at control_width i 5 cs (omega arith))

  many_stays : (k : ℕ) → many_from (pair_exit s cs n t infos m).controls 0 k ≡ many_from cs 0 k
  unfolding pair_exit
  many_stays k = go (may_pair s cs n t infos m)
    where
      go : (b : Bool)
          → many_from (cond {A = PairExit} b (record { answer = answer 0 0 0 0; controls = types_set s t (infos_in m infos) n cs }) (record { answer = refusal bad_rows; controls = cs })).controls 0 k ≡ many_from cs 0 k
      go true = many-same _ cs count_stays k 0
      go false = refl

module _ (cs ps : List ℕ) {a : Answer} {cs' ps' cs'' : List ℕ} where
  pub paired-ready : {index letters : List ℕ} → Lent index letters → (l : ℕ) (s t infos : List ℕ) (m : ℕ) → exited a cs' ps' ≡ exit_later l s cs ps
      → cs'' ≡ (pair_exit s cs' a.first t infos m).controls → a.second ≤ most → ReadReady index letters cs'' a
  paired-ready lent l s t infos m e q h = record {
    lent = lent;
    few = λ z. omega (arith, later-counted cs ps l s e z, ap (λ (x : List ℕ). many_from x 0 a.first) q ∙ many_stays s cs' a.first t infos m a.first);
  }

-- ---- with TypeInfo
module _ (t info s infos cs ps : List ℕ) {i : Answer} {is' : List ℕ} (ie : i ≡ (type_info_exit info infos).answer) (re : is' ≡ (type_info_exit info infos).rows) where
  pub info_refused : (i.number ≡ 0 → ⊥) → info_line i ≡ shown_paired t info s infos cs ps
  unfolding shown_paired
  info_refused h = let g : ((type_info_exit info infos).answer.number ≡ 0 → ⊥) = λ z. h (ap (λ (x : Answer). x.number) ie ∙ z) in
      ap info_line ie ∙ sym (rw (ne_eqb (type_info_exit info infos).answer.number 0 g) refl)

  pub paired-shown : i.number ≡ 0 → {a : Answer} {cs' ps' cs'' : List ℕ} {l : ℕ} → l ≡ layout t → exited a cs' ps' ≡ exit_later l s cs ps
      → cs'' ≡ (pair_exit s cs' a.first info is' i.first).controls → shown_by_lem t s (exited a cs'' ps') ≡ shown_paired t info s infos cs ps
  unfolding shown_paired
  paired-shown h {a} {cs'} {ps'} {cs''} {l} le e q =
      let z : (type_info_exit info infos).answer.number ≡ 0 = sym (ap (λ (x : Answer). x.number) ie) ∙ h in
      let w : cs'' ≡ (pair_exit s cs' a.first info (type_info_exit info infos).rows (type_info_exit info infos).answer.first).controls =
      q ∙ (λ j. (pair_exit s cs' a.first info (re j) (ie j).first).controls) in
      ap (λ (x : List ℕ). shown_by_lem t s (exited a x ps')) w
      ∙ ap (λ (x : Exit). shown_by_lem t s (paired_exit s info (type_info_exit info infos) x)) (e ∙ ap (λ (k : ℕ). exit_later k s cs ps) le)
      ∙ sym (rw (eq-eqb (type_info_exit info infos).answer.number 0 z) refl)
