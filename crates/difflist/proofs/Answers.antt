-- The answer by its cases, and what is said after each: how long it is, and that it is what is written.
use Prim.Native.Nat.{ℕ, ◌≤◌}
use native.Mathlib.Omega.{arith}
use native.Mathlib.Nat.{mul-le-mul}
use mathlib.Core.Path.{◌≡◌, refl, sym, ap, ◌∙◌}
use mathlib.Core.Bool.{Bool, true, false, cond, not, ◌&&◌}
use mathlib.Core.List.{List, [], ◌++◌}
use mathlib.Core.Option.{Option, none, some}
use borrow.Author.Tests.{ltb-false, eq-eqb, ne_eqb, not-false}
use lib.Dec.{ltb}
use lib.ListN.{length, get_or, length-append}
use Rattle.rules.specs.Answer.{answer, refusal, longest, other_head}
use Rattle.rules.specs.CodeTable.{well_formed_lem, scopes}
use Rattle.rules.specs.Join.{same_head_lem}
use Rattle.rules.specs.Rows.{difference_width, room}
use Rattle.rules.specs.Reading.{Reading}
use Rattle.rules.specs.Blob.{Exit, exit, reading_of}
use Rattle.rules.specs.Differences.{DifferencesExit, succeeds, difference_rows, differences_fit, differences_answer, differences_exit}
use Rattle.rules.specs.Listing.{answer_line}
use Rattle.rules.specs.declared.Answer.{Answer}
use Rattle.rules.proofs.ListLaws.{and_l, and_r}
use Rattle.blob.specs.Exit as blob
use Rattle.differences.specs.Exit.{exited}
use Rattle.succession.specs.Lacks.{scopes_lack}
use Rattle.succession.specs.Found.{as_lack}
use Rattle.joinwhy.specs.Why.{lack_text, why}
use Rattle.joinwhy.proofs.Longest.{lack_short, why-short}
use Rattle.text.specs.Writer.{Wrote}
use Rattle.text.proofs.Chain.{nothing, ◌⨟◌}
use Rattle.listing.specs.Written.{Written}
use Rattle.listing.specs.Shown.{lines_to}
use Rattle.listing.proofs.Longest.{Word32, lines_short}
use Rattle.difflist.specs.Lines.{difference_line, why_not}
use Rattle.difflist.specs.Listed.{named, said_by, said, most_said}
use Rattle.difflist.proofs.Words.{line-short}

-- ---- the cases
if_either : (P : Answer → Type 0) (b : Bool) (x y : Answer) → (b ≡ true → P x) → (b ≡ false → P y) → P (cond b x y)
if_either P true x y f g = f refl
if_either P false x y f g = g refl

module _ (older newer s : List ℕ) (most : ℕ) where
  by_cases : (P : Answer → Type 0) → P (refusal 5) → P (refusal 8) → ((well_formed_lem older && well_formed_lem newer) ≡ true → P (refusal 19)) → P (refusal 4)
      → ((n m : ℕ) → P (answer 6 n m 0)) → ((n m : ℕ) → n ≤ most → P (answer 0 n m 0)) → P (differences_answer older newer s most)
  unfolding differences_answer
  by_cases P long bad other unread many whole =
      if_either P (ltb longest (length s)) _ _ (λ e. long) (λ e.
      if_either P (not (well_formed_lem older && well_formed_lem newer)) _ _ (λ e. bad) (λ w.
      if_either P (not (succeeds older newer)) _ _ (λ e. other (not-false (well_formed_lem older && well_formed_lem newer) w)) (λ e.
      fitted (reading_of older s))))
    where
      fitted : (o : Option Reading) → P (differences_fit most (difference_rows older newer s) o)
      fitted none = unread
      fitted (some r) =
          if_either P (ltb most (length (difference_rows older newer s))) _ _ (λ e. many _ _) (λ e. whole _ _ (ltb-false most (length (difference_rows older newer s)) e))

  formed-by : (differences_answer older newer s most).number ≡ 19 → (well_formed_lem older && well_formed_lem newer) ≡ true
  formed-by =
      by_cases (λ a. a.number ≡ 19 → (well_formed_lem older && well_formed_lem newer) ≡ true)
      (λ e. absurd (omega arith)) (λ e. absurd (omega arith)) (λ w e. w) (λ e. absurd (omega arith)) (λ n m e. absurd (omega arith)) (λ n m l e. absurd (omega arith))

  few-by : (differences_answer older newer s most).number ≡ 0 → (differences_answer older newer s most).first ≤ most
  few-by =
      by_cases (λ a. a.number ≡ 0 → a.first ≤ most)
      (λ e. omega arith) (λ e. omega arith) (λ w e. omega arith) (λ e. omega arith) (λ n m e. absurd (omega arith)) (λ n m l e. l)

-- ---- why not, in at most 131 bytes
why_not_short : (older newer : List ℕ) → well_formed_lem older ≡ true → well_formed_lem newer ≡ true → length (why_not older newer) ≤ 131
unfolding why_not
why_not_short older newer w v = go (same_head_lem older newer)
  where
    go : (b : Bool) → length (cond b (lack_text (as_lack (scopes_lack newer (scopes older)))) (why other_head older newer)) ≤ 131
    go true = lack_short (as_lack (scopes_lack newer (scopes older)))
    go false = why-short other_head older newer (λ e. (w, v))

pub same-why : (older newer : List ℕ) → same_head_lem older newer ≡ true → why_not older newer ≡ lack_text (as_lack (scopes_lack newer (scopes older)))
unfolding why_not
same-why older newer e = rw e

pub other-why : (older newer : List ℕ) → same_head_lem older newer ≡ false → why_not older newer ≡ why other_head older newer
unfolding why_not
other-why older newer e = rw e

-- ---- what is said
pub Small : Answer → Type 0
Small a = (Word32 a.number) × ((Word32 a.first) × ((Word32 a.second) × (Word32 a.third)))

module _ (older newer s rows cs ps : List ℕ) {a : Answer} {rows' : List ℕ} (d : exited a rows' ≡ differences_exit older newer s rows) where
  answered : a ≡ differences_answer older newer s (room difference_width rows)
  unfolding differences_exit
  answered = ap (λ (x : DifferencesExit). x.answer) d

  formed : a.number ≡ 19 → (well_formed_lem older && well_formed_lem newer) ≡ true
  formed e = formed-by older newer s (room difference_width rows) (sym (ap (λ (x : Answer). x.number) answered) ∙ e)

  pub newer-formed : a.number ≡ 19 → well_formed_lem newer ≡ true
  newer-formed e = and_r (well_formed_lem older) (well_formed_lem newer) (formed e)

  few : a.number ≡ 0 → a.first ≤ room difference_width rows
  few e =
      let q = ap (λ (x : Answer). x.first) answered in
      omega (arith, q, few-by older newer s (room difference_width rows) (sym (ap (λ (x : Answer). x.number) answered) ∙ e))

  said-is : {e : Exit} → e ≡ exit newer s cs ps → said older newer s rows cs ps ≡ said_by older newer (exited a rows') e
  unfolding said
  said-is {e} q = ap (λ (x : DifferencesExit). said_by older newer x (exit newer s cs ps)) (sym d) ∙ ap (said_by older newer (exited a rows')) (sym q)

  abbrev Says : List ℕ → List ℕ → ℕ → Type 0
  Says old new end = Written old (said older newer s rows cs ps) (most_said rows) new end

  module _ {o b : List ℕ} {p : ℕ} (v : Wrote o 0 (answer_line a) b p) (line : length (answer_line a) ≤ 51) where
    pub written-why : a.number ≡ 19 → {n : List ℕ} {x : ℕ} → Wrote b p (why_not older newer) n x → Says o n x
    unfolding said_by most_said
    written-why e w =
        let f = formed e in
        let l = why_not_short older newer (and_l (well_formed_lem older) (well_formed_lem newer) f) (and_r (well_formed_lem older) (well_formed_lem newer) f) in
        let q : said older newer s rows cs ps ≡ answer_line a ++ why_not older newer = said-is refl ∙ rw (eq-eqb a.number 19 e) in
        record { wrote = rw q (v ⨟ w); short = rw q (simp length-append (omega arith)) }

    pub written-refused : ¬ (a.number ≡ 19) → ¬ (a.number ≡ 0) → Says o b p
    unfolding said_by most_said
    written-refused f e =
        let q : said older newer s rows cs ps ≡ answer_line a ++ [] = said-is refl ∙ rw (ne_eqb a.number 19 f, ne_eqb a.number 0 e) in
        record { wrote = rw q (v ⨟ nothing); short = rw q (simp length-append (omega arith)) }

    module _ (f : ¬ (a.number ≡ 19)) (e : a.number ≡ 0) {r : Answer} {cs' ps' : List ℕ} (x : blob.exited r cs' ps' ≡ exit newer s cs ps)
        {c : List ℕ} {q : ℕ} (u : Wrote b p (answer_line r) c q) (second : length (answer_line r) ≤ 51) where
      named-is : said older newer s rows cs ps ≡ answer_line a ++ named (exited a rows') (blob.exited r cs' ps')
      unfolding said_by
      named-is = said-is x ∙ rw (ne_eqb a.number 19 f, eq-eqb a.number 0 e)

      pub written_full : ¬ (r.number ≡ 0) → Says o c q
      unfolding named most_said
      written_full k =
          let z : said older newer s rows cs ps ≡ answer_line a ++ (answer_line r ++ []) = named-is ∙ rw (ne_eqb r.number 0 k) in
          record { wrote = rw z (v ⨟ u ⨟ nothing); short = rw z (simp length-append (omega arith)) }

      pub written_lines : r.number ≡ 0 → ((i : ℕ) → Word32 (get_or rows' i 0)) → ((i : ℕ) → Word32 (get_or cs' i 0))
          → {n : List ℕ} {y : ℕ} → Wrote c q (lines_to (difference_line cs') difference_width a.first rows') n y → Says o n y
      unfolding named most_said
      written_lines k rw32 cw32 w =
          let z : said older newer s rows cs ps ≡ answer_line a ++ (answer_line r ++ lines_to (difference_line cs') difference_width a.first rows') = named-is ∙ rw (eq-eqb r.number 0 k) in
          let l = lines_short (difference_line cs') 156 difference_width rows' a.first (λ i h. line-short rows' cs' rw32 cw32 i) in
          let each : 156 ≤ 156 = omega arith in
          let m = mul-le-mul (few e) each in
          record { wrote = rw z (v ⨟ u ⨟ w); short = rw z (simp length-append (omega arith)) }
