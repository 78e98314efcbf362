-- Pairing: the rows that it counts, the words that it sets, and that it looks at none of these.
use Prim.Native.Nat.{ℕ, zero, suc, ◌+◌, ◌*◌, ◌≤◌, ◌<◌}
use native.Mathlib.Omega.{arith}
use mathlib.Core.Path.{◌≡◌, refl, sym, ap, ◌∙◌}
use mathlib.Core.Bool.{Bool, true, false, cond}
use mathlib.Core.List.{List}
use mathlib.Core.Option.{Option, none, some}
use lib.Dec.{ltb, eqb}
use lib.ListN.{length, get_or, take, drop, set, length-set}
use lib.Seq.{get_or-take, get_or-drop, get_or-set_same, get_or-set_other, set-get_or, drop-set-lt}
use borrow.Author.Tests.{ltb-true, ltb-false, leb-true, le-leb, eqb-true, eqb-false}
use Rattle.rules.specs.Lists.{all, find}
use Rattle.rules.specs.Answer.{answer, refusal, bad_rows}
use Rattle.rules.specs.Rows.{control_width, type_info_width, room, row_at, rows_from}
use Rattle.rules.specs.Listing.{word}
use Rattle.rules.specs.Pairing.{controls_in, infos_in, type_of, mark_of, start_of, size_of, control_name_lem, type_by, has_name, paired_type, types_set, is_named, control_ok, may_pair, pair_exit}
use Rattle.rules.proofs.ListLaws.{and_l, and_r}

-- ---- rows by their place
-- a word of a row, as a word of the slice
pub word_at : (w k i : ℕ) (l : List ℕ) → i < w → get_or (row_at w k l) i 0 ≡ get_or l (k * w + i) 0
word_at w k i l h = get_or-take w (drop (k * w) l) i 0 h ∙ get_or-drop (k * w) l i 0

module _ (p : List ℕ → Bool) (w : ℕ) (l : List ℕ) where
  next_row : (i k : ℕ) (b : Bool) → p (row_at w (i + suc k) l) ≡ b → p (row_at w (i + 1 + k) l) ≡ b
  next_row i k b e = ap (λ (j : ℕ). p (row_at w j l)) (omega arith) ∙ e

  first-row : (i : ℕ) (b : Bool) → p (row_at w i l) ≡ b → p (row_at w (i + 0) l) ≡ b
  first-row i b e = ap (λ (j : ℕ). p (row_at w j l)) (omega arith) ∙ e

  -- all of them pass exactly when each does
  pub rows_all : (i n : ℕ) → ((k : ℕ) → k < n → p (row_at w (i + k) l) ≡ true) → all p (rows_from w i n l) ≡ true
  unfolding all rows_from
  rows_all i zero h = refl
  rows_all i (suc n) h =
      let e : p (row_at w i l) ≡ true = ap (λ (j : ℕ). p (row_at w j l)) (omega arith) ∙ h 0 (omega arith) in
      rw e (rows_all (i + 1) n (λ k u. next_row i k true (h (suc k) (omega arith))))

  pub all-rows : (i n : ℕ) → all p (rows_from w i n l) ≡ true → (k : ℕ) → k < n → p (row_at w (i + k) l) ≡ true
  unfolding all rows_from
  all-rows i zero e k u = absurd (omega arith)
  all-rows i (suc n) e zero u = first-row i true (and_l (p (row_at w i l)) (all p (rows_from w (i + 1) n l)) e)
  all-rows i (suc n) e (suc k) u =
      ap (λ (j : ℕ). p (row_at w j l)) (omega arith)
      ∙ all-rows (i + 1) n (and_r (p (row_at w i l)) (all p (rows_from w (i + 1) n l)) e) k (omega arith)

  -- the first that passes, by its place
  pub data Found (n : ℕ) : Option (List ℕ) → Type 0 where
    at : (j : ℕ) → j < n → p (row_at w j l) ≡ true → ((i : ℕ) → i < j → p (row_at w i l) ≡ false) → Found n (some (row_at w j l))
    nowhere : ((j : ℕ) → j < n → p (row_at w j l) ≡ false) → Found n none

  past : (i : ℕ) → ((j : ℕ) → j < i → p (row_at w j l) ≡ false) → p (row_at w i l) ≡ false → (j : ℕ) → j < i + 1 → p (row_at w j l) ≡ false
  past i before e j u = by (ltb j i) refl
    where
      by : (b : Bool) → ltb j i ≡ b → p (row_at w j l) ≡ false
      by true q = before j (ltb-true j i q)
      by false q = ap (λ (m : ℕ). p (row_at w m l)) (let v = ltb-false j i q in omega arith) ∙ e

  found_from : (i n : ℕ) → ((j : ℕ) → j < i → p (row_at w j l) ≡ false) → Found (i + n) (find p (rows_from w i n l))
  unfolding find rows_from
  found_from i zero before = Found.nowhere (λ j u. before j (omega arith))
  found_from i (suc n) before = go (p (row_at w i l)) refl (λ e. found_from (i + 1) n (past i before e))
    where
      go : (b : Bool) → p (row_at w i l) ≡ b → (p (row_at w i l) ≡ false → Found (i + 1 + n) (find p (rows_from w (i + 1) n l)))
          → Found (i + suc n) (cond b (some (row_at w i l)) (find p (rows_from w (i + 1) n l)))
      go true e rest = Found.at i (omega arith) e before
      go false e rest = rw (let q : i + suc n ≡ i + 1 + n = omega arith in q) (rest e)

  pub found : (n : ℕ) → Found n (find p (rows_from w 0 n l))
  found n = rw (let q : 0 + n ≡ n = omega arith in q) at (found_from 0 n (λ j u. absurd (omega arith)))

-- ---- the words that are set
module _ (s t : List ℕ) (infos : List (List ℕ)) (l : List ℕ) where
  abbrev after : ℕ → List ℕ
  after n = types_set s t infos n l

  abbrev given : ℕ → ℕ
  given k = paired_type s t infos (row_at control_width k l)

  pub as_long : (n : ℕ) → length (after n) ≡ length l
  unfolding types_set
  as_long zero = refl
  as_long (suc n) = length-set (after n) (n * control_width) (given n) ∙ as_long n

  rest_from : (n m : ℕ) → n ≤ m → drop (m * control_width) (after n) ≡ drop (m * control_width) l
  unfolding types_set
  rest_from zero m h = refl
  rest_from (suc n) m h = drop-set-lt (m * control_width) (after n) (n * control_width) (given n) (omega arith) ∙ rest_from n m (omega arith)

  -- row n, once those before it are set
  pub row_stays : (n : ℕ) → row_at control_width n (after n) ≡ row_at control_width n l
  row_stays n = ap (take control_width) (rest_from n n (omega arith))

  pub other_stays : (n i : ℕ) → ((k : ℕ) → k < n → ¬ (i ≡ k * control_width)) → get_or (after n) i 0 ≡ get_or l i 0
  unfolding types_set
  other_stays zero i h = refl
  other_stays (suc n) i h = get_or-set_other (after n) (n * control_width) i (given n) 0 (h n (omega arith)) ∙ other_stays n i (λ k u. h k (omega arith))

  pub type-set : (n : ℕ) → n * control_width ≤ length l → (k : ℕ) → k < n → get_or (after n) (k * control_width) 0 ≡ given k
  unfolding types_set
  type-set zero h k u = absurd (omega arith)
  type-set (suc n) h k u = go (eqb k n) refl (λ v. type-set n (omega arith) k v)
    where
      go : (b : Bool) → eqb k n ≡ b → (k < n → get_or (after n) (k * control_width) 0 ≡ given k)
          → get_or (set (after n) (n * control_width) (given n)) (k * control_width) 0 ≡ given k
      go true e rest = rw (eqb-true k n e) (get_or-set_same (after n) (n * control_width) (given n) 0 (omega (arith, as_long n)))
      go false e rest =
          let apart = eqb-false k n e in
          get_or-set_other (after n) (n * control_width) (k * control_width) (given n) 0 (λ q. apart (omega arith)) ∙ rest (let v : ¬ (k ≡ n) = apart in omega arith)

-- ---- pairing again
-- a name is told by the mark, the start and the length
pub same_name : (s a b : List ℕ) → mark_of a ≡ mark_of b → start_of a ≡ start_of b → size_of a ≡ size_of b → control_name_lem s a ≡ control_name_lem s b
unfolding control_name_lem
same_name s a b mark start size = rw (mark, start, size)

same-judged : (s a b : List ℕ) → mark_of a ≡ mark_of b → start_of a ≡ start_of b → size_of a ≡ size_of b → control_ok s a ≡ control_ok s b
same-judged s a b mark start size = rw (mark, start, size)

module _ (s t : List ℕ) (infos : List (List ℕ)) (l : List ℕ) (n : ℕ) (fits : n * control_width ≤ length l) where
  abbrev now : List ℕ
  now = types_set s t infos n l

  -- every word of a row but its first
  pub word_stays : (k i : ℕ) → 0 < i → i < control_width → word (row_at control_width k now) i ≡ word (row_at control_width k l) i
  word_stays k i first last =
      word_at control_width k i now last
      ∙ other_stays s t infos l n (k * control_width + i) (λ j u e. omega arith)
      ∙ sym (word_at control_width k i l last)

  name_stays : (k : ℕ) → control_name_lem s (row_at control_width k now) ≡ control_name_lem s (row_at control_width k l)
  name_stays k = same_name s (row_at control_width k now) (row_at control_width k l) (word_stays k 1 (omega arith) (omega arith)) (word_stays k 2 (omega arith) (omega arith)) (word_stays k 3 (omega arith) (omega arith))

  judged_stays : (k : ℕ) → control_ok s (row_at control_width k now) ≡ control_ok s (row_at control_width k l)
  judged_stays k = same-judged s (row_at control_width k now) (row_at control_width k l) (word_stays k 1 (omega arith) (omega arith)) (word_stays k 2 (omega arith) (omega arith)) (word_stays k 3 (omega arith) (omega arith))

  -- the type that a row has got is the one that it would get
  same-given : (k : ℕ) → k < n → paired_type s t infos (row_at control_width k now) ≡ get_or now (k * control_width) 0
  unfolding paired_type
  same-given k u =
      ap (λ name. type_by (type_of (row_at control_width k now)) (find (has_name t name) infos)) (name_stays k)
      ∙ go (find (has_name t (control_name_lem s (row_at control_width k l))) infos) (word_at control_width k 0 now (omega arith) ∙ ap (λ (i : ℕ). get_or now i 0) (omega arith)) (type-set s t infos l n fits k u)
    where
      go : (o : Option (List ℕ)) → type_of (row_at control_width k now) ≡ get_or now (k * control_width) 0 → get_or now (k * control_width) 0 ≡ type_by (type_of (row_at control_width k l)) o
          → type_by (type_of (row_at control_width k now)) o ≡ get_or now (k * control_width) 0
      go none e g = e
      go (some info) e g = sym g

  again-from : (j : ℕ) → j ≤ n → types_set s t infos j now ≡ now
  unfolding types_set
  again-from zero h = refl
  again-from (suc j) h =
      ap (λ words. set words (j * control_width) (paired_type s t infos (row_at control_width j now))) (again-from j (omega arith))
      ∙ ap (set now (j * control_width)) (same-given j (omega arith))
      ∙ set-get_or now (j * control_width) 0

-- ---- all that a caller sees
module _ (s l : List ℕ) (n : ℕ) (t infos : List ℕ) (m : ℕ) where
  pub pair-yes : may_pair s l n t infos m ≡ true → pair_exit s l n t infos m ≡ record { answer = answer 0 0 0 0; controls = types_set s t (infos_in m infos) n l }
  unfolding pair_exit
  pair-yes e = rw e

  pub pair-no : may_pair s l n t infos m ≡ false → pair_exit s l n t infos m ≡ record { answer = refusal bad_rows; controls = l }
  unfolding pair_exit
  pair-no e = rw e

  -- what may be paired, by its four parts
  pub record Fair : Type 0 where
    pub controls-lent : n ≤ room control_width l
    pub infos-lent : m ≤ room type_info_width infos
    pub controls-ok : all (control_ok s) (controls_in n l) ≡ true
    pub infos-ok : all (is_named t) (infos_in m infos) ≡ true

  pub fair : may_pair s l n t infos m ≡ true → Fair
  unfolding may_pair
  fair e = record {
    controls-lent = search (and_l, and_r, leb-true);
    infos-lent = search (and_l, and_r, leb-true);
    controls-ok = search (and_l, and_r);
    infos-ok = search (and_l, and_r);
  }

  pub may_pair_lem : Fair → may_pair s l n t infos m ≡ true
  unfolding may_pair
  may_pair_lem f = rw (le-leb n (room control_width l) f.controls-lent, le-leb m (room type_info_width infos) f.infos-lent, f.controls-ok) f.infos-ok

  pub lent : Fair → n * control_width ≤ length l
  lent f = let h = f.controls-lent in omega arith

pub pair-again : (s l : List ℕ) (n : ℕ) (t infos : List ℕ) (m : ℕ) → pair_exit s (pair_exit s l n t infos m).controls n t infos m ≡ pair_exit s l n t infos m
pair-again s l n t infos m = go (may_pair s l n t infos m) refl
  where
    judged : (f : Fair s l n t infos m) → Fair s (types_set s t (infos_in m infos) n l) n t infos m
    judged f = record {
      controls-lent = rw (as_long s t (infos_in m infos) l n) f.controls-lent;
      infos-lent = f.infos-lent;
      controls-ok = rows_all (control_ok s) control_width (types_set s t (infos_in m infos) n l) 0 n λ k u.
          judged_stays s t (infos_in m infos) l n (lent s l n t infos m f) (0 + k) ∙ all-rows (control_ok s) control_width l 0 n f.controls-ok k u;
      infos-ok = f.infos-ok;
    }

    go : (b : Bool) → may_pair s l n t infos m ≡ b → pair_exit s (pair_exit s l n t infos m).controls n t infos m ≡ pair_exit s l n t infos m
    go false e = ap (λ x. pair_exit s x.controls n t infos m) (pair-no s l n t infos m e)
    go true e =
        let f = fair s l n t infos m e in
        let yes = pair-yes s l n t infos m e in
        ap (λ x. pair_exit s x.controls n t infos m) yes
        ∙ pair-yes s (types_set s t (infos_in m infos) n l) n t infos m (may_pair_lem s (types_set s t (infos_in m infos) n l) n t infos m (judged f))
        ∙ ap (λ (words : List ℕ). record { answer = answer 0 0 0 0; controls = words }) (again-from s t (infos_in m infos) l n (lent s l n t infos m f) n (omega arith))
        ∙ sym yes
