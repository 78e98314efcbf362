-- Rows put into a lent slice, and what a reader of the slice finds there. One law for every width.
use Prim.Native.Nat.{ℕ, zero, suc, ◌+◌, ◌*◌, ◌≤◌, ◌<◌}
use native.Mathlib.Omega.{arith}
use native.Mathlib.Nat.{zero-add, zero-mul, add_comm, suc-mul}
use mathlib.Core.Path.{◌≡◌, refl, sym, ap, ap₂, ◌∙◌}
use mathlib.Core.List.{List, [], ◌∷◌, ◌++◌, append_assoc}
use lib.ListN.{length, get_or, take, drop, length-append}
use lib.Seq.{sets-eq, take_at, drop_at, drop-drop}
use Rattle.rules.specs.Lists.{concat}
use Rattle.rules.specs.Rows.{written, row_at, rows_from}

-- every row has w words
abbrev pub Wide : ℕ → List (List ℕ) → Type 0
Wide w [] = Unit {0}
Wide w (r ∷ rs) = (length r ≡ w) × Wide w rs

pub wide_append : (w : ℕ) (a b : List (List ℕ)) → Wide w a → Wide w b → Wide w (a ++ b)
wide_append w [] b h k = k
wide_append w (r ∷ a) b h k = (h.0, wide_append w a b h.1 k)

one_more : (n w : ℕ) → w + n * w ≡ suc n * w
one_more n w = add_comm w (n * w) ∙ sym (suc-mul n w)

pub words_in : (w : ℕ) (rows : List (List ℕ)) → Wide w rows → length (concat rows) ≡ length rows * w
unfolding concat
words_in w [] h = omega arith
words_in w (r ∷ rs) h = length-append r (concat rs) ∙ rw (h.0, words_in w rs h.1) (one_more (length rs) w)

-- ---- what a reader of the slice finds
module _ (w : ℕ) (rows : List (List ℕ)) (wide : Wide w rows) (old : List ℕ) (fits : length rows * w ≤ length old) where
  pub written_is : written rows old ≡ concat rows ++ drop (length rows * w) old
  written_is =
      let e = words_in w rows wide in
      rw (zero-add, e) at (sets-eq (concat rows) old 0 (omega (arith, e)))

  pub behind-written : drop (length rows * w) (written rows old) ≡ drop (length rows * w) old
  behind-written = ap (drop (length rows * w)) written_is ∙ drop_at (concat rows) _ _ (words_in w rows wide)

pub row_of_words : (w : ℕ) (rows : List (List ℕ)) (rest : List ℕ) → Wide w rows → (i : ℕ) → i < length rows → row_at w i (concat rows ++ rest) ≡ get_or rows i []
unfolding concat
row_of_words w [] rest h i l = absurd (omega arith)
row_of_words w (r ∷ rs) rest h zero l = rw (append_assoc r (concat rs) rest, zero-mul w) (take_at r (concat rs ++ rest) w h.0)
row_of_words w (r ∷ rs) rest h (suc i) l =
    rw (append_assoc r (concat rs) rest, suc-mul i w, add_comm (i * w) w, ← (drop-drop (i * w) w (r ++ (concat rs ++ rest))))
    (ap (λ t. take w (drop (i * w) t)) (drop_at r (concat rs ++ rest) w h.0) ∙ row_of_words w rs rest h.1 i (omega arith))

pub row_written : (w : ℕ) (rows : List (List ℕ)) → Wide w rows → (old : List ℕ) → length rows * w ≤ length old
    → (i : ℕ) → i < length rows → row_at w i (written rows old) ≡ get_or rows i []
row_written w rows wide old fits i l = ap (row_at w i) (written_is w rows wide old fits) ∙ row_of_words w rows _ wide i l

-- ---- and all of them, one after the other
row-by-row : (w i : ℕ) (rows : List (List ℕ)) (words : List ℕ) → ((k : ℕ) → k < length rows → row_at w (i + k) words ≡ get_or rows k []) → rows_from w i (length rows) words ≡ rows
unfolding rows_from
row-by-row w i [] words h = refl
row-by-row w i (r ∷ rs) words h =
    let first : row_at w i words ≡ r = ap (λ (j : ℕ). row_at w j words) (omega arith) ∙ h 0 (omega arith) in
    let rest : rows_from w (i + 1) (length rs) words ≡ rs = row-by-row w (i + 1) rs words (λ k u. ap (λ (j : ℕ). row_at w j words) (omega arith) ∙ h (suc k) (omega arith)) in
    ap₂ (λ (x : List ℕ) (xs : List (List ℕ)). x ∷ xs) first rest

pub rows-from-words : (w : ℕ) (rows : List (List ℕ)) (rest : List ℕ) → Wide w rows → rows_from w 0 (length rows) (concat rows ++ rest) ≡ rows
rows-from-words w rows rest h = row-by-row w 0 rows (concat rows ++ rest) (λ k u. ap (λ (j : ℕ). row_at w j (concat rows ++ rest)) (omega arith) ∙ row_of_words w rows rest h k u)

pub rows_back : (w : ℕ) (rows : List (List ℕ)) → Wide w rows → (old : List ℕ) → length rows * w ≤ length old → rows_from w 0 (length rows) (written rows old) ≡ rows
rows_back w rows wide old fits = ap (rows_from w 0 (length rows)) (written_is w rows wide old fits) ∙ rows-from-words w rows _ wide
