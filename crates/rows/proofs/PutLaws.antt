-- Rows put in several goes. One law for every width.
use Prim.Native.Nat.{ℕ, suc, ◌+◌, ◌*◌, ◌≤◌}
use native.Mathlib.Omega.{arith}
use native.Mathlib.Nat.{zero-mul, add-mul}
use mathlib.Core.Path.{◌≡◌, refl, sym, ap, ap₂, ◌∙◌}
use mathlib.Core.List.{List, [], ◌∷◌, ◌++◌, append-nil, append_assoc}
use lib.ListN.{length, set, take, drop}
use borrow.Rule.Slice.PartMut.{put_mid}
use lib.Seq.{sets, length-sets, sets-eq, length-take-le, take_at, drop_at, drop-drop}
use Rattle.rules.specs.Lists.{concat}
use Rattle.rules.specs.Rows.{written, row_at}
use Rattle.rules.proofs.ListLaws.{concat-append, sets-append}
use Rattle.rules.proofs.RowsLaws.{Wide, words_in}
use Rattle.rows.specs.Put.{put}

pub put-length : (w : ℕ) (l : List ℕ) (k : ℕ) (rows : List (List ℕ)) → length (put w l k rows) ≡ length l
unfolding put
put-length w l k rows = length-sets l (k * w) (concat rows)

pub put-none : (w : ℕ) (l : List ℕ) (k : ℕ) → put w l k [] ≡ l
unfolding put concat
put-none w l k = refl

pub put-append : (w : ℕ) (l : List ℕ) (k : ℕ) (a b : List (List ℕ)) → Wide w a → put w l k (a ++ b) ≡ put w (put w l k a) (k + length a) b
unfolding put
put-append w l k a b h =
    ap (sets l (k * w)) (concat-append a b)
    ∙ sets-append l (k * w) (concat a) (concat b)
    ∙ ap (λ i. sets (sets l (k * w) (concat a)) i (concat b)) (ap (λ n. k * w + n) (words_in w a h) ∙ sym (add-mul k (length a) w))

-- the first row of those that were put
pub put_first : (w : ℕ) (l : List ℕ) (k : ℕ) (r : List ℕ) (rs : List (List ℕ)) → Wide w (r ∷ rs) → (k + length (r ∷ rs)) * w ≤ length l → row_at w k (put w l k (r ∷ rs)) ≡ r
unfolding put concat
put_first w l k r rs h f =
    let m : k * w + length (r ++ concat rs) ≤ length l = rw (words_in w (r ∷ rs) h, ← (add-mul k (length (r ∷ rs)) w)) f in
    let z = drop (k * w + length (r ++ concat rs)) l in
    ap (row_at w k) (sets-eq (r ++ concat rs) l (k * w) m ∙ append_assoc (take (k * w) l) (r ++ concat rs) z)
    ∙ ap (take w) (drop_at (take (k * w) l) (r ++ concat rs ++ z) (k * w) (length-take-le (k * w) l (omega (arith, m))) ∙ append_assoc r (concat rs) z) ∙ take_at r (concat rs ++ z) w h.0

-- all rows, from the slice's start on
pub written-put : (w : ℕ) (l : List ℕ) (rows : List (List ℕ)) → put w l 0 rows ≡ written rows l
unfolding put
written-put w l rows = rw (zero-mul w)

-- one row, copied to its place
pub put_copied : (w k n : ℕ) (l ys row : List ℕ) → ys ≡ row → length row ≡ w → n ≡ w → k * w + w ≤ length l → put_mid (k * w) n l ys ≡ put w l k (row ∷ [])
unfolding put concat
put_copied w k n l ys row e z m h =
    let rest : drop n (drop (k * w) l) ≡ drop (k * w + length row) l = drop-drop n (k * w) l ∙ ap (λ j. drop (k * w + j) l) (m ∙ sym z) in
    ap₂ (λ x y. take (k * w) l ++ (x ++ y)) e rest
    ∙ sym (sets-eq row l (k * w) (omega (arith, h, z)) ∙ append_assoc (take (k * w) l) row (drop (k * w + length row) l)) ∙ ap (sets l (k * w)) (sym (append-nil row))

-- words stored one by one as code has them: at i, i + 1, i + 2, ..
abbrev stores_from : ℕ → List ℕ → ℕ → List ℕ → List ℕ
stores_from n l i [] = l
stores_from n l i (a ∷ ws) = stores_from (n + 1) (set l (i + n) a) i ws

abbrev pub stores : List ℕ → ℕ → List ℕ → List ℕ
stores l i [] = l
stores l i (a ∷ ws) = stores_from 1 (set l i a) i ws

stores_from_lem : (n : ℕ) (l : List ℕ) (i : ℕ) (ws : List ℕ) → stores_from n l i ws ≡ sets l (i + n) ws
stores_from_lem n l i [] = refl
stores_from_lem n l i (a ∷ ws) =
    let e : i + (n + 1) ≡ suc (i + n) = omega arith in
    stores_from_lem (n + 1) (set l (i + n) a) i ws ∙ rw e

-- a row of any width, store by store
pub put_stores : (w : ℕ) (l : List ℕ) (k : ℕ) (ws : List ℕ) → stores l (k * w) ws ≡ put w l k (ws ∷ [])
unfolding put concat
put_stores w l k [] = refl
put_stores w l k (a ∷ ws) =
    let e : k * w + 1 ≡ suc (k * w) = omega arith in
    stores_from_lem 1 (set l (k * w) a) (k * w) ws ∙ rw (e, append-nil)
