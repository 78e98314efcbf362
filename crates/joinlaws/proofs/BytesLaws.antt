-- A code table whose numbers are in their limits consists of bytes. For joined tables, and for those that are made of text.
use Prim.Native.Nat.{ℕ, zero, suc, ◌/◌, ◌%◌, ◌≤◌, ◌<◌}
use native.Mathlib.Omega.{arith}
use mathlib.Core.Path.{◌≡◌, refl}
use mathlib.Core.List.{List, [], ◌∷◌, ◌++◌, map, Memᴰ}
use mathlib.Core.Bool.{true}
use lib.Dec.{lit<}
use lib.ListN.{length}
use borrow.Author.Tests.{leb-true}
use Rattle.rules.specs.Lists.{concat}
use Rattle.rules.specs.Bytes.{Bytes, two_bytes_lem}
use Rattle.rules.specs.CodeTable.{Tie, Scope, tie_ok}
use Rattle.rules.specs.Join.{tie_bytes, ties_bytes, scope_bytes, table_bytes}
use Rattle.rules.proofs.ListLaws.{and_l, and_r, all_there}
use Rattle.joinlaws.proofs.TableBytesLaws.{Fits}
use Rattle.joinlaws.proofs.JoinLaws.{scope-ok, Good, good_there}

-- ---- lists of bytes
nil_bytes : Bytes []
nil_bytes i = lit< tt

cons_bytes : (x : ℕ) (xs : List ℕ) → x < 256 → Bytes xs → Bytes (x ∷ xs)
cons_bytes x xs h B zero = h
cons_bytes x xs h B (suc i) = B i

append-bytes : (xs ys : List ℕ) → Bytes xs → Bytes ys → Bytes (xs ++ ys)
append-bytes [] ys X Y = Y
append-bytes (x ∷ xs) ys X Y = cons_bytes x (xs ++ ys) (X 0) (append-bytes xs ys (λ i. X (suc i)) Y)

two_bytes : (n : ℕ) → n < 65536 → Bytes (two_bytes_lem n)
two_bytes n h =
    let a : n % 256 < 256 = omega arith in
    let b : n / 256 < 256 = omega arith in
    cons_bytes (n % 256) (n / 256 ∷ []) a (cons_bytes (n / 256) [] b nil_bytes)

concat-bytes : {X : Type 0} (g : X → List ℕ) (xs : List X) → ((x : X) → Memᴰ x xs → Bytes (g x)) → Bytes (concat (map g xs))
unfolding concat
concat-bytes g [] h = nil_bytes
concat-bytes g (x ∷ xs) h = append-bytes (g x) (concat (map g xs)) (h x (Memᴰ.head refl)) (concat-bytes g xs (λ y m. h y (Memᴰ.tail m)))

-- ---- the table
module _ (first : ℕ) (codes : List ℕ) (ss : List Scope) (small : first < 256) (few : length codes ≤ 4) (good : Good ss) (fits : Fits codes ss) where
  scope-bytes : (s : Scope) → Memᴰ s ss → Bytes (scope_bytes s)
  scope-bytes s m =
      let o = scope-ok s (good_there ss good s m) in
      let k : s.kind < 256 = let h = o.small-kind in omega arith in
      let g = fits.scopes-fit s m in
      cons_bytes s.kind (two_bytes_lem s.code ++ two_bytes_lem (length s.rows)) k
      (append-bytes (two_bytes_lem s.code) (two_bytes_lem (length s.rows)) (two_bytes s.code g.code_fits) (two_bytes (length s.rows) g.rows_fit))

  tie-bytes : (s : Scope) → Memᴰ s ss → (r : Tie) → Memᴰ r s.rows → Bytes (tie_bytes r)
  tie-bytes s m r n =
      let o = scope-ok s (good_there ss good s m) in
      let t : tie_ok r ≡ true = all_there tie_ok s.rows r o.ties n in
      let i : r.id ≤ 252 = leb-true r.id 0xFC (search (and_l, and_r)) in
      let k : r.kind ≤ 4 = leb-true r.kind 4 (search (and_l, and_r)) in
      let i' : r.id < 256 = omega arith in
      let k' : r.kind < 256 = omega arith in
      cons_bytes r.id (two_bytes_lem r.target ++ (r.kind ∷ [])) i'
      (append-bytes (two_bytes_lem r.target) (r.kind ∷ []) (two_bytes r.target ((fits.scopes-fit s m).targets_fit r n)) (cons_bytes r.kind [] k' nil_bytes))

  pub table-bytes : Bytes (table_bytes first codes ss)
  unfolding table_bytes
  table-bytes =
      let n : length codes < 256 = omega arith in
      let bodies : List ℕ = concat (map (λ (s : Scope). ties_bytes s.rows) ss) in
      let contents : List ℕ = concat (map scope_bytes ss) in
      let header : List ℕ = concat (map two_bytes_lem codes) in
      append-bytes (first ∷ length codes ∷ two_bytes_lem (length ss)) (header ++ (contents ++ bodies))
      (cons_bytes first (length codes ∷ two_bytes_lem (length ss)) small (cons_bytes (length codes) (two_bytes_lem (length ss)) n (two_bytes (length ss) fits.few-scopes)))
      (append-bytes header (contents ++ bodies) (concat-bytes two_bytes_lem codes (λ c m. two_bytes c (fits.codes_fit c m)))
      (append-bytes contents bodies (concat-bytes scope_bytes ss scope-bytes) (concat-bytes (λ (s : Scope). ties_bytes s.rows) ss (λ s m. concat-bytes tie_bytes s.rows (tie-bytes s m)))))
