-- The scope with a kind and a code is the one with their number, and the contents tell where its rows are.
use Prim.Native.Nat.{ℕ, zero, suc, ◌+◌, ◌*◌, ◌<◌}
use mathlib.Core.Path.{◌≡◌, refl, sym, ap, ◌∙◌}
use mathlib.Core.List.{List, [], ◌∷◌, map}
use mathlib.Core.Bool.{Bool, true, false, ◌&&◌, cond}
use mathlib.Core.Option.{none, some}
use mathlib.Core.Option as maybe
use Rattle.std.specs.Prelude.{Option, None, Some}
use native.Mathlib.Numerals.{add-one}
use native.Mathlib.Omega.{arith}
use lib.Dec.{eqb}
use borrow.Author.Tests.{eqb-true, eqb-false, eq-eqb, ne_eqb}
use Rattle.rules.specs.Lists.{find, ascends}
use Rattle.rules.specs.Bytes.{Bytes, byte, u16}
use Rattle.rules.specs.CodeTable.{Tie, Scope, key, key_of, ties_at, scopes_at, scopes, scope_count, contents_at, bodies_at, is_scope, rows_of, scope_rows}
use Rattle.coderows.specs.Look.{Formed, find_by, items_at, indexes, key_at, count_at, counts_to, KeysAscend, found_body, no_rows, body_rows}
use Rattle.rules.specs.Told.{told}
use Rattle.rules.proofs.ToldLaws.{told_some, told_none}
use Rattle.rules.proofs.CodeTableLaws.{formed}
use Rattle.joinlaws.proofs.JoinedLaws.{u16-small}

same_key : (k c kind code : ℕ) → c < 65536 → code < 65536 → (eqb k kind && eqb c code) ≡ eqb (key_of k c) (key_of kind code)
same_key k c kind code p q = go (eqb k kind) refl (eqb c code) refl
  where
    go : (a : Bool) → eqb k kind ≡ a → (b : Bool) → eqb c code ≡ b → (a && b) ≡ eqb (key_of k c) (key_of kind code)
    go true d true e =
        let x = eqb-true k kind d in
        let y = eqb-true c code e in
        sym (eq-eqb (key_of k c) (key_of kind code) (omega arith))
    go true d false e =
        let x = eqb-true k kind d in
        let y = eqb-false c code e in
        sym (ne_eqb (key_of k c) (key_of kind code) (λ z. y (omega arith)))
    go false d b e =
        let x = eqb-false k kind d in
        sym (ne_eqb (key_of k c) (key_of kind code) (λ z. x (omega arith)))

module _ (t : List ℕ) (B : Bytes t) (kind code : ℕ) (fits : code < 65536) where
  by_key : (at body n : ℕ) → find (is_scope kind code) (scopes_at t at body n) ≡ find_by key (key_of kind code) (scopes_at t at body n)
  unfolding find scopes_at
  by_key at body zero = refl
  by_key at body (suc n) =
      rw (same_key (byte t at) (u16 t (at + 1)) kind code (u16-small t (at + 1) B) fits, by_key (at + 5) (body + 4 * u16 t (at + 3)) n)

  rows-by-key : scope_rows t kind code ≡ rows_of (find_by key (key_of kind code) (scopes t))
  unfolding scope_rows
  rows-by-key = ap rows_of (by_key (contents_at t) (bodies_at t) (scope_count t))

-- ---- scopes by their place in the contents
module _ (t : List ℕ) (contents bodies : ℕ) where
  abbrev scope_at : ℕ → Scope
  scope_at i = record {
    kind = byte t (contents + 5 * i);
    code = u16 t (contents + 5 * i + 1);
    rows = ties_at t (bodies + 4 * counts_to t contents i) (count_at t contents i);
  }

  scopes-from : (i n : ℕ) → scopes_at t (contents + 5 * i) (bodies + 4 * counts_to t contents i) n ≡ map scope_at (indexes i n)
  unfolding scopes_at items_at counts_to
  scopes-from i zero = refl
  scopes-from i (suc n) =
      let a : contents + 5 * i + 5 ≡ contents + 5 * suc i = omega arith in
      let b : bodies + 4 * counts_to t contents i + 4 * count_at t contents i ≡ bodies + 4 * (counts_to t contents i + count_at t contents i) = omega arith in
      rw (a, b, add-one i) (ap (λ l. scope_at i ∷ l) (scopes-from (suc i) n))

  scopes-placed : (n : ℕ) → scopes_at t contents bodies n ≡ map scope_at (indexes 0 n)
  unfolding counts_to
  scopes-placed n =
      let a : contents ≡ contents + 5 * 0 = omega arith in
      let b : bodies ≡ bodies + 4 * 0 = omega arith in
      ap (λ x. scopes_at t x bodies n) a ∙ ap (λ x. scopes_at t (contents + 5 * 0) x n) b ∙ scopes-from 0 n

  abbrev rows_at : maybe.Option ℕ → List Tie
  rows_at none = []
  rows_at (some i) = (scope_at i).rows

  rows_of_place : (k : ℕ) (is : List ℕ) → rows_of (find_by key k (map scope_at is)) ≡ rows_at (find_by (key_at t contents) k is)
  unfolding find
  rows_of_place k [] = refl
  rows_of_place k (i ∷ is) = go (rows_of_place k is) (eqb (key_at t contents i) k)
    where
      go : rows_of (find_by key k (map scope_at is)) ≡ rows_at (find_by (key_at t contents) k is)
          → (b : Bool) → rows_of (cond b (some (scope_at i)) (find_by key k (map scope_at is))) ≡ rows_at (cond b (some i) (find_by (key_at t contents) k is))
      go rec true = refl
      go rec false = rec

  keys_of_places : (is : List ℕ) → map key (map scope_at is) ≡ map (key_at t contents) is
  keys_of_places [] = refl
  keys_of_places (i ∷ is) = ap (λ l. key_at t contents i ∷ l) (keys_of_places is)

-- ---- what the search for a scope comes to
-- a scope was sought
pub record ScopeSought (t : List ℕ) (kind code n : ℕ) (p : Option ℕ) : Type 0 where
  pub bytes : Bytes t
  pub code_fits : code < 65536
  pub scopes-is : n ≡ scope_count t
  pub found : KeysAscend t (contents_at t) 0 n → p ≡ told (find_by (key_at t (contents_at t)) (key_of kind code) (indexes 0 n))

module _ {t : List ℕ} {kind code n : ℕ} {p : Option ℕ} (S : ScopeSought t kind code n p) (F : Formed t) where
  abbrev contents : ℕ
  contents = contents_at t

  abbrev bodies : ℕ
  bodies = contents_at t + 5 * n

  abbrev index : maybe.Option ℕ
  index = find_by (key_at t contents) (key_of kind code) (indexes 0 n)

  keys-ascend : KeysAscend t contents 0 n
  keys-ascend =
      let e : ascends 0 (map key (scopes_at t contents bodies n)) ≡ true = rw S.scopes-is (formed t F).keys-ascend in
      rw (← (keys_of_places t contents bodies (indexes 0 n)), ← (scopes-placed t contents bodies n)) e

  rows-there : rows_at t contents bodies index ≡ scope_rows t kind code
  rows-there =
      let e : scope_rows t kind code ≡ rows_of (find_by key (key_of kind code) (scopes_at t contents bodies n)) =
      rw S.scopes-is (rows-by-key t S.bytes kind code S.code_fits) in
      sym (e ∙ rw (scopes-placed t contents bodies n) (rows_of_place t contents bodies (key_of kind code) (indexes 0 n)))

  pub missing_rows : p ≡ None → body_rows t no_rows ≡ scope_rows t kind code
  unfolding body_rows ties_at
  missing_rows e = ap (rows_at t contents bodies) (sym (told_none index p (S.found keys-ascend) e)) ∙ rows-there

  pub listed-rows : (i : ℕ) → p ≡ Some i → body_rows t (found_body (bodies + 4 * counts_to t contents i) (count_at t contents i)) ≡ scope_rows t kind code
  unfolding body_rows
  listed-rows i e = ap (rows_at t contents bodies) (sym (told_some index p (S.found keys-ascend) e)) ∙ rows-there
