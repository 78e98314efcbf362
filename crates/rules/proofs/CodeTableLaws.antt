-- In a well-formed table a scope and an id have at most one row: what `row_of` finds is a row that the table holds, and each row held is found.
-- So a table that holds every row of another in the same scope says all that the other says.
use Prim.Native.Nat.{ℕ, ◌+◌, ◌*◌, ◌≤◌, ◌<◌}
use native.Mathlib.Omega.{arith}
use mathlib.Core.Path.{◌≡◌, refl, sym, ap, ◌∙◌}
use mathlib.Core.Bool.{true}
use mathlib.Core.List.Memᴰ
use mathlib.Core.List.{List, [], map}
use mathlib.Core.Option.{Option, none, some}
use lib.Bits.{bit_or, or_add_and, and_le_r}
use lib.Dec.{eqb}
use lib.ListN.{length}
use borrow.Author.Tests.{leb-true, ltb-true, eqb-true, eq-eqb}
use Rattle.rules.specs.Lists.{find, all, ascends}
use Rattle.rules.specs.CodeTable.{Tie, Scope, id_of, key, header_count, scope_count, bodies_at, header, scopes, tie_ok, ties_ok, scope_ok, row_count_lem, scopes_fit, well_formed_lem, is_scope, is_tied, rows_of, scope_rows, row_of, Holds, Extends}
use Rattle.rules.proofs.ListLaws.{and_l, and_r, all_there, found-there, there-found}

-- ---- what a well-formed table is, part by part
pub record Formed (t : List ℕ) : Type 0 where
  pub few-headers : header_count t ≤ 4
  pub few-scopes : scope_count t ≤ 64
  pub header-ascends : ascends 0 (header t) ≡ true
  pub keys-ascend : ascends 0 (map key (scopes t)) ≡ true
  pub scopes-ok : all scope_ok (scopes t) ≡ true
  pub ends : bodies_at t + 4 * row_count_lem (scopes t) ≡ length t

pub formed : (t : List ℕ) → well_formed_lem t ≡ true → Formed t
unfolding well_formed_lem scopes_fit
formed t e = record {
  few-headers = search (and_l, and_r, leb-true);
  few-scopes = search (and_l, and_r, leb-true);
  header-ascends = search (and_l, and_r);
  keys-ascend = search (and_l, and_r);
  scopes-ok = search (and_l, and_r);
  ends = search (and_l, and_r, eqb-true);
}

pub rows-ascend : (s : Scope) → scope_ok s ≡ true → ascends 0 (map id_of s.rows) ≡ true
unfolding ties_ok
rows-ascend s e = search (and_l, and_r)

-- ---- rows found, and rows held
-- a row that is found is one that the table holds, well formed or not
pub found-held : (t : List ℕ) (kind code id : ℕ) (r : Tie) → row_of t kind code id ≡ some r → Holds t kind code r × (r.id ≡ id)
unfolding row_of scope_rows
found-held t kind code id r e = go (find (is_scope kind code) (scopes t)) refl e
  where
    go : (o : Option Scope) → find (is_scope kind code) (scopes t) ≡ o → find (is_tied id) (rows_of o) ≡ some r → Holds t kind code r × (r.id ≡ id)
    go none q h = absurd (Memᴰ.not-nil (found-there (is_tied id) [] r h).0)
    go (some s) q h =
        let a = found-there (is_scope kind code) (scopes t) s q in
        let b = found-there (is_tied id) s.rows r h in
        let k : eqb s.kind kind ≡ true = and_l (eqb s.kind kind) (eqb s.code code) a.1 in
        let c : eqb s.code code ≡ true = and_r (eqb s.kind kind) (eqb s.code code) a.1 in
        (record { scope = s; listed = a.0; its-kind = eqb-true _ _ k; its-code = eqb-true _ _ c; row = b.0 }, eqb-true _ _ b.1)

-- kind and code say which scope
scope-key : (kind code : ℕ) (s y : Scope) → s.kind ≡ kind → s.code ≡ code → is_scope kind code y ≡ true → key y ≡ key s
scope-key kind code s y k c e =
    let k' : y.kind ≡ kind = eqb-true _ _ (and_l (eqb y.kind kind) (eqb y.code code) e) in
    let c' : y.code ≡ code = eqb-true _ _ (and_r (eqb y.kind kind) (eqb y.code code) e) in
    omega arith

-- a row that a well-formed table holds is found
pub held_found : (t : List ℕ) (kind code : ℕ) (r : Tie) → well_formed_lem t ≡ true → Holds t kind code r → row_of t kind code r.id ≡ some r
unfolding row_of scope_rows
held_found t kind code r w h =
    let F = formed t w in
    let s : Scope = h.scope in
    let is : is_scope kind code s ≡ true = rw (eq-eqb s.kind kind h.its-kind, eq-eqb s.code code h.its-code) in
    let only : (y : Scope) → is_scope kind code y ≡ true → key y ≡ key s = λ y e. scope-key kind code s y h.its-kind h.its-code e in
    rw (there-found key (is_scope kind code) 0 (scopes t) s only is F.keys-ascend h.listed)
    (there-found id_of (is_tied r.id) 0 s.rows r (λ y e. eqb-true _ _ e) (eq-eqb r.id r.id refl)
    (rows-ascend s (all_there scope_ok (scopes t) s F.scopes-ok h.listed)) h.row)

-- a newer table says all that an older one says
pub kept : (older newer : List ℕ) → well_formed_lem newer ≡ true → Extends older newer
    → (kind code id : ℕ) (r : Tie) → row_of older kind code id ≡ some r → row_of newer kind code id ≡ some r
kept older newer w x kind code id r e =
    let a = found-held older kind code id r e in
    ap (row_of newer kind code) (sym a.1) ∙ held_found newer kind code r w (x kind code r a.0)

-- ---- a target is below 0x8000, and a raw code marked unmapped isn't
pub unmapped_large : (id : ℕ) → 0x8000 ≤ bit_or 0x8000 id
unmapped_large id = or_least 0x8000 id
  where
    or_least : (a b : ℕ) → a ≤ bit_or a b
    or_least a b = omega (arith, or_add_and a b, and_le_r a b)

-- the rows of a well-formed table are in their limits
pub row_ok : (t : List ℕ) (kind code : ℕ) (r : Tie) → well_formed_lem t ≡ true → Holds t kind code r → tie_ok r ≡ true
unfolding ties_ok
row_ok t kind code r w h =
    let s : scope_ok h.scope ≡ true = all_there scope_ok (scopes t) h.scope (formed t w).scopes-ok h.listed in
    all_there tie_ok h.scope.rows r (search (and_l, and_r)) h.row

pub target_small : (t : List ℕ) (kind code : ℕ) (r : Tie) → well_formed_lem t ≡ true → Holds t kind code r → r.target < 0x8000
target_small t kind code r w h =
    let k : tie_ok r ≡ true = row_ok t kind code r w h in
    search (and_l, and_r, ltb-true)
