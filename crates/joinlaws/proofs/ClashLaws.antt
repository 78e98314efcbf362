-- Two tables agree exactly where no scope and id has two different rows. For what is promised of answer 17, and for whoever says which rows these are.
use Prim.Native.Nat.{ℕ}
use native.Mathlib.Omega.{arith}
use mathlib.Core.Path.{◌≡◌, refl, sym, ap, ◌∙◌}
use mathlib.Core.Bool.{true, false, true≢false}
use mathlib.Core.List.{List}
use Rattle.rules.specs.CodeTable.{Tie, Scope, id_of, key, scopes, well_formed_lem, Holds}
use Rattle.rules.specs.Join.{same_row_lem, rows_agree, scopes_agree}
use Rattle.joinlaws.proofs.AgreeLaws.{apart, agree-there}
use Rattle.joinlaws.proofs.JoinLaws.{one-row, row_itself, one_key, good_there}
use Rattle.joinlaws.proofs.JoinedLaws.{good}

-- one scope and id has two different rows
pub record TwoRows (t t' : List ℕ) : Type 0 where
  pub kind : ℕ
  pub code : ℕ
  pub row : Tie
  pub other : Tie
  pub in_one : Holds t kind code row
  pub in_other : Holds t' kind code other
  pub one-id : row.id ≡ other.id
  pub differ : ¬ (row ≡ other)

pub apart_rows : (t t' : List ℕ) → well_formed_lem t ≡ true → well_formed_lem t' ≡ true → scopes_agree (scopes t) (scopes t') ≡ false → TwoRows t t'
apart_rows t t' w w' g =
    let p = apart key rows_agree (scopes t) (scopes t') g in
    let q = apart id_of same_row_lem p.left.rows p.right.rows p.fails in
    let o = one_key p.left p.right (good_there (scopes t) (good t w) p.left p.in_left) (good_there (scopes t') (good t' w') p.right p.in_right) p.one_number in
    record {
      kind = p.left.kind;
      code = p.left.code;
      row = q.left;
      other = q.right;
      in_one = record { scope = p.left; listed = p.in_left; its-kind = refl; its-code = refl; row = q.in_left };
      in_other = record { scope = p.right; listed = p.in_right; its-kind = sym o.kind; its-code = sym o.code; row = q.in_right };
      one-id = q.one_number;
      differ = λ e. true≢false (sym (row_itself q.right) ∙ ap (λ (r : Tie). same_row_lem r q.right) (sym e) ∙ q.fails);
    }

pub agreed_rows : (t t' : List ℕ) → scopes_agree (scopes t) (scopes t') ≡ true → {kind code : ℕ} {r r' : Tie} → Holds t kind code r → Holds t' kind code r' → r.id ≡ r'.id → r ≡ r'
agreed_rows t t' g {r = r} {r'} h h' i =
    let x : Scope = h.scope in
    let y : Scope = h'.scope in
    let k : x.kind ≡ y.kind = h.its-kind ∙ sym h'.its-kind in
    let c : x.code ≡ y.code = h.its-code ∙ sym h'.its-code in
    let e : key x ≡ key y = omega arith in
    let rows = agree-there key rows_agree (scopes t) (scopes t') g x y h.listed h'.listed e in
    one-row r r' i (agree-there id_of same_row_lem x.rows y.rows rows r r' h.row h'.row i)
