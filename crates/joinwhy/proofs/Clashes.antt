-- What is found is a clash, and where two well-formed tables clash one is found: exactly where joining them answers 17.
use Prim.Native.Nat.{ℕ}
use native.Mathlib.Omega.{arith}
use mathlib.Core.Path.{◌≡◌, refl, sym, ap, subst, ◌∙◌}
use mathlib.Core.Bool.{Bool, true, false, cond, not, ◌&&◌, true≢false}
use mathlib.Core.List.{List, ◌++◌}
use mathlib.Core.Option.{Option, none, some}
use borrow.Author.Tests.{not-false}
use lib.Dec.{ltb}
use lib.ListN.{length}
use Rattle.rules.specs.Lists.{text}
use Rattle.rules.specs.Answer.{bad_table, no_room_for_text, other_head, two_rows, more_scopes}
use Rattle.rules.specs.Texts.{TextExit, text_exit, refuse}
use Rattle.rules.specs.CodeTable.{Tie, scopes, well_formed_lem, row_of}
use Rattle.rules.specs.Join.{scopes_agree, join_scopes, same_head_lem, joined, join_exit}
use Rattle.rules.proofs.ListLaws.{and_l, and_r, none_some}
use Rattle.rules.proofs.CodeTableLaws.{found-held, held_found}
use Rattle.joinlaws.proofs.MergeLaws.{failed}
use Rattle.joinlaws.proofs.JoinLaws.{one-row}
use Rattle.joinlaws.proofs.ClashLaws.{apart_rows, agreed_rows}
use Rattle.tabletext.specs.Text.{row_line, scope_name, type_remark}
use Rattle.succession.specs.Lacks.{Lack, Lacks, passes, scopes_other}
use Rattle.succession.specs.Found.{as_lack}
use Rattle.succession.proofs.Scopes.{none_other, found_lacks, found-other}
use Rattle.joinwhy.specs.Why.{first_clash, Clashes, tie, other_line, lack_text}

pub first-formed : (t t' : List ℕ) → well_formed_lem t ≡ true → well_formed_lem t' ≡ true → first_clash t t' ≡ scopes_other false t' (scopes t)
unfolding first_clash
first-formed t t' a b = rw (a, b)

-- ---- what is found is a clash
pub found_clashes : (t t' : List ℕ) (c : Lack) → first_clash t t' ≡ some c → Clashes t t' c
unfolding first_clash
found_clashes t t' c e = go (well_formed_lem t && well_formed_lem t') e
  where
    clash : Lacks t t' c → (o : Option Tie) → c.other ≡ o → passes false c.row o ≡ false → Clashes t t' c
    clash l none q h = absurd (true≢false h)
    clash l (some r) q h =
        let g = found-held t' c.kind c.code c.row.id r (sym l.looked_up ∙ q) in
        record { another = r; is-other = q; in_one = l.held; in_other = g.0; one-id = sym g.1; differ = λ d. l.other_row (q ∙ ap some (sym d)) }

    go : (b : Bool) → cond b (scopes_other false t' (scopes t)) none ≡ some c → Clashes t t' c
    go true h = clash (found_lacks false t t' c h) c.other refl (found-other false t t' c h)
    go false h = absurd (none_some h)

-- what is said of it: its scope, and the two rows
pub clash_said : {t t' : List ℕ} {c : Lack} (k : Clashes t t' c)
    → lack_text (as_lack (some c)) ≡ scope_name c.kind c.code ++ (type_remark c.kind c.code ++ (text "\n" ++ (row_line c.row ++ row_line k.another)))
unfolding lack_text other_line as_lack
clash_said {c = c} k =
    let r = k.another in
    rw k.is-other
    (ap (λ (i : ℕ). scope_name c.kind c.code ++ (type_remark c.kind c.code ++ (text "\n" ++ (row_line c.row ++ row_line (tie i r.target r.kind))))) k.one-id)

-- ---- no clash is missed
module _ (t t' : List ℕ) (w : well_formed_lem t ≡ true) (w' : well_formed_lem t' ≡ true) where
  pub none_clashes : first_clash t t' ≡ none → (c : Lack) → Clashes t t' c → ⊥
  none_clashes e c k =
      let h = k.in_one in
      let r = k.another in
      let n = none_other false t' (scopes t) h.scope c.row (sym (first-formed t t' w w') ∙ e) h.listed h.row in
      let n' : passes false c.row (row_of t' c.kind c.code c.row.id) ≡ true = rw (h.its-kind, h.its-code) at n in
      let f : row_of t' c.kind c.code r.id ≡ some r = held_found t' c.kind c.code r w' k.in_other in
      let f' : row_of t' c.kind c.code c.row.id ≡ some r = subst (λ (i : ℕ). row_of t' c.kind c.code i ≡ some r) (sym k.one-id) f in
      k.differ (sym (one-row r c.row (sym k.one-id) (sym (ap (passes false c.row) f') ∙ n')))

  -- ---- exactly where the scopes don't agree
  pub found_where_apart : scopes_agree (scopes t) (scopes t') ≡ false → (c : Lack) × (first_clash t t' ≡ some c)
  found_where_apart g = go (first_clash t t') refl
    where
      go : (o : Option Lack) → first_clash t t' ≡ o → (c : Lack) × (first_clash t t' ≡ some c)
      go none e =
          let k = apart_rows t t' w w' g in
          let c : Lack = record { kind = k.kind; code = k.code; row = k.row; other = some k.other } in
          absurd (none_clashes e c (record { another = k.other; is-other = refl; in_one = k.in_one; in_other = k.in_other; one-id = k.one-id; differ = k.differ }))
      go (some c) e = (c, e)

pub apart_where_found : (t t' : List ℕ) (c : Lack) → first_clash t t' ≡ some c → scopes_agree (scopes t) (scopes t') ≡ false
apart_where_found t t' c e = go (scopes_agree (scopes t) (scopes t')) refl
  where
    go : (b : Bool) → scopes_agree (scopes t) (scopes t') ≡ b → b ≡ false
    go false g = refl
    go true g = let k = found_clashes t t' c e in absurd (k.differ (agreed_rows t t' g k.in_one k.in_other k.one-id))

-- ---- exactly where joining answers 17
abbrev Is17 : TextExit → Type 0
Is17 e = e.answer.number ≡ two_rows

never : (x out : List ℕ) → Is17 (text_exit x out) → ⊥
unfolding text_exit
never x out h =
    let p = failed Is17 (ltb (length out) (length x)) (refuse no_room_for_text out) _ (λ q. omega arith) h in
    let z : ◌≡◌ {A = ℕ} 0 17 = p.1 in
    omega arith

both_formed : (t t' : List ℕ) (c : Lack) → first_clash t t' ≡ some c → (well_formed_lem t && well_formed_lem t') ≡ true
unfolding first_clash
both_formed t t' c e = go (well_formed_lem t && well_formed_lem t') e
  where
    go : (b : Bool) → cond b (scopes_other false t' (scopes t)) none ≡ some c → b ≡ true
    go true h = refl
    go false h = absurd (none_some h)

module _ (t t' out : List ℕ) where
  pub found-on_17 : (join_exit t t' out).answer.number ≡ two_rows → (c : Lack) × (first_clash t t' ≡ some c)
  unfolding join_exit
  found-on_17 e =
      let p = failed Is17 (not (well_formed_lem t && well_formed_lem t')) (refuse bad_table out) _ (λ q. omega arith) e in
      let q = failed Is17 (not (same_head_lem t t')) (refuse other_head out) _ (λ z. omega arith) p.1 in
      let w = not-false (well_formed_lem t && well_formed_lem t') p.0 in
      go w (scopes_agree (scopes t) (scopes t')) refl q.1
    where
      go : (well_formed_lem t && well_formed_lem t') ≡ true → (b : Bool) → scopes_agree (scopes t) (scopes t') ≡ b
          → (cond (not b) (refuse two_rows out) (cond (ltb 64 (length (join_scopes (scopes t) (scopes t')))) (refuse more_scopes out) (text_exit (joined t t') out))).answer.number ≡ two_rows
          → (c : Lack) × (first_clash t t' ≡ some c)
      go w true g h = absurd (never (joined t t') out (failed Is17 (ltb 64 (length (join_scopes (scopes t) (scopes t')))) (refuse more_scopes out) _ (λ z. omega arith) h).1)
      go w false g h = found_where_apart t t' (and_l (well_formed_lem t) (well_formed_lem t') w) (and_r (well_formed_lem t) (well_formed_lem t') w) g

  pub answers_17 : (c : Lack) → first_clash t t' ≡ some c → same_head_lem t t' ≡ true → (join_exit t t' out).answer.number ≡ two_rows
  unfolding join_exit
  answers_17 c e h = rw (both_formed t t' c e, h, apart_where_found t t' c e)
