-- A table in which nothing is found is well formed.
use mathlib.Core.Path.{◌≡◌, refl, sym, ap, ◌∙◌}
use mathlib.Core.Bool.{Bool, true, false, ◌&&◌, ◌||◌, cond, or-true}
use mathlib.Core.List.{List, map}
use Prim.Native.Nat.{ℕ, zero, suc, ◌+◌, ◌*◌, ◌-◌, ◌/◌, ◌%◌, ◌≤◌}
use native.Mathlib.Omega.{arith}
use borrow.Author.Tests.{lt-ltb, le-leb, ltb-true, ltb-false, eq-eqb, eqb-true, eqb-false}
use lib.Dec.{ltb, eqb}
use lib.ListN.{length}
use Rattle.rules.specs.Lists.{all, ascends}
use Rattle.rules.specs.Bytes.{byte, u16}
use Rattle.rules.specs.CodeTable.{id_of, key, key_of, header_count, scope_count, contents_at, bodies_at, codes_at, ties_at, scopes_at, tie_ok, ties_ok, scope_ok, scopes_fit, well_formed_lem}
use Rattle.joinlaws.proofs.MergeLaws.{failed}
use Rattle.tablebreak.specs.declared.Break.{Break}
use Rattle.tablebreak.specs.Rules.{many_headers, many_scopes, scope_kind_lem, scope_code_lem, scope_order, id_order, id_high, target_high, row_kind, too_long_lem, longest, broken, unbroken, placed, or_else, header_break, order_rule, scope_rule, scope_break, row_rule, row_break, rows_break, end_of, short, body_break, searched, break_of}
use Rattle.tablebreak.proofs.Turns.{well, over, otherwise}

-- ---- nothing is found
abbrev NoRule : Break → Type 0
NoRule b = b.rule ≡ 0

both_by : (v : Bool) (a b : Break) → eqb a.rule 0 ≡ v → (cond v b a).rule ≡ 0 → (a.rule ≡ 0) × (b.rule ≡ 0)
both_by true a b q e = (eqb-true a.rule 0 q, e)
both_by false a b q e = absurd (eqb-false a.rule 0 q e)

both : (a b : Break) → (or_else a b).rule ≡ 0 → (a.rule ≡ 0) × (b.rule ≡ 0)
unfolding or_else
both a b e = both_by (eqb a.rule 0) a b refl e

-- ---- header codes
headers-ok : (t : List ℕ) (at least n : ℕ) → (header_break t at least n).rule ≡ 0 → ascends least (codes_at t at n) ≡ true
unfolding header_break codes_at ascends
headers-ok t at least zero e = refl
headers-ok t at least (suc n) e =
    let p = failed NoRule (ltb (u16 t at) least) _ (header_break t (at + 2) (u16 t at + 1) n) (λ z. omega arith) e in
    rw (le-leb least (u16 t at) (ltb-false (u16 t at) least p.0)) (headers-ok t (at + 2) (u16 t at + 1) n p.1)

-- ---- rows
row_ok : (at i x y least : ℕ) → (row_rule at i x y least).rule ≡ 0 → (least ≤ i) × (i ≤ 0xFC) × (x ≤ 0x7FFF) × (y ≤ 4)
unfolding row_rule
row_ok at i x y least e =
    let k = cond (ltb 4 y) (broken row_kind (at + 3) y 0) unbroken in
    let m = cond (ltb 0x7FFF x) (broken target_high (at + 1) x 0) k in
    let h = cond (ltb 0xFC i) (broken id_high at i 0) m in
    let p = failed NoRule (ltb i least) (broken id_order at i (least - 1)) h (λ z. omega arith) e in
    let q = failed NoRule (ltb 0xFC i) (broken id_high at i 0) m (λ z. omega arith) p.1 in
    let r = failed NoRule (ltb 0x7FFF x) (broken target_high (at + 1) x 0) k (λ z. omega arith) q.1 in
    let s = failed NoRule (ltb 4 y) (broken row_kind (at + 3) y 0) unbroken (λ z. omega arith) r.1 in
    (ltb-false i least p.0, ltb-false 0xFC i q.0, ltb-false 0x7FFF x r.0, ltb-false 4 y s.0)

rows_ok : (t : List ℕ) (at least s k c number n : ℕ) → (row_break t at least s k c number n).rule ≡ 0
    → (ascends least (map id_of (ties_at t at n)) ≡ true) × (all tie_ok (ties_at t at n) ≡ true)
unfolding row_break ties_at ascends all
rows_ok t at least s k c number zero e = (refl, refl)
rows_ok t at least s k c number (suc n) e =
    let i = byte t at in
    let x = u16 t (at + 1) in
    let y = byte t (at + 3) in
    let b = both (placed (row_rule at i x y least) s k c number) (row_break t (at + 4) (i + 1) s k c (number + 1) n) e in
    let o = row_ok at i x y least b.0 in
    let g = rows_ok t (at + 4) (i + 1) s k c (number + 1) n b.1 in (
      rw (le-leb least i o.0) g.0,
      rw (le-leb i 0xFC o.1, lt-ltb x 0x8000 (omega (arith, o.2)), le-leb y 4 o.3) g.1,
    )

-- ---- scopes
order-ok : (at key least : ℕ) → (order_rule at key least).rule ≡ 0 → least ≤ key
unfolding order_rule
order-ok at key least e =
    ltb-false key least (failed NoRule (ltb key least) (broken scope_order at ((least - 1) / 65536) ((least - 1) % 65536)) unbroken (λ z. omega arith) e).0

code_by : (k c : ℕ) → k ≤ 2 → (p q : Bool) → ltb k 2 ≡ p → ltb 0 c ≡ q → (p && q) ≡ false → (eqb k 2 || eqb c 0) ≡ true
code_by k c h true true ep eq e = let z : ◌≡◌ {A = ℕ} 0 1 = cc in absurd (omega arith)
code_by k c h true false ep eq e = let g : c ≤ 0 = ltb-false 0 c eq in rw (eq-eqb c 0 (omega arith)) (or-true (eqb k 2))
code_by k c h false q ep eq e = let g : 2 ≤ k = ltb-false k 2 ep in rw (eq-eqb k 2 (omega arith))

scope-ok : (at k c least : ℕ) → (scope_rule at k c least).rule ≡ 0 → (k ≤ 2) × ((eqb k 2 || eqb c 0) ≡ true) × (least ≤ key_of k c)
unfolding scope_rule
scope-ok at k c least e =
    let o = order_rule at (key_of k c) least in
    let m = cond (ltb k 2 && ltb 0 c) (broken scope_code_lem (at + 1) c 0) o in
    let p = failed NoRule (ltb 2 k) (broken scope_kind_lem at k 0) m (λ z. omega arith) e in
    let q = failed NoRule (ltb k 2 && ltb 0 c) (broken scope_code_lem (at + 1) c 0) o (λ z. omega arith) p.1 in
    let h = ltb-false 2 k p.0 in
    (h, code_by k c h (ltb k 2) (ltb 0 c) refl refl q.0, order-ok at (key_of k c) least q.1)

scopes-ok : (t : List ℕ) (at body least number n : ℕ) → (scope_break t at least number n).rule ≡ 0 → (rows_break t at body number n).rule ≡ 0
    → (ascends least (map key (scopes_at t at body n)) ≡ true) × (all scope_ok (scopes_at t at body n) ≡ true)
unfolding scope_break rows_break scopes_at ascends all ties_ok
scopes-ok t at body least number zero e f = (refl, refl)
scopes-ok t at body least number (suc n) e f =
    let k = byte t at in
    let c = u16 t (at + 1) in
    let m = u16 t (at + 3) in
    let b = both (placed (scope_rule at k c least) number k c 0) (scope_break t (at + 5) (key_of k c + 1) (number + 1) n) e in
    let d = both (row_break t body 0 number k c 1 m) (rows_break t (at + 5) (body + 4 * m) (number + 1) n) f in
    let o = scope-ok at k c least b.0 in
    let r = rows_ok t body 0 number k c 1 m d.0 in
    let g = scopes-ok t (at + 5) (body + 4 * m) (key_of k c + 1) (number + 1) n b.1 d.1 in
    (rw (le-leb least (key_of k c) o.2) g.0, rw (le-leb k 2 o.0, o.1, r.0, r.1) g.1)

-- ---- the table
body_ok : (t : List ℕ) → (body_break t).rule ≡ 0 → (end_of t ≡ length t) × ((rows_break t (contents_at t) (bodies_at t) 1 (scope_count t)).rule ≡ 0)
unfolding body_break
body_ok t e =
    let rows = rows_break t (contents_at t) (bodies_at t) 1 (scope_count t) in
    let long = cond (ltb (end_of t) (length t)) (broken too_long_lem (end_of t) (length t - end_of t) 0) rows in
    let p = failed NoRule (ltb (length t) (end_of t)) (short t (end_of t)) long (λ z. omega arith) e in
    let q = failed NoRule (ltb (end_of t) (length t)) (broken too_long_lem (end_of t) (length t - end_of t) 0) rows (λ z. omega arith) p.1 in
    (omega (arith, ltb-false (length t) (end_of t) p.0, ltb-false (end_of t) (length t) q.0), q.1)

found : (t : List ℕ) → (searched t).rule ≡ 0 → well_formed_lem t ≡ true
unfolding searched well_formed_lem scopes_fit
found t e =
    let last = or_else (header_break t 4 0 (header_count t)) (or_else (scope_break t (contents_at t) 0 1 (scope_count t)) (body_break t)) in
    let third = cond (ltb (length t) (bodies_at t)) (short t (bodies_at t)) last in
    let second = cond (ltb 64 (scope_count t)) (broken many_scopes 2 (scope_count t) 0) third in
    let first = cond (ltb 4 (header_count t)) (broken many_headers 1 (header_count t) 0) second in
    let p = failed NoRule (ltb (length t) 4) (short t 4) first (λ z. omega arith) e in
    let q = failed NoRule (ltb 4 (header_count t)) (broken many_headers 1 (header_count t) 0) second (λ z. omega arith) p.1 in
    let r = failed NoRule (ltb 64 (scope_count t)) (broken many_scopes 2 (scope_count t) 0) third (λ z. omega arith) q.1 in
    let s = failed NoRule (ltb (length t) (bodies_at t)) (short t (bodies_at t)) last (λ z. omega arith) r.1 in
    let h = both (header_break t 4 0 (header_count t)) _ s.1 in
    let c = both (scope_break t (contents_at t) 0 1 (scope_count t)) (body_break t) h.1 in
    let b = body_ok t c.1 in
    let o = scopes-ok t (contents_at t) (bodies_at t) 0 1 (scope_count t) c.0 b.1 in
    rw (
      le-leb (header_count t) 4 (ltb-false 4 (header_count t) q.0),
      le-leb (scope_count t) 64 (ltb-false 64 (scope_count t) r.0),
      headers-ok t 4 0 (header_count t) h.0,
      o.0,
      o.1,
      eq-eqb (end_of t) (length t) b.0,
    )

-- a rule is named exactly where a table isn't well formed
judged : (t : List ℕ) (w l : Bool) → well_formed_lem t ≡ w → ltb longest (length t) ≡ l → (break_of t).rule ≡ 0 → well_formed_lem t ≡ true
judged t true l ew el e = ew
judged t false true ew el e =
    let z : ◌≡◌ {A = ℕ} 13 0 = sym (ap (λ (b : Break). b.rule) (over t ew (ltb-true longest (length t) el))) ∙ e in
    absurd (omega arith)
judged t false false ew el e =
    found t (sym (ap (λ (b : Break). b.rule) (otherwise t ew (ltb-false longest (length t) el))) ∙ e)

pub named : (t : List ℕ) → (break_of t).rule ≡ 0 → well_formed_lem t ≡ true
named t e = judged t (well_formed_lem t) (ltb longest (length t)) refl refl e

pub unnamed : (t : List ℕ) → well_formed_lem t ≡ true → (break_of t).rule ≡ 0
unnamed t e = ap (λ (b : Break). b.rule) (well t e)
