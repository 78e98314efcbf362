-- One turn of each search, by the numbers that the code has read.
use mathlib.Core.Path.{◌≡◌, refl, sym, ap, subst, ◌∙◌}
use mathlib.Core.Bool.{true, false, cond}
use mathlib.Core.List.{List}
use Prim.Native.Nat.{ℕ, zero, suc, ◌+◌, ◌*◌, ◌-◌, ◌/◌, ◌%◌, ◌≤◌, ◌<◌}
use native.Mathlib.Nat.{not-suc-le-zero}
use native.Mathlib.Numerals.{sub-one}
use native.Mathlib.Omega.{arith}
use borrow.Author.Tests.{lt-ltb, le-ltb, eq-eqb, ne_eqb}
use lib.Dec.{ltb}
use lib.ListN.{length}
use Rattle.rules.specs.Bytes.{byte, u16}
use Rattle.rules.specs.CodeTable.{key_of, header_count, scope_count, contents_at, bodies_at, scopes_at, row_count_lem, well_formed_lem}
use Rattle.codetable.specs.Reads.{ReadsRow}
use Rattle.codetable.specs.declared.RowRead.{RowRead}
use Rattle.codetable.proofs.Steps.{CodeRead, ScopeRead}
use Rattle.joinlaws.proofs.TableBytesLaws.{length-ties_at}
use Rattle.tablebreak.specs.declared.Break.{Break}
use Rattle.tablebreak.specs.Rules.{many_headers, many_scopes, header_order, scope_kind_lem, scope_code_lem, scope_order, id_order, id_high, target_high, row_kind, too_short_lem, too_long_lem, over_longest, longest, broken, unbroken, placed, or_else, header_break, order_rule, scope_rule, scope_break, row_rule, row_break, rows_break, end_of, body_break, searched, break_of, BodyReady, Names, Told}
use Rattle.std.proofs.Common.{Option}

-- ---- what is told of a break
pub told_broken : {x b : Break} {rule at found before : ℕ} → (rule ≡ 0 → ⊥) → x ≡ broken rule at found before → b ≡ broken rule at found before → Names x b
told_broken n e g = record { is = e ∙ sym g; some = λ z. n (ap (λ (x : Break). x.rule) (sym e) ∙ z) }

pub told_placed : (found : Break) {x b : Break} {scope kind code row : ℕ} → (found.rule ≡ 0 → ⊥) → x ≡ placed found scope kind code row → b ≡ placed found scope kind code row → Names x b
told_placed found n e g = record { is = e ∙ sym g; some = λ z. n (ap (λ (x : Break). x.rule) (sym e) ∙ z) }

pub told_as : (o : Option Break) {b b' : Break} → b' ≡ b → Told o b → Told o b'
told_as o e h = subst (λ (x : Break). Told o x) (sym e) h

-- ---- the first of two
pub here : (a b : Break) → (a.rule ≡ 0 → ⊥) → or_else a b ≡ a
unfolding or_else
here a b h = rw (ne_eqb a.rule 0 h)

pub later : (a b : Break) → a.rule ≡ 0 → or_else a b ≡ b
unfolding or_else
later a b h = rw (eq-eqb a.rule 0 h)

-- ---- header codes
headers-next : (t : List ℕ) (at least left : ℕ) {x : ℕ} → 0 < left → x ≡ u16 t at
    → header_break t at least left ≡ cond (ltb x least) (broken header_order at x (least - 1)) (header_break t (at + 2) (x + 1) (left - 1))
unfolding header_break
headers-next t at least zero h e = absurd (not-suc-le-zero h)
headers-next t at least (suc n) h e = rw (e, sub-one (suc n))

module _ {t : List ℕ} {at left x : ℕ} (R : CodeRead t at left x) (least : ℕ) where
  pub headers_fail : x < least → header_break t at least left ≡ broken header_order at x (least - 1)
  headers_fail g = rw (headers-next t at least left R.more R.code_is, lt-ltb x least g)

  pub headers-step : least ≤ x → header_break t at least left ≡ header_break t (at + 2) (x + 1) (left - 1)
  headers-step g = rw (headers-next t at least left R.more R.code_is, le-ltb x least g)

pub headers-done : (t : List ℕ) (at least left : ℕ) → left ≤ 0 → header_break t at least left ≡ unbroken
unfolding header_break
headers-done t at least zero h = refl
headers-done t at least (suc n) h = absurd (not-suc-le-zero h)

-- ---- scopes
module _ (at key least : ℕ) where
  pub order_fails : key < least → order_rule at key least ≡ broken scope_order at ((least - 1) / 65536) ((least - 1) % 65536)
  unfolding order_rule
  order_fails h = rw (lt-ltb key least h)

  pub order-holds : least ≤ key → order_rule at key least ≡ unbroken
  unfolding order_rule
  order-holds h = rw (le-ltb key least h)

module _ (at k c least : ℕ) where
  pub scope-kind : 2 < k → scope_rule at k c least ≡ broken scope_kind_lem at k 0
  unfolding scope_rule
  scope-kind h = rw (lt-ltb 2 k h)

  pub scope-entry : k ≡ 2 → scope_rule at k c least ≡ order_rule at (key_of k c) least
  unfolding scope_rule
  scope-entry h = rw (le-ltb 2 k (omega arith), le-ltb k 2 (omega arith))

  pub scope-code : k < 2 → 0 < c → scope_rule at k c least ≡ broken scope_code_lem (at + 1) c 0
  unfolding scope_rule
  scope-code h g = rw (le-ltb 2 k (omega arith), lt-ltb k 2 h, lt-ltb 0 c g)

  pub scope-plain : k < 2 → c ≤ 0 → scope_rule at k c least ≡ order_rule at (key_of k c) least
  unfolding scope_rule
  scope-plain h g = rw (le-ltb 2 k (omega arith), lt-ltb k 2 h, le-ltb 0 c g)

scopes-next : (t : List ℕ) (at least number left : ℕ) {k c : ℕ} → 0 < left → k ≡ byte t at → c ≡ u16 t (at + 1)
    → scope_break t at least number left
    ≡ or_else (placed (scope_rule at k c least) number k c 0) (scope_break t (at + 5) (key_of k c + 1) (number + 1) (left - 1))
unfolding scope_break
scopes-next t at least number zero h ek ec = absurd (not-suc-le-zero h)
scopes-next t at least number (suc n) h ek ec = rw (ek, ec, sub-one)

-- the kind and the code of one are read
pub record KeyRead (t : List ℕ) (at left k c : ℕ) : Type 0 where
  pub more : 0 < left
  pub kind-is : k ≡ byte t at
  pub code_is : c ≡ u16 t (at + 1)

module _ {t : List ℕ} {at left k c : ℕ} (R : KeyRead t at left k c) (least number : ℕ) {f : Break} (ef : f ≡ scope_rule at k c least) where
  next : scope_break t at least number left ≡ or_else (placed f number k c 0) (scope_break t (at + 5) (key_of k c + 1) (number + 1) (left - 1))
  next =
      scopes-next t at least number left R.more R.kind-is R.code_is
      ∙ ap (λ (x : Break). or_else (placed x number k c 0) (scope_break t (at + 5) (key_of k c + 1) (number + 1) (left - 1))) (sym ef)

  pub scopes_fail : (f.rule ≡ 0 → ⊥) → scope_break t at least number left ≡ placed f number k c 0
  scopes_fail n = next ∙ here (placed f number k c 0) _ n

  pub scopes-step : f.rule ≡ 0 → scope_break t at least number left ≡ scope_break t (at + 5) (key_of k c + 1) (number + 1) (left - 1)
  scopes-step e = next ∙ later (placed f number k c 0) _ e

pub scopes-done : (t : List ℕ) (at least number left : ℕ) → left ≤ 0 → scope_break t at least number left ≡ unbroken
unfolding scope_break
scopes-done t at least number zero h = refl
scopes-done t at least number (suc n) h = absurd (not-suc-le-zero h)

-- ---- rows
module _ (at i x y least : ℕ) where
  pub row-order : i < least → row_rule at i x y least ≡ broken id_order at i (least - 1)
  unfolding row_rule
  row-order h = rw (lt-ltb i least h)

  module _ (up : least ≤ i) where
    pub row-high : 0xFC < i → row_rule at i x y least ≡ broken id_high at i 0
    unfolding row_rule
    row-high h = rw (le-ltb i least up, lt-ltb 0xFC i h)

    module _ (low : i ≤ 0xFC) where
      pub row_target : 0x7FFF < x → row_rule at i x y least ≡ broken target_high (at + 1) x 0
      unfolding row_rule
      row_target h = rw (le-ltb i least up, le-ltb 0xFC i low, lt-ltb 0x7FFF x h)

      pub row-kind : x ≤ 0x7FFF → 4 < y → row_rule at i x y least ≡ broken row_kind (at + 3) y 0
      unfolding row_rule
      row-kind g h = rw (le-ltb i least up, le-ltb 0xFC i low, le-ltb 0x7FFF x g, lt-ltb 4 y h)

      pub row-none : x ≤ 0x7FFF → y ≤ 4 → row_rule at i x y least ≡ unbroken
      unfolding row_rule
      row-none g h = rw (le-ltb i least up, le-ltb 0xFC i low, le-ltb 0x7FFF x g, le-ltb 4 y h)

rows_next : (t : List ℕ) (at least s k c number left : ℕ) {i x y : ℕ} → 0 < left → i ≡ byte t at → x ≡ u16 t (at + 1) → y ≡ byte t (at + 3)
    → row_break t at least s k c number left
    ≡ or_else (placed (row_rule at i x y least) s k c number) (row_break t (at + 4) (i + 1) s k c (number + 1) (left - 1))
unfolding row_break
rows_next t at least s k c number zero h ei ex ey = absurd (not-suc-le-zero h)
rows_next t at least s k c number (suc n) h ei ex ey = rw (ei, ex, ey, sub-one)

module _ {t : List ℕ} {at left : ℕ} {r : RowRead} (more : 0 < left) (R : ReadsRow t at r) (least s k c number : ℕ) {f : Break}
    (ef : f ≡ row_rule at r.id r.target r.kind least) where
  abbrev rest : Break
  rest = row_break t (at + 4) (r.id + 1) s k c (number + 1) (left - 1)

  row_next : row_break t at least s k c number left ≡ or_else (placed f s k c number) rest
  row_next =
      rows_next t at least s k c number left more R.id.is R.target.is R.kind.is
      ∙ ap (λ (x : Break). or_else (placed x s k c number) rest) (sym ef)

  pub rows_fail : (f.rule ≡ 0 → ⊥) → row_break t at least s k c number left ≡ placed f s k c number
  rows_fail n = row_next ∙ here (placed f s k c number) rest n

  pub rows_step : f.rule ≡ 0 → row_break t at least s k c number left ≡ rest
  rows_step e = row_next ∙ later (placed f s k c number) rest e

pub rows-done : (t : List ℕ) (at least s k c number left : ℕ) → left ≤ 0 → row_break t at least s k c number left ≡ unbroken
unfolding row_break
rows-done t at least s k c number zero h = refl
rows-done t at least s k c number (suc n) h = absurd (not-suc-le-zero h)

-- ---- the rows of scopes
bodies_next : (t : List ℕ) (at body number left : ℕ) {k c n : ℕ} → 0 < left → k ≡ byte t at → c ≡ u16 t (at + 1) → n ≡ u16 t (at + 3)
    → rows_break t at body number left ≡ or_else (row_break t body 0 number k c 1 n) (rows_break t (at + 5) (body + 4 * n) (number + 1) (left - 1))
unfolding rows_break
bodies_next t at body number zero h ek ec en = absurd (not-suc-le-zero h)
bodies_next t at body number (suc m) h ek ec en = rw (ek, ec, en, sub-one)

module _ {t : List ℕ} {at left k c n : ℕ} (R : ScopeRead t at left k c n) (body number : ℕ) {f : Break} (ef : f ≡ row_break t body 0 number k c 1 n) where
  body-next : rows_break t at body number left ≡ or_else f (rows_break t (at + 5) (body + 4 * n) (number + 1) (left - 1))
  body-next =
      bodies_next t at body number left R.more R.kind-is R.code_is R.count-is
      ∙ ap (λ (x : Break). or_else x (rows_break t (at + 5) (body + 4 * n) (number + 1) (left - 1))) (sym ef)

  pub bodies_fail : (f.rule ≡ 0 → ⊥) → rows_break t at body number left ≡ f
  bodies_fail h = body-next ∙ here f _ h

  pub bodies_step : f.rule ≡ 0 → rows_break t at body number left ≡ rows_break t (at + 5) (body + 4 * n) (number + 1) (left - 1)
  bodies_step e = body-next ∙ later f _ e

pub bodies_done : (t : List ℕ) (at body number left : ℕ) → left ≤ 0 → rows_break t at body number left ≡ unbroken
unfolding rows_break
bodies_done t at body number zero h = refl
bodies_done t at body number (suc n) h = absurd (not-suc-le-zero h)

-- ---- where the bodies end
pub ends-step : (t : List ℕ) (at end left : ℕ) {n : ℕ} → 0 < left → n ≡ u16 t (at + 3)
    → end + 4 * row_count_lem (scopes_at t at end left) ≡ end + 4 * n + 4 * row_count_lem (scopes_at t (at + 5) (end + 4 * n) (left - 1))
unfolding row_count_lem scopes_at
ends-step t at end zero h e = absurd (not-suc-le-zero h)
ends-step t at end (suc m) h e = rw (e, sub-one) (omega (arith, length-ties_at t end (u16 t (at + 3))))

pub ends-done : (t : List ℕ) (at end left : ℕ) → left ≤ 0 → end + 4 * row_count_lem (scopes_at t at end left) ≡ end
unfolding row_count_lem scopes_at
ends-done t at end zero h = omega arith
ends-done t at end (suc n) h = absurd (not-suc-le-zero h)

-- ---- the bodies
module _ {t : List ℕ} {contents bodies n : ℕ} (B : BodyReady t contents bodies n) where
  pub ends_at : bodies + 4 * row_count_lem (scopes_at t contents bodies n) ≡ end_of t
  ends_at = rw (B.contents-are, B.bodies_are, B.scopes-are)

  pub rows_at : rows_break t contents bodies 1 n ≡ rows_break t (contents_at t) (bodies_at t) 1 (scope_count t)
  rows_at = rw (B.contents-are, B.bodies_are, B.scopes-are)

module _ (t : List ℕ) {e : ℕ} (is : e ≡ end_of t) where
  pub body-short : length t < e → body_break t ≡ broken too_short_lem (length t) (e - length t) 0
  unfolding body_break
  body-short h = rw (is, lt-ltb (length t) (end_of t) (omega arith))

  pub body-long : e ≤ length t → e < length t → body_break t ≡ broken too_long_lem e (length t - e) 0
  unfolding body_break
  body-long g h = rw (is, le-ltb (length t) (end_of t) (omega arith), lt-ltb (end_of t) (length t) (omega arith))

  pub body-rows : e ≤ length t → length t ≤ e → body_break t ≡ rows_break t (contents_at t) (bodies_at t) 1 (scope_count t)
  unfolding body_break
  body-rows g h = rw (le-ltb (length t) (end_of t) (omega arith), le-ltb (end_of t) (length t) (omega arith))

-- ---- the table
pub head-short : (t : List ℕ) → length t < 4 → searched t ≡ broken too_short_lem (length t) (4 - length t) 0
unfolding searched
head-short t h = rw (lt-ltb (length t) 4 h)

pub many-headers : (t : List ℕ) {h : ℕ} → 4 ≤ length t → h ≡ header_count t → 4 < h → searched t ≡ broken many_headers 1 h 0
unfolding searched
many-headers t g eh m = rw (eh, le-ltb (length t) 4 g, lt-ltb 4 (header_count t) (omega arith))

pub many-scopes : (t : List ℕ) {h n : ℕ} → 4 ≤ length t → h ≡ header_count t → h ≤ 4 → n ≡ scope_count t → 64 < n → searched t ≡ broken many_scopes 2 n 0
unfolding searched
many-scopes t g eh f en m = rw (en, le-ltb (length t) 4 g, le-ltb 4 (header_count t) (omega arith), lt-ltb 64 (scope_count t) (omega arith))

-- the counts of a table are read, and none is too many
pub record Counted (t : List ℕ) (h n : ℕ) : Type 0 where
  pub head : 4 ≤ length t
  pub headers-are : h ≡ header_count t
  pub few : h ≤ 4
  pub scopes-are : n ≡ scope_count t
  pub some : n ≤ 64

module _ {t : List ℕ} {h n : ℕ} (C : Counted t h n) where
  few-headers : header_count t ≤ 4
  few-headers = omega (arith, C.headers-are, C.few)

  few-scopes : scope_count t ≤ 64
  few-scopes = omega (arith, C.scopes-are, C.some)

  pub contents-short : length t < 4 + 2 * h + 5 * n → searched t ≡ broken too_short_lem (length t) (4 + 2 * h + 5 * n - length t) 0
  unfolding searched
  contents-short g =
      rw (C.headers-are, C.scopes-are, le-ltb (length t) 4 C.head, le-ltb 4 (header_count t) few-headers, le-ltb 64 (scope_count t) few-scopes, lt-ltb (length t) (bodies_at t) (omega (arith, C.headers-are, C.scopes-are)))

  pub contents-there : 4 + 2 * h + 5 * n ≤ length t → {f : Break} → f ≡ header_break t 4 0 h → searched t ≡ or_else f (or_else (scope_break t (4 + 2 * h) 0 1 n) (body_break t))
  unfolding searched
  contents-there g {f} e =
      rw (e, C.headers-are, C.scopes-are, le-ltb (length t) 4 C.head, le-ltb 4 (header_count t) few-headers, le-ltb 64 (scope_count t) few-scopes, le-ltb (length t) (bodies_at t) (omega (arith, C.headers-are, C.scopes-are)))

pub next-is : {f g : Break} (b : Break) → g ≡ f → or_else f b ≡ or_else g b
next-is {f} {g} b e = ap (λ (x : Break). or_else x b) (sym e)

module _ (t : List ℕ) where
  pub well : well_formed_lem t ≡ true → break_of t ≡ unbroken
  unfolding break_of
  well e = rw e

  pub over : well_formed_lem t ≡ false → longest < length t → break_of t ≡ broken over_longest longest 0 0
  unfolding break_of
  over e h = rw (e, lt-ltb longest (length t) h)

  pub otherwise : well_formed_lem t ≡ false → length t ≤ longest → break_of t ≡ searched t
  unfolding break_of
  otherwise e h = rw (e, le-ltb longest (length t) h)
