-- One turn of each loop, said of the definitions: what is left to decide after a test, and what is left at the end.
use Prim.Native.Nat.{ℕ, zero, suc, ◌+◌, ◌-◌, ◌*◌, ◌≤◌, ◌<◌}
use mathlib.Core.Path.{◌≡◌, refl, ap, ◌∙◌}
use mathlib.Core.Logic.{◌⊎◌, inl, inr}
use mathlib.Core.List.{List, ◌∷◌, map}
use mathlib.Core.Bool.{Bool, true, false, ◌&&◌, ◌||◌, and-true, and-false, or-true}
use native.Mathlib.Nat.{not-suc-le-zero}
use native.Mathlib.Numerals.{sub-one}
use native.Mathlib.Omega.{arith}
use lib.ListN.{length}
use lib.Dec.{leb, ltb, eqb}
use borrow.Author.Tests.{lt-ltb, le-ltb, le-leb, lt-leb, leb-true, leb-false, eq-eqb, ne_eqb}
use Rattle.std.specs.List.{list_any, range_with_len}
use Rattle.rules.specs.Lists.{all, has, ascends}
use Rattle.rules.specs.Bytes.{byte, u16}
use Rattle.rules.specs.CodeTable.{Tie, Scope, id_of, key, key_of, codes_at, tie_at, ties_at, scopes_at, tie_ok, ties_ok, scope_ok, row_count_lem, scopes_fit, well_formed_lem}
use Rattle.joinlaws.proofs.TableBytesLaws.{length-ties_at}
use Rattle.codetable.specs.Reads.{ties_from, scopes_from}

-- ---- codes
pub codes_next : (t : List ℕ) (at left : ℕ) → 0 < left → codes_at t at left ≡ u16 t at ∷ codes_at t (at + 2) (left - 1)
unfolding codes_at
codes_next t at zero h = absurd (not-suc-le-zero h)
codes_next t at (suc k) h = rw sub-one

-- one code is read
pub record CodeRead (t : List ℕ) (at left x : ℕ) : Type 0 where
  pub more : 0 < left
  pub code_is : x ≡ u16 t at

-- of n codes from `start` on those from i on
abbrev pub codes_from : List ℕ → ℕ → ℕ → ℕ → List ℕ
codes_from t start n i = codes_at t (start + 2 * i) (n - i)

-- the one at i is read
pub record CodeOf (t : List ℕ) (start n i x : ℕ) : Type 0 where
  pub more : i < n
  pub code_is : x ≡ u16 t (start + 2 * i)

module _ {t : List ℕ} {start n i x : ℕ} (R : CodeOf t start n i x) where
  codes_split : codes_from t start n i ≡ x ∷ codes_from t start n (i + 1)
  codes_split =
      let next : start + 2 * i + 2 ≡ start + 2 * (i + 1) = omega arith in
      let left : n - i - 1 ≡ n - (i + 1) = omega arith in
      rw (codes_next t (start + 2 * i) (n - i) (omega (arith, R.more)), ← R.code_is, next, left)

  pub codes_fail : (least : ℕ) → x < least → ascends least (codes_from t start n i) ≡ false
  unfolding ascends
  codes_fail least h = rw (codes_split, lt-leb least x h)

  pub codes_step : (least : ℕ) → least ≤ x → ascends least (codes_from t start n i) ≡ ascends (x + 1) (codes_from t start n (i + 1))
  unfolding ascends
  codes_step least h = rw (codes_split, le-leb least x h)

pub codes_done : (t : List ℕ) (start n i least : ℕ) → n ≤ i → ascends least (codes_from t start n i) ≡ true
unfolding ascends codes_at
codes_done t start n i least h =
    let left : n - i ≡ zero = omega arith in
    rw left

-- a code is among n, looked at one by one
pub has_by_one : (t : List ℕ) (code start n i : ℕ) → has code (codes_at t (start + 2 * i) n) ≡ list_any (λ k. eqb (u16 t (start + 2 * k)) code) (range_with_len i n)
unfolding has codes_at
has_by_one t code start zero i = refl
has_by_one t code start (suc n) i =
    let next : start + 2 * i + 2 ≡ start + 2 * (i + 1) = omega arith in
    rw (next, has_by_one t code start n (i + 1))

-- ---- rows
-- of n rows from `start` on those from i on
abbrev pub ties_left : List ℕ → ℕ → ℕ → ℕ → List Tie
ties_left t start n i = ties_at t (start + 4 * i) (n - i)

pub ties_begin : (t : List ℕ) (start n : ℕ) → ties_from 0 (ties_left t start n 0) ≡ ties_ok (ties_at t start n)
unfolding ties_from ties_ok
ties_begin t start n =
    let place : start + 4 * 0 ≡ start = omega arith in
    let left : n - 0 ≡ n = omega arith in
    rw (place, left)

pub ties_next : (t : List ℕ) (at left : ℕ) → 0 < left → ties_at t at left ≡ tie_at t at ∷ ties_at t (at + 4) (left - 1)
unfolding ties_at
ties_next t at zero h = absurd (not-suc-le-zero h)
ties_next t at (suc k) h = rw sub-one

-- an id from `least` on is at most 0xFC exactly when what may come next is below 0xFE, and then `least` was too
ids_last : (least i : ℕ) → least ≤ i → (b : Bool) → leb i 0xFC ≡ b → (p q : Bool) → (ltb least 0xFE && p && (b && q)) ≡ (ltb (i + 1) 0xFE && p && q)
ids_last least i h true e p q = rw (lt-ltb least 0xFE (omega (arith, leb-true i 0xFC e)), lt-ltb (i + 1) 0xFE (omega (arith, leb-true i 0xFC e)))
ids_last least i h false e p q = rw (le-ltb (i + 1) 0xFE (omega (arith, leb-false i 0xFC e)), and-false)

-- a row's id is read, and the low byte of its target is a byte
pub record TieRead (t : List ℕ) (start n k i : ℕ) : Type 0 where
  pub more : k < n
  pub id-is : i ≡ byte t (start + 4 * k)
  pub low_small : byte t (start + 4 * k + 1) < 256

module _ {t : List ℕ} {start n k i : ℕ} (R : TieRead t start n k i) (least : ℕ) where
  abbrev place : ℕ
  place = start + 4 * k

  abbrev later : List Tie
  later = ties_left t start n (k + 1)

  ties_split : ties_from least (ties_left t start n k)
      ≡ (ltb least 0xFE
      && (leb least i && ascends (i + 1) (map id_of later))
      && ((leb i 0xFC && ltb (u16 t (place + 1)) 0x8000 && leb (byte t (place + 3)) 4) && all tie_ok later))
  unfolding ties_from ascends all
  ties_split =
      let next : place + 4 ≡ start + 4 * (k + 1) = omega arith in
      let left : n - k - 1 ≡ n - (k + 1) = omega arith in
      rw (ties_next t place (n - k) (omega (arith, R.more)), ← R.id-is, next, left)

  target_is : u16 t (place + 1) ≡ byte t (place + 1) + 256 * byte t (place + 2)
  unfolding u16
  target_is =
      let e : place + 1 + 1 ≡ place + 2 = omega arith in
      rw e

  pub ties_low : i < least → ties_from least (ties_left t start n k) ≡ false
  ties_low h = rw (ties_split, lt-leb least i h, and-false)

  pub ties_target : 0x7F < byte t (place + 2) → ties_from least (ties_left t start n k) ≡ false
  ties_target h = rw (ties_split, le-ltb (u16 t (place + 1)) 0x8000 (omega (arith, target_is)), and-false, and-false)

  pub ties_kind : 4 < byte t (place + 3) → ties_from least (ties_left t start n k) ≡ false
  ties_kind h = rw (ties_split, lt-leb (byte t (place + 3)) 4 h, and-false, and-false)

  -- a row that is let through leaves it to the rows after it, and to what may come next
  pub ties_step : least ≤ i → byte t (place + 2) ≤ 0x7F → byte t (place + 3) ≤ 4 → ties_from least (ties_left t start n k) ≡ ties_from (i + 1) later
  unfolding ties_from
  ties_step hl hx hk =
      rw (ties_split, le-leb least i hl, lt-ltb (u16 t (place + 1)) 0x8000 (omega (arith, target_is, R.low_small)), le-leb (byte t (place + 3)) 4 hk, and-true (leb i 0xFC && true), and-true (leb i 0xFC))
      (ids_last least i hl (leb i 0xFC) refl _ _)

pub ties_done : (t : List ℕ) (start n k least : ℕ) → n ≤ k → ties_from least (ties_left t start n k) ≡ ltb least 0xFE
unfolding ties_from ties_at ascends all
ties_done t start n k least h =
    let left : n - k ≡ zero = omega arith in
    rw left (and-true (ltb least 0xFE && true) ∙ and-true (ltb least 0xFE))

-- ---- scopes
pub scopes-next : (t : List ℕ) (at body left : ℕ) → 0 < left
    → scopes_at t at body left
    ≡ record { kind = byte t at; code = u16 t (at + 1); rows = ties_at t body (u16 t (at + 3)) }
    ∷ scopes_at t (at + 5) (body + 4 * u16 t (at + 3)) (left - 1)
unfolding scopes_at
scopes-next t at body zero h = absurd (not-suc-le-zero h)
scopes-next t at body (suc k) h = rw sub-one

-- one scope of the contents is read
pub record ScopeRead (t : List ℕ) (at left k c n : ℕ) : Type 0 where
  pub more : 0 < left
  pub kind-is : k ≡ byte t at
  pub code_is : c ≡ u16 t (at + 1)
  pub count-is : n ≡ u16 t (at + 3)

-- of m scopes from `start` on the one at i is read
pub record ScopeOf (t : List ℕ) (start m i k c n : ℕ) : Type 0 where
  pub more : i < m
  pub kind-is : k ≡ byte t (start + 5 * i)
  pub code_is : c ≡ u16 t (start + 5 * i + 1)
  pub count-is : n ≡ u16 t (start + 5 * i + 3)

-- what those from i on decide, where their bodies start at `body`
abbrev pub scopes_left : List ℕ → ℕ → ℕ → ℕ → ℕ → ℕ → Bool
scopes_left t start m i least body = scopes_from t least (start + 5 * i) body (m - i)

pub scopes_begin : (t : List ℕ) (start body m : ℕ) → scopes_left t start m 0 0 body ≡ scopes_fit t start body m
unfolding scopes_from scopes_fit
scopes_begin t start body m =
    let place : start + 5 * 0 ≡ start = omega arith in
    let left : m - 0 ≡ m = omega arith in
    rw (place, left)

module _ {t : List ℕ} {start m i k c n : ℕ} (R : ScopeOf t start m i k c n) (body least : ℕ) where
  abbrev rest : List Scope
  rest = scopes_at t (start + 5 * (i + 1)) (body + 4 * n) (m - (i + 1))

  scopes_first : scopes_at t (start + 5 * i) body (m - i) ≡ record { kind = k; code = c; rows = ties_at t body n } ∷ rest
  scopes_first =
      let next : start + 5 * i + 5 ≡ start + 5 * (i + 1) = omega arith in
      let left : m - i - 1 ≡ m - (i + 1) = omega arith in
      rw (scopes-next t (start + 5 * i) body (m - i) (omega (arith, R.more)), ← R.kind-is, ← R.code_is, ← R.count-is, next, left)

  scopes_split : scopes_left t start m i least body
      ≡ ((leb least (key_of k c) && ascends (key_of k c + 1) (map key rest))
      && ((leb k 2 && (eqb k 2 || eqb c 0) && ties_ok (ties_at t body n)) && all scope_ok rest)
      && eqb (body + 4 * (length (ties_at t body n) + row_count_lem rest)) (length t))
  unfolding scopes_from ascends all row_count_lem
  scopes_split = rw scopes_first

  pub scopes-kind : 2 < k → scopes_left t start m i least body ≡ false
  scopes-kind h = rw (scopes_split, lt-leb k 2 h, and-false)

  pub scopes-code : k ≤ 2 → (k ≡ 2 → ⊥) → (c ≡ 0 → ⊥) → scopes_left t start m i least body ≡ false
  scopes-code hk h2 hc = rw (scopes_split, le-leb k 2 hk, ne_eqb k 2 h2, ne_eqb c 0 hc, and-false)

  pub scopes-low : key_of k c < least → scopes_left t start m i least body ≡ false
  scopes-low h = rw (scopes_split, lt-leb least (key_of k c) h)

  pub scopes_past : length t < body + 4 * n → scopes_left t start m i least body ≡ false
  scopes_past h =
      rw (
        scopes_split,
        ne_eqb (body + 4 * (length (ties_at t body n) + row_count_lem rest)) (length t) (λ e. omega (arith, length-ties_at t body n)),
        and-false,
      )

  pub scopes-rows : k ≤ 2 → (eqb k 2 || eqb c 0) ≡ true → ties_ok (ties_at t body n) ≡ false → scopes_left t start m i least body ≡ false
  scopes-rows hk hc h = rw (scopes_split, le-leb k 2 hk, hc, h, and-false)

  pub scopes-step : least ≤ key_of k c → k ≤ 2 → (eqb k 2 || eqb c 0) ≡ true → ties_ok (ties_at t body n) ≡ true
      → scopes_left t start m i least body ≡ scopes_left t start m (i + 1) (key_of k c + 1) (body + 4 * n)
  unfolding scopes_from
  scopes-step hl hk hc hr =
      rw (scopes_split, le-leb least (key_of k c) hl, le-leb k 2 hk, hc, hr)
      (ap (λ (e : ℕ). ascends (key_of k c + 1) (map key rest) && all scope_ok rest && eqb e (length t))
      (omega (arith, length-ties_at t body n)))

pub code_ok : (k c : ℕ) → (k ≡ 2) ⊎ (c ≡ 0) → (eqb k 2 || eqb c 0) ≡ true
code_ok k c (inl h) = rw (eq-eqb k 2 h)
code_ok k c (inr h) = rw (eq-eqb c 0 h, or-true)

pub scopes-done : (t : List ℕ) (start m i body least : ℕ) → m ≤ i → scopes_left t start m i least body ≡ eqb body (length t)
unfolding scopes_from scopes_at ascends all row_count_lem
scopes-done t start m i body least h =
    let left : m - i ≡ zero = omega arith in
    rw left (ap (λ (e : ℕ). eqb e (length t)) (omega arith))

-- ---- the whole table
-- the two counts at its front are read
pub record Counts (t : List ℕ) (h n : ℕ) : Type 0 where
  pub headers-is : h ≡ byte t 1
  pub scopes-is : n ≡ u16 t 2

module _ {t : List ℕ} {h n : ℕ} (C : Counts t h n) where
  formed_split : well_formed_lem t
      ≡ (leb h 4 && leb n 64 && ascends 0 (codes_at t 4 h) && scopes_fit t (4 + 2 * h) (4 + 2 * h + 5 * n) n)
  unfolding well_formed_lem
  formed_split = rw (← C.headers-is, ← C.scopes-is)

  pub formed-headers : 4 < h → well_formed_lem t ≡ false
  formed-headers p = rw (formed_split, lt-leb h 4 p)

  pub formed-scopes : h ≤ 4 → 64 < n → well_formed_lem t ≡ false
  formed-scopes p q = rw (formed_split, le-leb h 4 p, lt-leb n 64 q)

  pub formed_codes : h ≤ 4 → n ≤ 64 → ascends 0 (codes_at t 4 h) ≡ false → well_formed_lem t ≡ false
  formed_codes p q r = rw (formed_split, le-leb h 4 p, le-leb n 64 q, r)

  pub formed-rest : h ≤ 4 → n ≤ 64 → ascends 0 (codes_at t 4 h) ≡ true → well_formed_lem t ≡ scopes_fit t (4 + 2 * h) (4 + 2 * h + 5 * n) n
  formed-rest p q r = rw (formed_split, le-leb h 4 p, le-leb n 64 q, r)
