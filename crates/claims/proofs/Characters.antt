-- UTF-16: what was written is read, and what is well formed was written.
use Prim.Native.Nat.{ℕ, zero, suc, ◌+◌, ◌*◌, ◌-◌, ◌/◌, ◌%◌, ◌≤◌, ◌<◌}
use native.Mathlib.Omega.{arith}
use mathlib.Core.Path.{◌≡◌, refl, sym, ap, ◌∙◌}
use mathlib.Core.Bool.{Bool, true, false, cond}
use mathlib.Core.List.{List, [], ◌∷◌, ◌++◌}
use mathlib.Core.Logic.{◌⊎◌, inl, inr}
use lib.Dec.{ltb, leb}
use lib.ListN.{length, length-append}
use borrow.Author.Tests.{lt-ltb, le-ltb, lt-leb, le-leb, ltb-true, ltb-false, leb-true, ne_eqb, not-true}
use Rattle.rules.specs.Lists.{keep}
use Rattle.rules.specs.Bytes.{Bytes}
use Rattle.rules.specs.Utf16.{is_high, is_low, same, paired, is_utf16_lem}
use Rattle.rules.specs.Scalars.{scalar, scalars_from, scalars}
use Rattle.rules.proofs.ListLaws.{and_l, and_r}
use Rattle.claims.specs.Ways.{just, half, ◌then◌, in_turn, first, second, with, ◌from◌to◌}
use Rattle.claims.specs.Characters.{Scalar, Scalars, character, characters, pairs, Wish5}
use Rattle.claims.proofs.Texts.{formed}

no : {X : Type 0} → true ≡ false → X
no e = let z : ◌≡◌ {A = ℕ} 0 1 = cc in absurd (omega arith)

-- ---- units
-- which half of a pair a unit is
module _ (u : ℕ) where
  high_is : 0xD800 ≤ u → u < 0xDC00 → is_high u ≡ true
  high_is h k = rw (le-leb 0xD800 u h, lt-ltb u 0xDC00 k)

  low-is : 0xDC00 ≤ u → u < 0xE000 → is_low u ≡ true
  low-is h k = rw (le-leb 0xDC00 u h, lt-ltb u 0xE000 k)

  below_high : u < 0xD800 → is_high u ≡ false
  below_high h = rw (lt-leb 0xD800 u h)

  above-high : 0xDC00 ≤ u → is_high u ≡ false
  above-high h = rw (le-leb 0xD800 u (omega arith), le-ltb u 0xDC00 h)

  below_low : u < 0xDC00 → is_low u ≡ false
  below_low h = rw (lt-leb 0xDC00 u h)

  above_low : 0xE000 ≤ u → is_low u ≡ false
  above_low h = rw (le-leb 0xDC00 u (omega arith), le-ltb u 0xE000 h)

  from-high : is_high u ≡ true → (0xD800 ≤ u) × (u < 0xDC00)
  from-high e = (leb-true _ _ (and_l (leb 0xD800 u) (ltb u 0xDC00) e), ltb-true _ _ (and_r (leb 0xD800 u) (ltb u 0xDC00) e))

  from_low : is_low u ≡ true → (0xDC00 ≤ u) × (u < 0xE000)
  from_low e = (leb-true _ _ (and_l (leb 0xDC00 u) (ltb u 0xE000) e), ltb-true _ _ (and_r (leb 0xDC00 u) (ltb u 0xE000) e))

  -- what is no half is a character by itself
  neither : u < 65536 → is_high u ≡ false → is_low u ≡ false → (u ≤ 0xD7FF) ⊎ (u from 0xE000 to 0xFFFF)
  neither l h k = go (ltb u 0xD800) (ltb u 0xDC00) (ltb u 0xE000) refl refl refl
    where
      go : (a b c : Bool) → ltb u 0xD800 ≡ a → ltb u 0xDC00 ≡ b → ltb u 0xE000 ≡ c → (u ≤ 0xD7FF) ⊎ (u from 0xE000 to 0xFFFF)
      go true b c p q r = let x : u < 0xD800 = ltb-true _ _ p in inl (omega arith)
      go false true c p q r = no (sym (high_is (ltb-false _ _ p) (ltb-true _ _ q)) ∙ h)
      go false false true p q r = no (sym (low-is (ltb-false _ _ q) (ltb-true _ _ r)) ∙ k)
      go false false false p q r = let x : 0xE000 ≤ u = ltb-false _ _ r in inr (x, omega arith)

-- ---- what was written is read
whole : (u : ℕ) → u % 256 + 256 * (u / 256) ≡ u
whole u = omega arith

-- of a character, whatever follows it
record One (c : ℕ) (a : List ℕ) : Type 0 where
  value : Scalar c
  read : (s : List ℕ) → scalars (a ++ s) ≡ c ∷ scalars s
  formed : (s : List ℕ) → paired false (a ++ s) ≡ paired false s
  size : length a ≡ 2 * (1 + length (pairs (c ∷ [])))

one_unit : (c : ℕ) → Scalar c → c ≤ 0xFFFF → is_high c ≡ false → is_low c ≡ false → One c (c % 256 ∷ c / 256 ∷ [])
unfolding scalars scalars_from scalar paired keep
one_unit c v l h k = record {
  value = v;
  read = λ s. rw (whole c, h);
  formed = λ s. rw (whole c, h, k);
  size = rw (le-ltb 0xFFFF c l) (omega arith);
}

unit_below : (c : ℕ) → c ≤ 0xD7FF → One c (c % 256 ∷ c / 256 ∷ [])
unit_below c l = one_unit c (inl l) (omega arith) (below_high c (omega arith)) (below_low c (omega arith))

unit_above : (c : ℕ) → c from 0xE000 to 0xFFFF → One c (c % 256 ∷ c / 256 ∷ [])
unit_above c l =
    let e : c ≤ 0x10FFFF = omega arith in
    one_unit c (inr (l.0, e)) l.1 (above-high c (omega arith)) (above_low c l.0)

module _ (c h l : ℕ) (range : c from 0x10000 to 0x10FFFF) (hl : 0xD800 ≤ h) (hu : h < 0xDC00) (ll : 0xDC00 ≤ l) (lu : l < 0xE000)
    (is : 0x10000 + (h - 0xD800) * 0x400 + (l - 0xDC00) ≡ c) where
  one-pair : One c (h % 256 ∷ h / 256 ∷ l % 256 ∷ l / 256 ∷ [])
  unfolding scalars scalars_from scalar paired keep
  one-pair =
      let e : 0xE000 ≤ c = omega arith in
      let some : (h ≡ 0 → ⊥) = λ z. omega arith in
      record {
        value = inr (e, range.1);
        read = λ s. rw (whole h, whole l, high_is h hl hu, above-high l ll, ne_eqb h 0 some, is);
        formed = λ s. rw (whole h, whole l, below_low h hu, high_is h hl hu, low-is l ll lu, above-high l ll);
        size = rw (lt-ltb 0xFFFF c (omega arith)) (omega arith);
      }

pair_read : (c : ℕ) → c from 0x10000 to 0x10FFFF → let h = 0xD800 + (c - 0x10000) / 0x400 in let l = 0xDC00 + (c - 0x10000) % 0x400 in One c (h % 256 ∷ h / 256 ∷ l % 256 ∷ l / 256 ∷ [])
pair_read c r =
    one-pair c (0xD800 + (c - 0x10000) / 0x400) (0xDC00 + (c - 0x10000) % 0x400) r (omega arith) (omega arith) (omega arith) (omega arith) (omega arith)

one : (c : ℕ) (a : List ℕ) → character c a → One c a
one c _ (first (with h (in_turn just just))) = unit_below c h
one c _ (second (first (with h (in_turn just just)))) = unit_above c h
one c _ (second (second (with h (in_turn (in_turn just just) (in_turn just just))))) = pair_read c h

-- of all
pairs-more : (c : ℕ) (cs : List ℕ) → length (pairs (c ∷ cs)) ≡ length (pairs (c ∷ [])) + length (pairs cs)
unfolding keep
pairs-more c cs = go (ltb 0xFFFF c)
  where
    go : (t : Bool) → length (cond t (c ∷ pairs cs) (pairs cs)) ≡ length (cond t (c ∷ []) []) + length (pairs cs)
    go true = omega arith
    go false = omega arith

record All (cs s : List ℕ) : Type 0 where
  values : Scalars cs
  read : scalars s ≡ cs
  formed : paired false s ≡ true
  size : length s ≡ 2 * (length cs + length (pairs cs))

none : All [] []
unfolding scalars scalars_from paired keep
none = record { values = tt; read = refl; formed = refl; size = omega arith }

more : (c : ℕ) (cs a b : List ℕ) → One c a → All cs b → All (c ∷ cs) (a ++ b)
more c cs a b o r = record {
  values = (o.value, r.values);
  read = o.read b ∙ ap (λ l. c ∷ l) r.read;
  formed = o.formed b ∙ r.formed;
  size = length-append a b ∙ omega (arith, o.size, r.size, pairs-more c cs);
}

all : (cs s : List ℕ) → characters cs s → All cs s
unfolding characters
all [] _ just = none
all (c ∷ cs) _ (in_turn {a = a} {b = b} h k) = more c cs a b (one c a h) (all cs b k)

-- ---- what is well formed was written
half-written : (x y : ℕ) → x < 256 → half (x + 256 * y) (x ∷ y ∷ [])
half-written x y h =
    let e : (x + 256 * y) % 256 ≡ x = omega arith in
    let f : (x + 256 * y) / 256 ≡ y = omega arith in
    rw (e, f) (in_turn just just)

alone-written : (x y : ℕ) → x < 256 → (x + 256 * y ≤ 0xD7FF) ⊎ (x + 256 * y from 0xE000 to 0xFFFF) → character (x + 256 * y) (x ∷ y ∷ [])
alone-written x y h (inl l) = first (with l (half-written x y h))
alone-written x y h (inr l) = second (first (with l (half-written x y h)))

module _ (a b x y : ℕ) (sa : a < 256) (sx : x < 256) (hl : 0xD800 ≤ a + 256 * b) (hu : a + 256 * b < 0xDC00) (ll : 0xDC00 ≤ x + 256 * y) (lu : x + 256 * y < 0xE000) where
  pair_is : (c : ℕ) → c ≡ 0x10000 + (a + 256 * b - 0xD800) * 0x400 + (x + 256 * y - 0xDC00) → character c (a ∷ b ∷ x ∷ y ∷ [])
  pair_is c e =
      let f : 0xD800 + (c - 0x10000) / 0x400 ≡ a + 256 * b = omega arith in
      let g : 0xDC00 + (c - 0x10000) % 0x400 ≡ x + 256 * y = omega arith in
      let r : 0x10000 ≤ c = omega arith in
      let q : c ≤ 0x10FFFF = omega arith in
      let w : (half (0xD800 + (c - 0x10000) / 0x400) then half (0xDC00 + (c - 0x10000) % 0x400)) (a ∷ b ∷ x ∷ y ∷ []) = rw (f, g) (in_turn (half-written a b sa) (half-written x y sx)) in
      second (second (with (r, q) w))

  pair-written : character (scalar (a + 256 * b) (x + 256 * y)) (a ∷ b ∷ x ∷ y ∷ [])
  unfolding scalar
  pair-written = pair_is _ (rw (ne_eqb (a + 256 * b) 0 (λ z. omega arith)))

-- the bytes of a first half that came before
abbrev before : Bool → ℕ → ℕ → List ℕ
before true a b = a ∷ b ∷ []
before false a b = []

record Half (a b high : ℕ) : Type 0 where
  small : a < 256
  is : high ≡ a + 256 * b
  least : 0xD800 ≤ high
  most : high < 0xDC00

abbrev Waits : Bool → ℕ → ℕ → ℕ → Type 0
Waits true a b high = Half a b high
Waits false a b high = high ≡ 0

-- one unit, and what follows it
module _ (x y : ℕ) (s : List ℕ) (sx : x < 256) (small : x + 256 * y < 65536) where
  abbrev u : ℕ
  u = x + 256 * y

  unit_written : (pending : Bool) (a b high : ℕ) → Waits pending a b high → same pending (is_low u) ≡ true
      → (t : Bool) → is_high u ≡ t → (Waits t x y (cond t u 0) → characters (scalars_from (cond t u 0) s) (before t x y ++ s))
      → characters (cond t (scalars_from u s) (scalar high u ∷ scalars_from 0 s)) (before pending a b ++ (x ∷ y ∷ s))
  unfolding characters scalar
  unit_written true a b high w e true h k = absurd (omega (arith, from-high u h, from_low u e))
  unit_written true a b high w e false h k =
      rw w.is (in_turn (pair-written a b x y w.small sx (omega (arith, w.is, w.least)) (omega (arith, w.is, w.most)) (from_low u e).0 (from_low u e).1) (k refl))
  unit_written false a b high w e true h k = k (record { small = sx; is = refl; least = (from-high u h).0; most = (from-high u h).1 })
  unit_written false a b high w e false h k = rw w (in_turn (alone-written x y sx (neither u small h (not-true (is_low u) e))) (k refl))

written_from : (s : List ℕ) (pending : Bool) (a b high : ℕ) → Bytes s → Waits pending a b high → paired pending s ≡ true → characters (scalars_from high s) (before pending a b ++ s)
unfolding characters paired scalars_from
written_from [] true a b high small w e = no (sym e)
written_from [] false a b high small w e = just
written_from (x ∷ []) pending a b high small w e = no (sym e)
written_from (x ∷ y ∷ s) pending a b high small w e =
    let u = x + 256 * y in
    let both = same pending (is_low u) in
    unit_written x y s (small 0) (omega (arith, small 0, small 1)) pending a b high w (and_l both (paired (is_high u) s) e) (is_high u) refl
    (λ q. written_from s (is_high u) x y (cond (is_high u) u 0) (λ i. small (suc (suc i))) q (and_r both (paired (is_high u) s) e))

written : (s : List ℕ) → Bytes s → is_utf16_lem s ≡ true → characters (scalars s) s
unfolding is_utf16_lem scalars
written s b e = written_from s false 0 0 0 b refl e

-- ---- any scalar values are written by some bytes
no_bytes : Bytes []
no_bytes i = omega arith

half-bytes : (u : ℕ) (s : List ℕ) → u < 65536 → Bytes s → Bytes (u % 256 ∷ u / 256 ∷ s)
half-bytes u s h k zero = omega arith
half-bytes u s h k (suc zero) = omega arith
half-bytes u s h k (suc (suc i)) = k i

abbrev Text : List ℕ → Type 0
Text cs = (s : List ℕ) × (Bytes s × characters cs s)

put : (c : ℕ) (cs a s : List ℕ) → character c a → characters cs s → Bytes (a ++ s) → Text (c ∷ cs)
unfolding characters
put c cs a s h w k = (a ++ s, (k, in_turn h w))

-- one, before others
module _ (c : ℕ) (cs s : List ℕ) (k : Bytes s) (w : characters cs s) where
  below_more : c ≤ 0xD7FF → Text (c ∷ cs)
  below_more h = put c cs (c % 256 ∷ c / 256 ∷ []) s (first (with h (in_turn just just))) w (half-bytes c s (omega arith) k)

  above_more : c from 0xE000 to 0xFFFF → Text (c ∷ cs)
  above_more h = put c cs (c % 256 ∷ c / 256 ∷ []) s (second (first (with h (in_turn just just)))) w (half-bytes c s (omega arith) k)

  pair-more : c from 0x10000 to 0x10FFFF → Text (c ∷ cs)
  pair-more h =
      let high = 0xD800 + (c - 0x10000) / 0x400 in
      let low = 0xDC00 + (c - 0x10000) % 0x400 in
      put c cs (high % 256 ∷ high / 256 ∷ low % 256 ∷ low / 256 ∷ []) s (second (second (with h (in_turn (in_turn just just) (in_turn just just))))) w
      (half-bytes high (low % 256 ∷ low / 256 ∷ s) (omega arith) (half-bytes low s (omega arith) k))

  text-more : Scalar c → Text (c ∷ cs)
  text-more (inl h) = below_more h
  text-more (inr h) = go (ltb 0xFFFF c) refl
    where
      go : (t : Bool) → ltb 0xFFFF c ≡ t → Text (c ∷ cs)
      go true e = let l : 0x10000 ≤ c = omega (arith, ltb-true 0xFFFF c e) in pair-more (l, h.1)
      go false e = above_more (h.0, ltb-false 0xFFFF c e)

texts : (cs : List ℕ) → Scalars cs → Text cs
unfolding characters
texts [] h = ([], (no_bytes, just))
texts (c ∷ cs) h = let t = texts cs h.1 in text-more c cs t.0 t.1.0 t.1.1 h.0

pub wish5 : Wish5
unfolding is_utf16_lem
wish5 = record {
  formed = formed;
  well-formed = λ s b. ((λ e. (scalars s, written s b e)), λ t. (all t.0 s t.1).formed);
  counted = λ s cs h. (all cs s h).read;
  scalar-values = λ s cs h. (all cs s h).values;
  every_text = texts;
  number = λ s b e. omega (arith, (all (scalars s) s (written s b e)).size);
}
