-- One step along the units of UTF-16.
use mathlib.Core.Path.{◌≡◌, refl, sym, ap, subst, ◌∙◌}
use mathlib.Core.Bool.{Bool, true, false, cond, not, ◌&&◌, beq}
use mathlib.Core.List.{List, [], ◌∷◌}
use Prim.Native.Nat.{ℕ, zero, suc, ◌/◌, ◌+◌, ◌*◌, ◌-◌, ◌<◌, ◌≤◌}
use native.Mathlib.Nat.{mul-suc}
use native.Mathlib.Numerals.{add-one}
use native.Mathlib.Omega.{arith}
use lib.ListN.{length, get_or, take, drop, length-drop}
use lib.Seq.{drop-cons, drop-drop}
use lib.Dec.{ltb}
use borrow.Author.Tests.{lt-leb, lt-ltb, le-ltb, ltb-true, ltb-false}
use Rattle.std.specs.List.{count_by}
use Rattle.std.proofs.lemmas.List.{get_or-take, get_or-drop}
use Rattle.std.proofs.lemmas.List.Sums.{sum_by-cons}
use Rattle.std.proofs.lemmas.Slice.{between_to_end}
use Rattle.std.specs.Int.{w16, from_le_bytes}
use Rattle.std.specs.Simd.{first_chunks}
use Rattle.rules.specs.Bytes.{Bytes, byte, u16}
use Rattle.rules.specs.Utf16.{is_high, is_low, same, paired}
use Rattle.rules.specs.Scalars.{scalars_from, scalars}
use Rattle.rules.proofs.ScalarLaws.{ended, by_unit}
use Rattle.rules.proofs.ListLaws.{and_l, and_r}
use Rattle.utf16.specs.Plain.{is_plain, plain_four, four_below, ends_one, Skipped}

pub two : (s : List ℕ) (i : ℕ) → i + 1 < length s → drop i s ≡ byte s i ∷ byte s (i + 1) ∷ drop (i + 2) s
two s i h =
    drop-cons s i 0 (omega arith)
    ∙ ap (λ (n : ℕ). byte s i ∷ drop n s) (sym (add-one i))
    ∙ ap (λ (l : List ℕ). byte s i ∷ l) (drop-cons s (i + 1) 0 h)
    ∙ ap (λ (n : ℕ). byte s i ∷ byte s (i + 1) ∷ drop n s) {x = suc (i + 1)} {y = i + 2} (omega arith)

no : {X : Type 0} → false ≡ true → X
no e = let z : ◌≡◌ {A = ℕ} 0 1 = cc in absurd (omega arith)

-- what the test `a != b` of two flags says
pub agree : (a b : Bool) → not (beq a b) ≡ false → a ≡ b
agree true true e = refl
agree true false e = no (sym e)
agree false true e = no (sym e)
agree false false e = refl

pub differ : (a b : Bool) → not (beq a b) ≡ true → same b a ≡ false
differ true true e = no e
differ true false e = refl
differ false true e = refl
differ false false e = no e

same-is : (p : Bool) → same p p ≡ true
same-is true = refl
same-is false = refl

module _ (s : List ℕ) (i : ℕ) (pending : Bool) (h : i + 1 < length s) where
  at-two : paired pending (drop i s) ≡ (same pending (is_low (u16 s i)) && paired (is_high (u16 s i)) (drop (i + 2) s))
  unfolding paired u16
  at-two = ap (λ (l : List ℕ). paired pending l) (two s i h)

  goes : is_low (u16 s i) ≡ pending → paired pending (drop i s) ≡ paired (is_high (u16 s i)) (drop (i + 2) s)
  goes e = at-two ∙ rw (e, same-is pending)

  stops : same pending (is_low (u16 s i)) ≡ false → paired pending (drop i s) ≡ false
  stops e = at-two ∙ rw e

counts : (s : List ℕ) (i : ℕ) → i + 1 < length s → length (scalars (drop i s)) ≡ ended (u16 s i) + length (scalars (drop (i + 2) s))
unfolding scalars u16
counts s i h = ap (λ (l : List ℕ). length (scalars_from 0 l)) (two s i h) ∙ by_unit 0 (byte s i) (byte s (i + 1)) (drop (i + 2) s)

-- ---- units below the surrogates
onward : {s : List ℕ} {a b c : ℕ} → Skipped s a b → Skipped s b c → Skipped s a c
onward h k = record { inside = k.inside; same = h.same ∙ k.same; count = h.count ∙ k.count }

-- one, where no first half came before
plain : (s : List ℕ) (i : ℕ) → i + 1 < length s → u16 s i < 0xD800 → Skipped s i (i + 2)
plain s i h l =
    let e : is_high (u16 s i) ≡ false = simp (lt-leb 0xD800 (u16 s i) l) in
    let one : ended (u16 s i) ≡ 1 = rw e in
    record {
      inside = omega arith;
      same = goes s i false h (simp (lt-leb 0xDC00 (u16 s i) (omega arith))) ∙ ap (λ (t : Bool). paired t (drop (i + 2) s)) e;
      count = omega (arith, counts s i h, one);
    }

-- four, by their high bytes
plain-high : (s : List ℕ) (p q : ℕ) → Bytes s → q ≡ p + 1 → is_plain (u16 s p) ≡ ltb (byte s q) 0xD8
unfolding u16
plain-high s p q k e = go (ltb (byte s q) 0xD8) refl
  where
    go : (t : Bool) → ltb (byte s q) 0xD8 ≡ t → is_plain (byte s p + 256 * byte s (p + 1)) ≡ t
    go true t = lt-ltb (byte s p + 256 * byte s (p + 1)) 0xD800 (omega (arith, k p, ltb-true (byte s q) 0xD8 t, ap (λ (n : ℕ). byte s n) e))
    go false t = le-ltb (byte s p + 256 * byte s (p + 1)) 0xD800 (omega (arith, ltb-false (byte s q) 0xD8 t, ap (λ (n : ℕ). byte s n) e))

high-bytes : (s : List ℕ) (p : ℕ) → Bytes s → plain_four s p ≡ (ltb (byte s (p + 1)) 0xD8 && ltb (byte s (p + 3)) 0xD8 && ltb (byte s (p + 5)) 0xD8 && ltb (byte s (p + 7)) 0xD8)
unfolding plain_four
high-bytes s p k = rw (plain-high s p (p + 1) k refl, plain-high s (p + 2) (p + 3) k (omega arith), plain-high s (p + 4) (p + 5) k (omega arith), plain-high s (p + 6) (p + 7) k (omega arith))

four-plain : (s : List ℕ) (i : ℕ) → i + 8 ≤ length s → plain_four s i ≡ true → Skipped s i (i + 8)
unfolding plain_four
four-plain s i h t =
    let a = is_plain (u16 s i) in
    let b = is_plain (u16 s (i + 2)) in
    let c = is_plain (u16 s (i + 4)) in
    let d = is_plain (u16 s (i + 6)) in
    let three = and_l (a && b && c) d t in
    let two = and_l (a && b) c three in
    onward (plain s i (omega arith) (ltb-true _ _ (and_l a b two)))
    (onward (step (i + 2) (i + 4) (omega arith) (omega arith) (ltb-true _ _ (and_r a b two)))
    (onward (step (i + 4) (i + 6) (omega arith) (omega arith) (ltb-true _ _ (and_r (a && b) c three)))
    (step (i + 6) (i + 8) (omega arith) (omega arith) (ltb-true _ _ (and_r (a && b && c) d t)))))
  where
    step : (p q : ℕ) → p + 1 < length s → q ≡ p + 2 → u16 s p < 0xD800 → Skipped s p q
    step p q l e u = rw e (plain s p l u)

-- one byte is left over, or none
over : (pending : Bool) (l : List ℕ) → length l ≡ 1 → paired pending l ≡ false
unfolding paired
over pending [] e = absurd (omega arith)
over pending (a ∷ []) e = refl
over pending (a ∷ b ∷ l) e = absurd (omega arith)

done : (pending : Bool) (l : List ℕ) → length l ≡ 0 → paired pending l ≡ not pending
unfolding paired
done pending [] e = refl
done pending (a ∷ l) e = absurd (omega arith)

module _ (s : List ℕ) (i : ℕ) (pending : Bool) (h : i ≤ length s) (few : length s - i ≤ 1) where
  pub left_over : i < length s → paired pending (drop i s) ≡ false
  left_over l = over pending (drop i s) (length-drop i s ∙ omega arith)

  pub all_read : length s ≤ i → paired pending (drop i s) ≡ not pending
  all_read l = done pending (drop i s) (length-drop i s ∙ omega arith)

-- ---- units as arrays: of two bytes, and four units at a time
chunk_at : (n k m : ℕ) (s : List ℕ) → k < m → get_or (first_chunks n m s) k [] ≡ take n (drop (n * k) s)
chunk_at n k zero s h = absurd (omega arith)
chunk_at n zero (suc m) s h = ap (λ (i : ℕ). take n (drop i s)) {x = 0} {y = n * 0} (omega arith)
chunk_at n (suc k) (suc m) s h =
    chunk_at n k m (drop n s) (omega arith)
    ∙ ap (take n) (drop-drop (n * k) n s ∙ ap (λ (i : ℕ). drop i s) {x = n + n * k} {y = n * suc k} (omega (arith, mul-suc n k)))

length-chunks : (n m : ℕ) (s : List ℕ) → length (first_chunks n m s) ≡ m
length-chunks n zero s = refl
length-chunks n (suc m) s = ap (λ (k : ℕ). suc k) (length-chunks n m (drop n s))

-- the units of bytes, each an array of two
pub record Units (s : List ℕ) (units : List (List ℕ)) : Type 0 where
  pub are : units ≡ first_chunks 2 (length s / 2) s

-- those from a place on, as a slice from there has them
pub units_from : {units : List (List ℕ)} (s : List ℕ) (i : ℕ) → units ≡ first_chunks 2 (length (take (length s - i) (drop i s)) / 2) (take (length s - i) (drop i s)) → Units (drop i s) units
units_from s i e = record { are = e ∙ ap (λ (l : List ℕ). first_chunks 2 (length l / 2) l) (between_to_end s i (length s) (omega arith)) }

module _ {s : List ℕ} {units : List (List ℕ)} (U : Units s units) where
  pub many_units : length units ≡ length s / 2
  many_units = ap (λ (l : List (List ℕ)). length l) U.are ∙ length-chunks 2 (length s / 2) s

  module _ (k : ℕ) (h : k < length units) where
    pub unit_there : 2 * k + 1 < length s
    unit_there = omega (arith, many_units)

    pub unit_is : get_or units k [] ≡ byte s (2 * k) ∷ byte s (2 * k + 1) ∷ []
    unit_is =
        ap (λ (l : List (List ℕ)). get_or l k []) U.are
        ∙ chunk_at 2 k (length s / 2) s (omega (arith, many_units))
        ∙ ap (take 2) (two s (2 * k) unit_there)

    pub unit_number : from_le_bytes w16 (get_or units k []) ≡ u16 s (2 * k)
    unfolding u16
    unit_number = ap (from_le_bytes w16) unit_is ∙ omega arith

    pub next_unit : drop (2 * k) s ≡ byte s (2 * k) ∷ byte s (2 * k + 1) ∷ drop (2 * (k + 1)) s
    next_unit = two s (2 * k) unit_there ∙ ap (λ (i : ℕ). byte s (2 * k) ∷ byte s (2 * k + 1) ∷ drop i s) {x = 2 * k + 2} {y = 2 * (k + 1)} (omega arith)

    module _ (pending : Bool) (u : ℕ) (e : u ≡ from_le_bytes w16 (get_or units k [])) where
      is : u ≡ u16 s (2 * k)
      is = e ∙ unit_number

      pub unit_goes : is_low u ≡ pending → paired pending (drop (2 * k) s) ≡ paired (is_high u) (drop (2 * (k + 1)) s)
      unit_goes l =
          let p : 2 * k + 2 ≡ 2 * (k + 1) = omega arith in
          goes s (2 * k) pending unit_there (sym (ap is_low is) ∙ l) ∙ (λ t. paired (is_high (sym is t)) (drop (p t) s))

      pub unit_stops : same pending (is_low u) ≡ false → paired pending (drop (2 * k) s) ≡ false
      unit_stops l = stops s (2 * k) pending unit_there (sym (ap (λ (n : ℕ). same pending (is_low n)) is) ∙ l)

byte_in : (n i j : ℕ) (s : List ℕ) → j < n → byte (take n (drop i s)) j ≡ byte s (i + j)
byte_in n i j s h = get_or-take n (drop i s) j 0 h ∙ get_or-drop i s j 0

four_in : (i : ℕ) (s : List ℕ) → four_below (take 8 (drop i s)) ≡ (ltb (byte s (i + 1)) 0xD8 && ltb (byte s (i + 3)) 0xD8 && ltb (byte s (i + 5)) 0xD8 && ltb (byte s (i + 7)) 0xD8)
four_in i s =
    let a = byte_in 8 i 1 s (omega arith) in
    let b = byte_in 8 i 3 s (omega arith) in
    let c = byte_in 8 i 5 s (omega arith) in
    let d = byte_in 8 i 7 s (omega arith) in
    λ t. ltb (a t) 0xD8 && ltb (b t) 0xD8 && ltb (c t) 0xD8 && ltb (d t) 0xD8

upto : {s : List ℕ} {a b : ℕ} (c : ℕ) → Skipped s a b → b ≡ c → Skipped s a c
upto {s} {a} c h e = subst (λ (i : ℕ). Skipped s a i) e h

module _ {s : List ℕ} where
  pub four_more : {fours : List (List ℕ)} {n : ℕ} → fours ≡ first_chunks 8 (length s / 8) s → n < length fours → Bytes s → four_below (get_or fours n []) ≡ true
      → Skipped s 0 (8 * n) → Skipped s 0 (8 * (n + 1))
  four_more {fours} {n} e h k t w =
      let m : n < length s / 8 = omega (arith, ap (λ (l : List (List ℕ)). length l) e, length-chunks 8 (length s / 8) s) in
      let at = ap (λ (l : List (List ℕ)). get_or l n []) e ∙ chunk_at 8 n (length s / 8) s m in
      let f = high-bytes s (8 * n) k ∙ sym (ap four_below at ∙ four_in (8 * n) s) ∙ t in
      upto (8 * (n + 1)) (onward w (four-plain s (8 * n) (omega arith) f)) (omega arith)

  pub unit_more : {units : List (List ℕ)} {n : ℕ} → Units s units → n < length units → from_le_bytes w16 (get_or units n []) < 0xD800
      → Skipped s 0 (2 * n) → Skipped s 0 (2 * (n + 1))
  unit_more {units} {n} U h l w = upto (2 * (n + 1)) (onward w (plain s (2 * n) (unit_there U n h) (omega (arith, unit_number U n h)))) (omega arith)

-- what is skipped of the bytes from a place on is skipped of all
pub beyond : {s : List ℕ} {i r : ℕ} → i ≤ length s → Skipped (drop i s) 0 r → Skipped s i (i + r)
beyond {s} {i} {r} h w = record {
  inside = omega (arith, w.inside, length-drop i s);
  same = w.same ∙ ap (λ (l : List ℕ). paired false l) (drop-drop r i s);
  count = omega (arith, w.count, ap (λ (l : List ℕ). length (scalars l)) (drop-drop r i s));
}

-- ---- the characters that units end
counted-by : (a b n : ℕ) → ended (a + 256 * b) + n ≡ cond (ends_one (a ∷ b ∷ [])) 1 0 + n
counted-by a b n = go (is_high (a + 256 * b)) ∙ ap (λ (u : ℕ). cond (not (is_high u)) 1 0 + n) {x = a + 256 * b} {y = a + b * 256} (omega arith)
  where
    go : (t : Bool) → cond t 0 1 + n ≡ cond (not t) 1 0 + n
    go true = refl
    go false = refl

counted-of : (s : List ℕ) → length (scalars s) ≡ count_by ends_one (first_chunks 2 (length s / 2) s)
unfolding scalars scalars_from
counted-of [] = refl
counted-of (a ∷ []) = refl
counted-of (a ∷ b ∷ s) =
    by_unit 0 a b s
    ∙ ap (λ (n : ℕ). ended (a + 256 * b) + n) (counted-of s)
    ∙ counted-by a b _
    ∙ sym (sum_by-cons (λ (u : List ℕ). cond (ends_one u) 1 0) (a ∷ b ∷ []) (first_chunks 2 (length s / 2) s))
    ∙ ap (λ (m : ℕ). count_by ends_one (first_chunks 2 m (a ∷ b ∷ s))) {x = suc (length s / 2)} {y = length (a ∷ b ∷ s) / 2} (omega arith)

pub counted : {s : List ℕ} {units : List (List ℕ)} → Units s units → length (scalars s) ≡ count_by ends_one units
counted {s} {units} U = counted-of s ∙ sym (ap (count_by ends_one) U.are)
