-- Names letter by letter.
use Prim.Native.Nat.{ℕ, zero, suc, ◌+◌, ◌*◌, ◌-◌, ◌≤◌, ◌<◌}
use native.Mathlib.Omega.{arith}
use mathlib.Core.Path.{◌≡◌, refl, sym, ap, ap₂, ◌∙◌}
use mathlib.Core.Bool.{Bool, true, false, cond, ◌&&◌, true≢false}
use mathlib.Core.List.{List, [], ◌∷◌, map}
use mathlib.Core.Option.{none, some}
use borrow.Author.Tests.{le-ltb, lt-ltb, ltb-true, ltb-false, le-leb, lt-leb, leb-true, leb-false, ne_eqb}
use lib.Dec.{ltb, leb, eqb}
use Rattle.std.specs.Char.{to_ascii_lowercase}
use Rattle.std.proofs.lemmas.Str.Ascii.{lowercase_is, lowercase_ascii}
use lib.ListN.{length, take, drop}
use lib.Seq.{drop-cons}
use Rattle.rules.specs.Lists.{all, same}
use Rattle.rules.specs.Bytes.{byte, u16, part}
use Rattle.rules.specs.Pairing.{units_in, is_ascii_lem, folded, names_match}
use Rattle.rules.proofs.ListLaws.{and_r}
use Rattle.pairing.specs.Wanted.{same_letter, as_byte_lem, unit_at, units_from, name_of, Inside}
use Rattle.pairing.specs.declared.Wanted.{Wanted}

-- ---- matching
pub and-false : (b : Bool) → (b && false) ≡ false
and-false true = refl
and-false false = refl

-- the first letters, and the others
first-letters : (x y : ℕ) (a b : List ℕ) → names_match (x ∷ a) (y ∷ b) ≡ (same_letter x y && names_match a b)
unfolding names_match same_letter all same
first-letters x y a b = go (is_ascii_lem x) (is_ascii_lem y) (eqb (folded x) (folded y)) (all is_ascii_lem a) (all is_ascii_lem b) (same (map folded a) (map folded b))
  where
    go : (p q r u v w : Bool) → ((p && u) && (q && v) && (r && w)) ≡ ((p && q && r) && (u && v && w))
    go false q r u v w = refl
    go true false r false v w = refl
    go true false r true v w = refl
    go true true false false v w = refl
    go true true false true false w = refl
    go true true false true true w = refl
    go true true true false v w = refl
    go true true true true false w = refl
    go true true true true true w = refl

other-folded : (a b : List ℕ) → ¬ (length a ≡ length b) → same (map folded a) (map folded b) ≡ false
unfolding same
other-folded [] [] h = absurd (h refl)
other-folded [] (y ∷ b) h = refl
other-folded (x ∷ a) [] h = refl
other-folded (x ∷ a) (y ∷ b) h = rw (other-folded a b (λ e. h (ap suc e))) (and-false (eqb (folded x) (folded y)))

-- names of two lengths don't match
pub other_length : (a b : List ℕ) → ¬ (length a ≡ length b) → names_match a b ≡ false
unfolding names_match
other_length a b h = rw (other-folded a b h) (and-false (all is_ascii_lem a && all is_ascii_lem b))

-- what has no byte isn't ASCII
pub as_byte : (u v : ℕ) → same_letter (as_byte_lem u) v ≡ same_letter u v
unfolding same_letter as_byte_lem
as_byte u v = go (ltb u 256) refl
  where
    go : (b : Bool) → ltb u 256 ≡ b → (is_ascii_lem (cond b u 255) && is_ascii_lem v && eqb (folded (cond b u 255)) (folded v)) ≡ (is_ascii_lem u && is_ascii_lem v && eqb (folded u) (folded v))
    go true e = refl
    go false e = let h : 256 ≤ u = ltb-false u 256 e in rw (le-ltb u 128 (omega arith))

pub wide_high : (lo hi : ℕ) → ¬ (hi ≡ 0) → as_byte_lem (lo + 256 * hi) ≡ 255
unfolding as_byte_lem
wide_high lo hi h = rw (le-ltb (lo + 256 * hi) 256 (omega arith))

pub small-byte : (u : ℕ) → u < 256 → as_byte_lem u ≡ u
unfolding as_byte_lem
small-byte u h = rw (lt-ltb u 256 h)

-- ---- letters
lower_is : (b : ℕ) → to_ascii_lowercase b ≡ folded b
lower_is b = go (ltb b 0x41) (leb b 0x5A) refl refl
  where
    go : (low inside : Bool) → ltb b 0x41 ≡ low → leb b 0x5A ≡ inside → to_ascii_lowercase b ≡ folded b
    go true i p q = let h = ltb-true b 0x41 p in (lowercase_is b).1 h ∙ sym (rw (lt-leb 0x41 b h))
    go false true p q =
        let h = ltb-false b 0x41 p in
        let k = leb-true b 0x5A q in
        (lowercase_is b).0 (h, k) ∙ sym (rw (le-leb 0x41 b h, le-leb b 0x5A k))
    go false false p q =
        let h = ltb-false b 0x41 p in
        let k = leb-false b 0x5A q in
        (lowercase_is b).2 k ∙ sym (rw (le-leb 0x41 b h, lt-leb b 0x5A k))

-- where a letter is ASCII, one that folds to it is too
pub matched : (a b : ℕ) → a < 128 → eqb (to_ascii_lowercase a) (to_ascii_lowercase b) ≡ same_letter a b
unfolding same_letter
matched a b h = rw (lt-ltb a 128 h, lower_is a, lower_is b) (go (ltb b 128) refl)
  where
    go : (t : Bool) → ltb b 128 ≡ t → eqb (folded a) (folded b) ≡ (t && eqb (folded a) (folded b))
    go true e = refl
    go false e =
        let k = ltb-false b 128 e in
        let x = sym (lower_is b) ∙ (lowercase_is b).2 (omega arith) in
        let y = lowercase_ascii a h in
        ne_eqb (folded a) (folded b) (λ q. omega (arith, x, y, lower_is a, q))

pub beyond : (a b : ℕ) → 128 ≤ a → false ≡ same_letter a b
unfolding same_letter
beyond a b h = rw (le-ltb a 128 h)

-- letter i of a name, as it is read
module _ (s : List ℕ) (name : Wanted) (i : ℕ) where
  pub wide_inside : Inside s name → name.wide ≡ true → name.start + 2 * name.letters ≤ length s
  wide_inside h e = rw e at h

  pub narrow_inside : Inside s name → name.wide ≡ false → name.start + name.letters ≤ length s
  narrow_inside h e = rw e at h

  pub wide_other : name.wide ≡ true → ¬ (byte s (name.start + 2 * i + 1) ≡ 0) → 255 ≡ as_byte_lem (unit_at s name i)
  unfolding unit_at u16
  wide_other e h = rw e (sym (wide_high (byte s (name.start + 2 * i)) (byte s (name.start + 2 * i + 1)) h))

  pub wide_same : name.wide ≡ true → byte s (name.start + 2 * i + 1) ≡ 0 → byte s (name.start + 2 * i) < 256 → byte s (name.start + 2 * i) ≡ as_byte_lem (unit_at s name i)
  unfolding unit_at u16
  wide_same e h small =
      let low : byte s (name.start + 2 * i) + 256 * byte s (name.start + 2 * i + 1) ≡ byte s (name.start + 2 * i) = omega arith in
      rw (e, low) (sym (small-byte (byte s (name.start + 2 * i)) small))

  pub narrow_same : name.wide ≡ false → byte s (name.start + i) < 256 → byte s (name.start + i) ≡ as_byte_lem (unit_at s name i)
  unfolding unit_at
  narrow_same e small = rw e (sym (small-byte (byte s (name.start + i)) small))

-- ---- a name's letters
part-first : (s : List ℕ) (p n : ℕ) → p < length s → part s p (suc n) ≡ byte s p ∷ part s (p + 1) n
part-first s p n h =
    let q : suc p ≡ p + 1 = omega arith in
    ap (take (suc n)) (drop-cons s p 0 h) ∙ ap (λ (r : ℕ). byte s p ∷ take n (drop r s)) q

module _ (s t : List ℕ) (name : Wanted) (at : ℕ) where
  -- what is left to compare from letter i on
  abbrev pub left : ℕ → Bool
  left i = names_match (units_from s name i (name.letters - i)) (part t (at + i) (name.letters - i))

  pub next-letter : (i : ℕ) → i < name.letters → at + name.letters ≤ length t → left i ≡ (same_letter (unit_at s name i) (byte t (at + i)) && left (i + 1))
  unfolding units_from
  next-letter i u h =
      let n : name.letters - i ≡ suc (name.letters - (i + 1)) = omega arith in
      let p : at + i + 1 ≡ at + (i + 1) = omega arith in
      rw (n, part-first t (at + i) (name.letters - (i + 1)) (omega arith), p)
      (first-letters (unit_at s name i) (byte t (at + i)) (units_from s name (i + 1) (name.letters - (i + 1))) (part t (at + (i + 1)) (name.letters - (i + 1))))

  pub letter-same : (i : ℕ) → i < name.letters → at + name.letters ≤ length t → same_letter (as_byte_lem (unit_at s name i)) (byte t (at + i)) ≡ true → left i ≡ left (i + 1)
  letter-same i u h e = next-letter i u h ∙ ap (λ b. b && left (i + 1)) (sym (as_byte (unit_at s name i) (byte t (at + i))) ∙ e)

  pub letter-other : (i : ℕ) → i < name.letters → at + name.letters ≤ length t → same_letter (as_byte_lem (unit_at s name i)) (byte t (at + i)) ≡ false → left i ≡ false
  letter-other i u h e = next-letter i u h ∙ ap (λ b. b && left (i + 1)) (sym (as_byte (unit_at s name i) (byte t (at + i))) ∙ e)

  pub no-letter : (i : ℕ) → name.letters ≤ i → left i ≡ true
  unfolding units_from names_match all same
  no-letter i h = let n : name.letters - i ≡ 0 = omega arith in rw n

  pub whole : left 0 ≡ names_match (name_of s name) (part t at name.letters)
  unfolding name_of
  whole =
      let n : name.letters - 0 ≡ name.letters = omega arith in
      let p : at + 0 ≡ at = omega arith in
      ap₂ (λ (k q : ℕ). names_match (units_from s name 0 k) (part t q k)) n p

  -- where one letter is another, the names are others
  left-on : (i : ℕ) → i ≤ name.letters → at + name.letters ≤ length t → left 0 ≡ true → left i ≡ true
  left-on zero u h e = e
  left-on (suc i) u h e =
      let here = next-letter i (omega arith) h in
      let z : i + 1 ≡ suc i = omega arith in
      ap left (sym z) ∙ and_r (same_letter (unit_at s name i) (byte t (at + i))) (left (i + 1)) (sym here ∙ left-on i (omega arith) h e)

  pub any-other : (i : ℕ) → i < name.letters → at + name.letters ≤ length t → same_letter (as_byte_lem (unit_at s name i)) (byte t (at + i)) ≡ false
      → names_match (name_of s name) (part t at name.letters) ≡ false
  any-other i u h e = go (left 0) refl
    where
      go : (b : Bool) → left 0 ≡ b → names_match (name_of s name) (part t at name.letters) ≡ false
      go false q = sym whole ∙ q
      go true q = absurd (true≢false (sym (left-on i (omega arith) h q) ∙ letter-other i u h e))

-- of bytes
bytes-from : (s : List ℕ) (start letters i n : ℕ) → start + i + n ≤ length s
    → units_from s (record { start = start; letters = letters; wide = false }) i n ≡ part s (start + i) n
unfolding units_from unit_at
bytes-from s start letters i zero h = refl
bytes-from s start letters i (suc n) h =
    let q : start + (i + 1) ≡ start + i + 1 = omega arith in
    ap (λ l. byte s (start + i) ∷ l) (bytes-from s start letters (i + 1) n (omega arith) ∙ ap (λ (r : ℕ). part s r n) q)
    ∙ sym (part-first s (start + i) n (omega arith))

pub bytes-are : (s : List ℕ) (start letters : ℕ) → start + letters ≤ length s
    → name_of s (record { start = start; letters = letters; wide = false }) ≡ part s start letters
unfolding name_of
bytes-are s start letters h =
    let q : start + 0 ≡ start = omega arith in
    bytes-from s start letters 0 letters (omega arith) ∙ ap (λ (r : ℕ). part s r letters) q

-- of units
two-first : (s : List ℕ) (p n : ℕ) → p + 2 ≤ length s → part s p (2 * suc n) ≡ byte s p ∷ byte s (p + 1) ∷ part s (p + 2) (2 * n)
two-first s p n h =
    let k : 2 * suc n ≡ suc (suc (2 * n)) = omega arith in
    let q : p + 1 + 1 ≡ p + 2 = omega arith in
    ap (part s p) k
    ∙ part-first s p (suc (2 * n)) (omega arith)
    ∙ ap (λ l. byte s p ∷ l) (part-first s (p + 1) (2 * n) (omega arith) ∙ ap (λ (r : ℕ). byte s (p + 1) ∷ part s r (2 * n)) q)

units_from_lem : (s : List ℕ) (start letters i n : ℕ) → start + 2 * i + 2 * n ≤ length s
    → units_in (part s (start + 2 * i) (2 * n)) ≡ some (units_from s (record { start = start; letters = letters; wide = true }) i n)
unfolding units_from unit_at units_in u16
units_from_lem s start letters i zero h = refl
units_from_lem s start letters i (suc n) h =
    let q : start + 2 * i + 2 ≡ start + 2 * (i + 1) = omega arith in
    rw (two-first s (start + 2 * i) n (omega arith), q, units_from_lem s start letters (i + 1) n (omega arith))

pub units_are : (s : List ℕ) (start letters : ℕ) → start + 2 * letters ≤ length s
    → units_in (part s start (2 * letters)) ≡ some (name_of s (record { start = start; letters = letters; wide = true }))
unfolding name_of
units_are s start letters h =
    let q : start ≡ start + 2 * 0 = omega arith in
    ap (λ (r : ℕ). units_in (part s r (2 * letters))) q ∙ units_from_lem s start letters 0 letters (omega arith)

pub odd_none : (l : List ℕ) (n : ℕ) → length l ≡ 2 * n + 1 → units_in l ≡ none
unfolding units_in
odd_none [] n h = absurd (omega arith)
odd_none (a ∷ []) n h = refl
odd_none (a ∷ b ∷ l) zero h = absurd (omega arith)
odd_none (a ∷ b ∷ l) (suc n) h = rw (odd_none l n (omega arith))
