-- UTF-8 of well-formed UTF-16 is well formed, and has the same characters.
use Prim.Native.Nat.{ℕ, zero, suc, ◌+◌, ◌*◌, ◌-◌, ◌<◌, ◌≤◌, ◌/◌, ◌%◌}
use native.Mathlib.Omega.{arith}
use mathlib.Core.Path.{◌≡◌, refl, sym, ap, ◌∙◌}
use mathlib.Core.Bool.{Bool, true, false, cond}
use mathlib.Core.List.{List, [], ◌∷◌, ◌++◌, map}
use mathlib.Core.Logic.{inl, inr}
use lib.Dec.{ltb}
use borrow.Author.Tests.{ltb-true, ltb-false, lt-ltb, le-ltb}
use Rattle.rules.specs.Lists.{concat}
use Rattle.rules.specs.Bytes.{Bytes}
use Rattle.rules.specs.Utf16.{is_utf16_lem}
use Rattle.rules.specs.Scalars.{scalars}
use Rattle.rules.specs.Utf8.{utf8_of, utf8}
use Rattle.csvlaws.proofs.Utf8Laws.{Scalar, Scalars, one_byte, two_bytes, three-bytes, four_bytes, by_length, scalars-are}
use Rattle.claims.specs.Ways.{just, in_turn}
use Rattle.claims.specs.Utf8Grammar.{Tail, Starts3, Starts4, Character, one, two, three, four, characters}

-- ---- one character
starts_3 : (c : ℕ) → Scalar c → 0x800 ≤ c → c < 0x10000 → Starts3 (0xE0 + c / 4096) (0x80 + c / 64 % 64)
starts_3 c s h k = go (ltb c 0x1000) (ltb c 0xD000) (ltb c 0xE000) refl refl refl s
  where
    go : (i j l : Bool) → ltb c 0x1000 ≡ i → ltb c 0xD000 ≡ j → ltb c 0xE000 ≡ l → Scalar c → Starts3 (0xE0 + c / 4096) (0x80 + c / 64 % 64)
    go true j l p q r s = let x : c < 0x1000 = ltb-true _ _ p in inl (omega arith, (omega arith, omega arith))
    go false true l p q r s =
        let x : 0x1000 ≤ c = ltb-false _ _ p in
        let y : c < 0xD000 = ltb-true _ _ q in
        inr (inl ((omega arith, omega arith), (omega arith, omega arith)))
    go false false true p q r (inl s) =
        let x : 0xD000 ≤ c = ltb-false _ _ q in
        inr (inr (inl (omega arith, (omega arith, omega arith))))
    go false false true p q r (inr s) = let x : c < 0xE000 = ltb-true _ _ r in absurd (omega arith)
    go false false false p q r s =
        let x : 0xE000 ≤ c = ltb-false _ _ r in
        inr (inr (inr ((omega arith, omega arith), (omega arith, omega arith))))

starts_4 : (c : ℕ) → 0x10000 ≤ c → c < 0x110000 → Starts4 (0xF0 + c / 262144) (0x80 + c / 4096 % 64)
starts_4 c h k = go (ltb c 0x40000) (ltb c 0x100000) refl refl
  where
    go : (i j : Bool) → ltb c 0x40000 ≡ i → ltb c 0x100000 ≡ j → Starts4 (0xF0 + c / 262144) (0x80 + c / 4096 % 64)
    go true j p q = let x : c < 0x40000 = ltb-true _ _ p in inl (omega arith, (omega arith, omega arith))
    go false true p q =
        let x : 0x40000 ≤ c = ltb-false _ _ p in
        let y : c < 0x100000 = ltb-true _ _ q in
        inr (inl ((omega arith, omega arith), (omega arith, omega arith)))
    go false false p q =
        let x : 0x100000 ≤ c = ltb-false _ _ q in
        inr (inr (omega arith, (omega arith, omega arith)))

below : (c : ℕ) → Scalar c → c < 0x110000
below c (inl h) = omega arith
below c (inr h) = h.1

bits : (c x y z d b a : ℕ) → c ≡ x * 64 + d → x ≡ y * 64 + b → y ≡ z * 64 + a
    → c ≡ (((0xF0 + z - 0xF0) * 64 + (0x80 + a - 0x80)) * 64 + (0x80 + b - 0x80)) * 64 + (0x80 + d - 0x80)
bits c x y z d b a p q r = omega arith

module _ (c : ℕ) where
  tail_is : (n : ℕ) → Tail (0x80 + n % 64)
  tail_is n = (omega arith, omega arith)

  in_one : c < 0x80 → Character c (c ∷ [])
  in_one h = let e : c ≤ 0x7F = omega arith in one e

  in_two : 0x80 ≤ c → c < 0x800 → Character c ((0xC0 + c / 64) ∷ (0x80 + c % 64) ∷ [])
  in_two h k =
      let e : c ≡ (0xC0 + c / 64 - 0xC0) * 64 + (0x80 + c % 64 - 0x80) = omega arith in
      let l : 0xC2 ≤ 0xC0 + c / 64 = omega arith in
      let m : 0xC0 + c / 64 ≤ 0xDF = omega arith in
      two (l, m) (tail_is c) e

  in_three : Scalar c → 0x800 ≤ c → c < 0x10000 → Character c ((0xE0 + c / 4096) ∷ (0x80 + c / 64 % 64) ∷ (0x80 + c % 64) ∷ [])
  in_three s h k =
      let e : c ≡ ((0xE0 + c / 4096 - 0xE0) * 64 + (0x80 + c / 64 % 64 - 0x80)) * 64 + (0x80 + c % 64 - 0x80) = omega arith in
      three (starts_3 c s h k) (tail_is c) e

  in_four : 0x10000 ≤ c → c < 0x110000 → Character c ((0xF0 + c / 262144) ∷ (0x80 + c / 4096 % 64) ∷ (0x80 + c / 64 % 64) ∷ (0x80 + c % 64) ∷ [])
  in_four h k =
      let x : c ≡ c / 64 * 64 + c % 64 = omega arith in
      let y : c / 64 ≡ c / 4096 * 64 + c / 64 % 64 = omega arith in
      let z : c / 4096 ≡ c / 262144 * 64 + c / 4096 % 64 = omega arith in
      four (starts_4 c h k) (tail_is (c / 64)) (tail_is c) (bits c (c / 64) (c / 4096) (c / 262144) (c % 64) (c / 64 % 64) (c / 4096 % 64) x y z)

  character : Scalar c → Character c (utf8_of c)
  character s =
      by_length c (Character c)
      (λ h. rw (one_byte c h) (in_one h))
      (λ h k. rw (two_bytes c h k) (in_two h k))
      (λ h k. rw (three-bytes c h k) (in_three s h k))
      (λ h. rw (four_bytes c h) (in_four h (below c s)))

-- ---- all of them
all-characters : (cs : List ℕ) → Scalars cs → characters cs (concat (map utf8_of cs))
unfolding characters concat
all-characters [] h = just
all-characters (c ∷ cs) h = in_turn (character c h.0) (all-characters cs h.1)

pub well-formed : (s : List ℕ) → Bytes s → is_utf16_lem s ≡ true → characters (scalars s) (utf8 s)
unfolding utf8
well-formed s b e = all-characters (scalars s) (scalars-are s b e)

-- ---- bytes have one reading at most
-- the characters, where `n` more bytes are due for the one that is v so far
decode : ℕ → ℕ → List ℕ → List ℕ
decode n v [] = []
decode zero v (b ∷ s) =
    cond (ltb b 0x80) (b ∷ decode 0 0 s)
    (cond (ltb b 0xE0) (decode 1 (b - 0xC0) s)
    (cond (ltb b 0xF0) (decode 2 (b - 0xE0) s)
    (decode 3 (b - 0xF0) s)))
decode (suc zero) v (b ∷ s) = (v * 64 + (b - 0x80)) ∷ decode 0 0 s
decode (suc (suc n)) v (b ∷ s) = decode (suc n) (v * 64 + (b - 0x80)) s

first_3 : (a b : ℕ) → Starts3 a b → (0xE0 ≤ a) × (a < 0xF0)
first_3 a b (inl h) = (omega arith, omega arith)
first_3 a b (inr (inl h)) = (omega arith, omega arith)
first_3 a b (inr (inr (inl h))) = (omega arith, omega arith)
first_3 a b (inr (inr (inr h))) = (omega arith, omega arith)

first_4 : (a b : ℕ) → Starts4 a b → 0xF0 ≤ a
first_4 a b (inl h) = omega arith
first_4 a b (inr (inl h)) = omega arith
first_4 a b (inr (inr h)) = omega arith

decode_one : (c : ℕ) (a s : List ℕ) → Character c a → decode 0 0 (a ++ s) ≡ c ∷ decode 0 0 s
unfolding decode
decode_one c _ s (one h) = rw (lt-ltb c 0x80 (omega arith))
decode_one c _ s (two {a = a} h k e) = rw (le-ltb a 0x80 (omega arith), lt-ltb a 0xE0 (omega arith), e)
decode_one c _ s (three {a = a} {b = b} h k e) =
    let f = first_3 a b h in
    rw (le-ltb a 0x80 (omega arith), le-ltb a 0xE0 (omega arith), lt-ltb a 0xF0 (omega arith), e)
decode_one c _ s (four {a = a} {b = b} h k l e) =
    let f = first_4 a b h in
    rw (le-ltb a 0x80 (omega arith), le-ltb a 0xE0 (omega arith), le-ltb a 0xF0 (omega arith), e)

decode_all : (cs a : List ℕ) → characters cs a → decode 0 0 a ≡ cs
unfolding characters decode
decode_all [] _ just = refl
decode_all (c ∷ cs) _ (in_turn {a = a} {b = b} h k) = decode_one c a b h ∙ ap (λ l. c ∷ l) (decode_all cs b k)

pub one-reading : (a cs ds : List ℕ) → characters cs a → characters ds a → cs ≡ ds
one-reading a cs ds h k = sym (decode_all cs a h) ∙ decode_all ds a k
