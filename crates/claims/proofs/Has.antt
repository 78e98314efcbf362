-- The bytes that stand in a stream from a position to another.
use Prim.Native.Nat.{ℕ, zero, suc, ◌+◌, ◌-◌, ◌≤◌, ◌<◌}
use native.Mathlib.Omega.{arith}
use native.Mathlib.Nat.{add-zero}
use native.Mathlib.Numerals.{add-one}
use mathlib.Core.Path.{◌≡◌, refl, sym, ap, ◌∙◌}
use mathlib.Core.Bool.{Bool, true, false, cond}
use mathlib.Core.List.{List, [], ◌∷◌, ◌++◌}
use mathlib.Core.Option.{none, some}
use lib.ListN.{length, get_or, take, drop, length-drop}
use lib.Seq.{drop-cons, take_all}
use lib.Dec.{ltb}
use borrow.Author.Tests.{lt-ltb, ltb-true}
use Rattle.rules.specs.Bytes.{byte_at}

infix 3 ◌has◌from◌to◌
pub data ◌has◌from◌to◌ (s : List ℕ) : List ℕ → ℕ → ℕ → Type 0 where
  here : {p : ℕ} → s has [] from p to p
  next : {b p e : ℕ} {a : List ℕ} → byte_at s p ≡ some b → s has a from p + 1 to e → s has b ∷ a from p to e

pub join : {s a b : List ℕ} {p q e : ℕ} → s has a from p to q → s has b from q to e → s has a ++ b from p to e
join here k = k
join (next x h) k = next x (join h k)

pub split : {s b : List ℕ} {p e : ℕ} (a : List ℕ) → s has a ++ b from p to e → (q : ℕ) × (s has a from p to q) × (s has b from q to e)
split [] h = (_, here, h)
split {s = s} {b = b} {p = p} {e = e} (x ∷ a) (next y h) =
    let r = split {p = p + 1} a h in
    (r.0, next y r.1, r.2)

pub byte-there : (s : List ℕ) (p : ℕ) → p < length s → byte_at s p ≡ some (get_or s p 0)
unfolding byte_at
byte-there s p h = rw (lt-ltb p (length s))

-- a byte that is there
pub byte-is : (s : List ℕ) (p b : ℕ) → byte_at s p ≡ some b → (p < length s) × (get_or s p 0 ≡ b)
unfolding byte_at
byte-is s p b e = go (ltb p (length s)) refl e
  where
    go : (t : Bool) → ltb p (length s) ≡ t → cond t (some (get_or s p 0)) none ≡ some b → (p < length s) × (get_or s p 0 ≡ b)
    go true t e = (ltb-true p (length s) t, cc)
    go false t e = absurd (let z : ◌≡◌ {A = ℕ} 0 1 = cc in omega arith)

-- a value that is there
pub value-is : {s v : List ℕ} {p e : ℕ} → p ≤ length s → s has v from p to e → (take (length v) (drop p s) ≡ v) × (p + length v ≡ e) × (e ≤ length s)
value-is l here = (refl, omega arith, l)
value-is {s = s} {p = p} l (next {b = b} {a = a} x h) =
    let y = byte-is s p b x in
    let r = value-is (omega arith) h in
    (rw (drop-cons s p 0 y.0, y.1) (ap (λ t. b ∷ t) (rw add-one at r.0)), omega arith, r.2)

-- and one that is there by its length
pub value_there : (s : List ℕ) (n p : ℕ) → p + n ≤ length s → s has take n (drop p s) from p to p + n
value_there s zero p h = rw add-zero here
value_there s (suc n) p h =
    let e : p + 1 + n ≡ p + suc n = omega arith in
    let r = value_there s n (p + 1) (omega arith) in
    rw (drop-cons s p 0 (omega arith), ← add-one p) (next (byte-there s p (omega arith)) (rw e at r))

onward : {s a : List ℕ} {p e : ℕ} → s has a from p to e → p ≤ e
onward here = omega arith
onward (next x h) = omega (arith, onward h)

-- all bytes from p on
pub whole : {s a : List ℕ} {p e : ℕ} → s has a from p to e → e ≡ length s → drop p s ≡ a
whole {s} {a} {p} {e} h l =
    let r = value-is (omega (arith, onward h)) h in
    sym (take_all (length a) (drop p s) (omega (arith, length-drop p s))) ∙ r.0

pub standing : (s : List ℕ) (p : ℕ) → p ≤ length s → s has drop p s from p to length s
standing s p l =
    let e : p + (length s - p) ≡ length s = omega arith in
    rw (take_all (length s - p) (drop p s) (omega (arith, length-drop p s)), e) at (value_there s (length s - p) p (omega arith))
